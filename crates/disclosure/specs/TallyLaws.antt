-- A tally counts what a walk lists.
use Rattle.std.specs.Prelude.{Bool, false, true, List, ◌∷◌, map, ◌≢◌, ◌≡◌, eqb, ltb, replicate, set}
use Rattle.std.proofs.Common.{◌∙◌, ap, length-set, get_or-set_other, get_or-set_same}
use Rattle.std.proofs.Math.Path.{refl, sym}
use Prim.Native.Nat.{◌*◌, ◌+◌, ◌-◌, ◌<◌, ◌≤◌, min, suc, zero, ℕ}
use native.Mathlib.Omega.{arith}
use Rattle.std.proofs.Math.ListN.{get_or, length, length-append}
use Rattle.std.specs.Int.{from_bool}
use Rattle.std.proofs.lemmas.List.{length-map, length-replicate}
use Rattle.disclosure.specs.Tallied.{Tallied, last_row, row_words, tally_words}
use Rattle.verdicts.specs.VerdictLaws.{guided_next}
use Rattle.verdicts.specs.Verdicts.{Guided, leads, listed}
use Rattle.verdicts.specs.declared.Verdict.{Verdict}
use Rattle.disclosure.specs.VisitLaws.{followed_more, inside_more, visit_last, visit_more}
use Rattle.disclosure.specs.Visited.{followed, further_most, inside, under}
use Rattle.laws.specs.Lists.{getD_zeros}
use Rattle.model.specs.Basics.Choice.{Below, Same, below, it, other, over, same, under as led}
use Rattle.model.specs.List.BoundLaws.{through_grows, visit_bound, walk_bound}
use Rattle.model.specs.List.Reach.{reach}
use Rattle.model.specs.List.Walk.{here, through, visit}
use Rattle.model.specs.Request.Reference.{standing}
use Rattle.model.specs.Tables.Layout.{tables_of}
use Rattle.model.specs.Tables.Words.{entity_count, place_count, places}

-- ---- no tally wraps

-- where each name finds no less, all of them find no less
through_least : (n : ℕ) (f g : ℕ → List (List ℕ)) → ((p : ℕ) → length (f p) ≤ length (g p)) → length (through n f) ≤ length (through n g)
unfolding through
through_least zero f g h = omega arith
through_least (suc n) f g h = simp (length-append, length-map) (omega (arith, through_least n f g h, h (suc n)))

module _ (t : List ℕ) (v : List Verdict) where
  -- one name more finds no less
  under_grows : (k e : ℕ) → length (under t v k e) ≤ length (under t v (suc k) e)
  unfolding visit
  under_grows zero e = omega (arith, length-append (here (listed v e)) (through (leads v e) (λ p. under t v zero (standing (tables_of t) e p))))
  under_grows (suc k) e = omega (
    arith,
    length-append (here (listed v e)) (through (leads v e) (λ p. under t v k (standing (tables_of t) e p))),
    length-append (here (listed v e)) (through (leads v e) (λ p. under t v (suc k) (standing (tables_of t) e p))),
    through_least (leads v e) (λ p. under t v k (standing (tables_of t) e p)) (λ p. under t v (suc k) (standing (tables_of t) e p))
        (λ p. under_grows k (standing (tables_of t) e p)),
  )

  -- and so do several
  under_grown : (j k e : ℕ) → length (under t v k e) ≤ length (under t v (j + k) e)
  under_grown zero k e = let q : zero + k ≡ k = omega arith in rw q (omega arith)
  under_grown (suc j) k e = let q : suc j + k ≡ suc (j + k) = omega arith in rw q (omega (arith, under_grown j k e, under_grows (j + k) e))

  inside_under : (k e : ℕ) → length (inside t v k e (leads v e)) ≤ length (under t v (suc k) e)
  unfolding visit
  inside_under k e = omega (arith, length-append (here (listed v e)) (through (leads v e) (λ p. under t v k (standing (tables_of t) e p))))

  module _ (g : Guided t v) where
    few : (e : ℕ) → leads v e ≤ place_count
    few e = omega (arith, g.used e, g.ranged.room e)

    -- so many at most by all further names, so by fewer
    under_most : (e : ℕ) → length (under t v further_most e) ≤ reach further_most
    under_most e = visit_bound (leads v) (standing (tables_of t)) (listed v) few e

    pub under_few : (k e : ℕ) → k ≤ further_most → length (under t v k e) ≤ reach further_most
    under_few k e h =
        let q : further_most - k + k ≡ further_most = omega arith in
        omega (arith, rw q at (under_grown (further_most - k) k e), under_most e)

    -- of all places, those that lead on are counted
    pub places_all : (k e p : ℕ) → place_count ≤ p → length (inside t v k e (min p (leads v e))) ≡ length (inside t v k e (leads v e))
    places_all k e p h =
        let q : min p (leads v e) ≡ leads v e = omega (arith, few e) in
        ap (λ (n : ℕ). length (inside t v k e n)) q

    pub inside_few : (k e p : ℕ) → k < further_most → p ≤ leads v e → length (inside t v k e p) ≤ reach further_most
    inside_few k e p h l =
        omega (arith, through_grows p (leads v e) (λ j. under t v k (standing (tables_of t) e j)) l, under_few (suc k) e (omega arith), inside_under k e)

    pub followed_few : (n : ℕ) → length (followed t v n) ≤ n * reach further_most
    followed_few n = walk_bound (leads v) (standing (tables_of t)) (listed v) few n

  -- ---- what one entity has

  -- no place leads on
  pub inside_none : (k e : ℕ) → leads v e ≡ 0 → 0 ≡ length (inside t v k e (leads v e))
  unfolding through
  inside_none k e h = sym (ap (λ (n : ℕ). length (inside t v k e n)) h)

  -- before the first place
  pub inside_first : (k e : ℕ) → 0 ≡ length (inside t v k e (min 0 (leads v e)))
  unfolding through
  inside_first k e =
      let z : min 0 (leads v e) ≡ 0 = omega arith in
      sym (ap (λ (n : ℕ). length (inside t v k e n)) z)

  -- the flag of a verdict counts the entity itself
  counted_here : (b : Bool) → from_bool b ≡ length (here b)
  counted_here true = refl
  counted_here false = refl

  pub tally_last : (k e : ℕ) → k ≡ 0 → from_bool (listed v e) ≡ length (under t v k e)
  tally_last k e z = counted_here (listed v e) ∙ ap length (sym (visit_last t v k e z))

  pub tally_more : (k e s : ℕ) → k ≢ 0 → s ≡ length (inside t v (k - 1) e (leads v e)) → from_bool (listed v e) + s ≡ length (under t v k e)
  tally_more k e s z h =
      omega (arith, counted_here (listed v e), ap length (visit_more t v k e z), length-append (here (listed v e)) (inside t v (k - 1) e (leads v e)))

  -- ---- rows of tallies

  pub tallied_none : Tallied t v 0 (replicate tally_words 0)
  tallied_none = record {
    size = length-replicate {A = ℕ} tally_words 0;
    none = λ k. getD_zeros tally_words (k * row_words);
    told = λ k e low high l. absurd (omega arith);
  }

  module _ (b : List ℕ) where
    pub tallied_less : (m n : ℕ) → m ≤ n → Tallied t v n b → Tallied t v m b
    tallied_less m n h y = record { size = y.size; none = y.none; told = λ k e low high l. y.told k e low high (omega arith) }

    -- the first word of a row is no entity's
    pub tallied_first : (k : ℕ) → Tallied t v (k * row_words) b → Tallied t v (k * row_words + 1) b
    tallied_first k y = record { size = y.size; none = y.none; told = λ j e low high l. y.told j e low high (omega arith) }

    -- the next word of a row
    pub tallied_more : (k i x : ℕ) → k ≤ further_most → i < entity_count → Tallied t v (k * row_words + (i + 1)) b → x ≡ length (under t v k (i + 1))
        → Tallied t v (k * row_words + (i + 1 + 1)) (set b (k * row_words + (i + 1)) x)
    tallied_more k i x few l y h = record {
      size = length-set b (k * row_words + (i + 1)) x ∙ y.size;
      none = λ j. get_or-set_other b (k * row_words + (i + 1)) (j * row_words) x 0 (λ q. omega arith) ∙ y.none j;
      told = λ j c low high m. go j c low high m (eqb (j * row_words + c) (k * row_words + (i + 1))) (same (j * row_words + c) (k * row_words + (i + 1)));
    }
      where
        go : (j c : ℕ) → 1 ≤ c → c ≤ entity_count → j * row_words + c < k * row_words + (i + 1 + 1) → (s : Bool)
            → Same (j * row_words + c) (k * row_words + (i + 1)) s → get_or (set b (k * row_words + (i + 1)) x) (j * row_words + c) 0 ≡ length (under t v j c)
        go j c low high m true (it w) =
            let row : k ≡ j = omega arith in
            let at : i + 1 ≡ c = omega arith in
            let room : k * row_words + (i + 1) < length b = omega (arith, y.size) in
            rw w (get_or-set_same b (k * row_words + (i + 1)) x 0 room ∙ h) ∙ ap (λ (r : ℕ). length (under t v r (i + 1))) row
            ∙ ap (λ (r : ℕ). length (under t v j r)) at
        go j c low high m false (other w) = get_or-set_other b (k * row_words + (i + 1)) (j * row_words + c) x 0 w ∙ y.told j c low high (omega arith)

    module _ (n : ℕ) (y : Tallied t v n b) where
      -- one place more that leads on
      place_leads : (k e p c s : ℕ) → 1 ≤ c → c ≤ entity_count → (k + 1) * row_words ≤ n → c ≡ places (tables_of t) e p → s ≡ length (inside t v k e p)
          → s + get_or b (k * row_words + c) 0 ≡ length (inside t v k e (p + 1))
      place_leads k e p c s low high l z h = omega (
        arith,
        y.told k c low high (omega arith),
        ap (λ (d : ℕ). length (under t v k d)) z,
        ap length (inside_more t v k e p),
        length-append (inside t v k e p) (map (λ r. (p + 1) ∷ r) (under t v k (places (tables_of t) e p))),
        length-map (under t v k (places (tables_of t) e p)) (λ r. (p + 1) ∷ r),
      )

      -- one that holds nothing
      place_none : (k c s : ℕ) → c ≡ 0 → s + get_or b (k * row_words + c) 0 ≡ s
      place_none k c s z = let q : k * row_words + c ≡ k * row_words = omega arith in omega (arith, ap (λ (i : ℕ). get_or b i 0) q, y.none k)

      -- one place more of an entity from which some lead on
      pub tally_place : Guided t v → (k e p c s : ℕ) → 1 ≤ leads v e → (k + 1) * row_words ≤ n → c ≡ places (tables_of t) e p
          → s ≡ length (inside t v k e (min p (leads v e))) → s + get_or b (k * row_words + c) 0 ≡ length (inside t v k e (min (p + 1) (leads v e)))
      tally_place g k e p c s w l z h = go (ltb p (leads v e)) (below p (leads v e))
        where
          go : (x : Bool) → Below p (leads v e) x → s + get_or b (k * row_words + c) 0 ≡ length (inside t v k e (min (p + 1) (leads v e)))
          go true (led o) =
              let f : min p (leads v e) ≡ p = omega arith in
              let m : p + 1 ≡ min (p + 1) (leads v e) = omega arith in
              let i = guided_next t v g e (leads v e) p refl o c z in
              place_leads k e p c s i.0 i.1 l z (h ∙ ap (λ (j : ℕ). length (inside t v k e j)) f) ∙ ap (λ (j : ℕ). length (inside t v k e j)) m
          go false (over o) =
              let m : min p (leads v e) ≡ min (p + 1) (leads v e) = omega arith in
              place_none k c s (z ∙ g.rest e w p o) ∙ h ∙ ap (λ (j : ℕ). length (inside t v k e j)) m

      -- the last row tells what each entity begins
      pub last_row_lem : (p : ℕ) → p < entity_count → tally_words ≤ n → get_or b (last_row + p) 0 ≡ length (under t v further_most (p + 1))
      last_row_lem p h l =
          let at : last_row + p ≡ further_most * row_words + (p + 1) = omega arith in
          ap (λ (i : ℕ). get_or b i 0) at ∙ y.told further_most (p + 1) (omega arith) (omega arith) (omega arith)

      -- one entity more
      pub tally_entity : (p s : ℕ) → p < entity_count → tally_words ≤ n → s ≡ length (followed t v p) → s + get_or b (last_row + p) 0 ≡ length
          (followed t v (p + 1))
      tally_entity p s h l q = omega (
        arith,
        last_row_lem p h l,
        ap length (followed_more t v p),
        length-append (followed t v p) (map (λ r. (p + 1) ∷ r) (under t v further_most (p + 1))),
        length-map (under t v further_most (p + 1)) (λ r. (p + 1) ∷ r),
      )

      -- nothing goes on from an entity with the tally 0
      pub tally_nothing : (k e : ℕ) → k ≤ further_most → tally_words ≤ n → 1 ≤ e → e ≤ entity_count → get_or b (k * row_words + e) 0 ≡ 0
          → length (under t v k e) ≡ 0
      tally_nothing k e h l low high z = sym (y.told k e low high (omega arith)) ∙ z
