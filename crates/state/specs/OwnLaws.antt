-- All that is asked of one entity, pass by pass.
use Rattle.std.specs.Prelude.{Bool, ◌&&◌, ◌||◌, false, true, ◌≢◌, ◌⊎◌, ◌≡◌, refl, ◌+◌, ◌-◌, ◌<◌, ◌≤◌, suc, zero, ℕ, eqb, ltb}
use Rattle.std.proofs.Math.Bool.{not}
use Rattle.std.proofs.Common.{inl, inr, ◌∙◌, arith, ne_eqb}
use Rattle.std.proofs.Math.Path.{ap, sym}
use Rattle.laws.specs.Bools.{agrees_pick, and_comm, imp_quiet, imp_shown}
use Rattle.laws.specs.Loops.{seek_within}
use Rattle.model.specs.Basics.Agree.{Agrees, agrees_and, agrees_eq, agrees_every, agrees_le, agrees_or}
use Rattle.model.specs.Basics.Choice.{Below, below, over, under}
use Rattle.model.specs.Basics.TestLaws.{equal_bools, is_true}
use Rattle.model.specs.Basics.Tests.{every, imp}
use Rattle.model.specs.State.AgreeRecords.{Eight, access_agrees, good_agrees}
use Rattle.model.specs.State.Tests.{access_test, entity_test, filled_test}
use Rattle.model.specs.State.WellFormed.{Access, GoodTriple}
use Rattle.model.specs.Tables.Layout.{Bounded}
use Rattle.model.specs.Tables.RowLaws.{before, sought}
use Rattle.model.specs.Tables.Rows.{Sought, seek}
use Rattle.model.specs.Tables.Words.{Tables, used_places, device_kind, devices, kinds, place_count, places, sums}
use Rattle.model.specs.Tables.Words.{triples, user_count}
use Rattle.state.specs.EntityLaws.{apart, used_agrees, filled_passes, unlike_agrees}
use Rattle.state.specs.Passes.{contents_at, holding_test, used_test, idle_at, last_triple, own_test, place_test, shape_at, triple_new, unlike}

-- ---- triples

-- what `triple_new` says of triple i
abbrev Tripled : (ℕ → ℕ) → ℕ → Type 0
Tripled row i = (row i ≡ 0 → (last_triple ≤ i) ⊎ (row (i + 1) ≡ 0)) × ((row i ≡ 0 → ⊥) → GoodTriple (row i) × ((j : ℕ) → j < i → row j ≡ row i → ⊥))

-- the test says so
triple_agrees : (row : ℕ → ℕ) (i : ℕ) → Agrees (triple_new row i) (Tripled row i)
unfolding triple_new
triple_agrees row i = agrees_pick (agrees_eq (row i) 0) (agrees_or (agrees_le last_triple i) (agrees_eq (row (i + 1)) 0))
    (agrees_and (good_agrees (row i)) (unlike_agrees row i))

module _ (row : ℕ → ℕ) (out : Eight row) where
  -- after a zero all are zero
  zero_up : ((i : ℕ) → i < place_count → Tripled row i) → (k m i : ℕ) → row k ≡ 0 → i ≡ k + m → row i ≡ 0
  zero_up f k zero i z e = let q : i ≡ k = omega arith in rw q z
  zero_up f k (suc m) i z e = go (ltb (k + m) place_count) (below (k + m) place_count) (zero_up f k m (k + m) z refl)
    where
      next : (last_triple ≤ k + m) ⊎ (row (k + m + 1) ≡ 0) → row i ≡ 0
      next (inl h) = out i (omega arith)
      next (inr h) = let q : i ≡ k + m + 1 = omega arith in rw q h

      go : (b : Bool) → Below (k + m) place_count b → row (k + m) ≡ 0 → row i ≡ 0
      go true (under h) q = next ((f (k + m) h).0 q)
      go false (over h) q = out i (omega arith)

  -- triples that are each new are packed and good
  access_of : ((i : ℕ) → i < place_count → Tripled row i) → Access (seek 0 row place_count) row
  access_of f = record {
    packed = record {
      room = seek_within 0 row place_count;
      used = λ i h. let z : row i ≢ 0 = before 0 row place_count i h in omega arith;
      rest = λ i h. rest i h (sought 0 row place_count);
      distinct = apart row (seek 0 row place_count) (λ i h. (named i h).1);
    };
    good = λ i h. (named i h).0;
  }
    where
      named : (i : ℕ) → i < seek 0 row place_count → GoodTriple (row i) × ((j : ℕ) → j < i → row j ≡ row i → ⊥)
      named i h = (f i (omega (arith, seek_within 0 row place_count))).1 (before 0 row place_count i h)

      rest : (i : ℕ) → seek 0 row place_count ≤ i → Sought 0 row place_count (seek 0 row place_count) → row i ≡ 0
      rest i h (inl s) = zero_up f (seek 0 row place_count) (i - seek 0 row place_count) i s.1 (omega arith)
      rest i h (inr s) = out i (omega (arith, s.0))

  -- and packed and good ones are each new
  of_access : (n : ℕ) → Access n row → (i : ℕ) → i < place_count → Tripled row i
  of_access n a i h = (
    λ z. inr (a.packed.rest (i + 1) (let q : ¬ (i < n) = λ l. omega (arith, a.packed.used i l) in omega arith)),
    λ z. let l : i < n = within z (ltb i n) (below i n) in (a.good i l, λ j m q. omega (arith, a.packed.distinct j i (omega arith) l q)),
  )
    where
      within : (row i ≡ 0 → ⊥) → (b : Bool) → Below i n b → i < n
      within z true (under l) = l
      within z false (over l) = absurd (z (a.packed.rest i l))

  -- each triple by itself, and against those before it
  pub triples_pass : every place_count (triple_new row) ≡ access_test row
  triples_pass = equal_bools (every place_count (triple_new row)) (access_test row)
      (λ t. (access_agrees row out).from (seek 0 row place_count, access_of (each.to t)))
      (λ t. let a = (access_agrees row out).to t in each.from (of_access a.0 a.1))
    where
      each : Agrees (every place_count (triple_new row)) ((i : ℕ) → i < place_count → Tripled row i)
      each = agrees_every place_count (triple_new row) (Tripled row) (triple_agrees row)

-- ---- an entity that is there

-- what is asked of contents stands together
contents_first : (s f a c i : Bool) → ((s && (f && a)) && (c && i)) ≡ (s && ((f && c) && (a && i)))
contents_first true true true c i = refl
contents_first true true false true i = refl
contents_first true true false false i = refl
contents_first true false a c i = refl
contents_first false f a c i = refl

-- and is asked piece by piece
one_by_one : (s n p u x : Bool) → (s && ((n && (p && u)) && x)) ≡ (s && (n && (p && (u && x))))
one_by_one true true true u x = refl
one_by_one true true false u x = refl
one_by_one true false p u x = refl
one_by_one false n p u x = refl

-- the triples come last
triples_last : (s n p u t i : Bool) → (s && (n && (p && (u && (t && i))))) ≡ ((s && (n && (p && (u && i)))) && t)
triples_last true true true true t i = and_comm t i
triples_last true true true false t i = refl
triples_last true true false u t i = refl
triples_last true false p u t i = refl
triples_last false n p u t i = refl

module _ (d : Tables) (o : Bounded d) (e : ℕ) (present : 1 ≤ kinds d e) where
  -- all that is asked of an entity that is there, in the order of the code
  own_present : (holding_test d e && every place_count (triple_new (triples d e))) ≡ own_test d e
  unfolding holding_test own_test entity_test imp
  own_present = rw (ne_eqb (kinds d e) 0 (λ q. omega arith), triples_pass (triples d e) (o.triples_out e))
      (sym (triples_last (shape_at d e) (used_test (kinds d e) (used_places d e)) (every place_count (place_test d e))
      (every (used_places d e) (unlike (places d e)))
      (access_test (triples d e)) (idle_at d e))
      ∙ sym (one_by_one (shape_at d e) (used_test (kinds d e) (used_places d e)) (every place_count (place_test d e))
      (every (used_places d e) (unlike (places d e)))
      (access_test (triples d e) && idle_at d e))
      ∙ ap (λ (b : Bool). shape_at d e && (b && (access_test (triples d e) && idle_at d e))) (sym (filled_passes d o e))
      ∙ sym (contents_first (shape_at d e) (filled_test (kinds d e) (used_places d e) (places d e) (sums d e)) (access_test (triples d e))
      (contents_at d e) (idle_at d e)))

  -- what the pass over it has found of what stands in it: that is not in order
  pub own_holding : (b : Bool) → b ≡ holding_test d e → b ≡ false → false ≡ own_test d e
  own_holding b be f = rw (← be, f) at own_present

  -- it is, and the triples are left
  pub own_triples : (b : Bool) → b ≡ holding_test d e → b ≡ true → (c : Bool) → c ≡ every place_count (triple_new (triples d e)) → c ≡ own_test d e
  own_triples b be t c ce = ce ∙ (rw (← be, t) at own_present)

-- ---- what stands in it

-- what the pass over entity e, which is there, has read and found
module _ (d : Tables) (o : Bounded d) (e k : ℕ) (ke : k ≡ kinds d e) (s : Bool) (se : s ≡ shape_at d e) where
  -- all is asked from the shape on
  from_shape : (s && (used_test k (used_places d e) && (every place_count (place_test d e) && (every (used_places d e) (unlike (places d e)) && idle_at d e))))
      ≡ holding_test d e
  unfolding holding_test
  from_shape = rw (se, ke)

  -- the single words but for the last are not in order
  pub own_shape : s ≡ false → false ≡ holding_test d e
  own_shape f = rw f at from_shape

  module _ (st : s ≡ true) (n : ℕ) (ne : n ≡ used_places d e) (c : Bool) (ce : c ≡ used_test k n) where
    -- what is left to ask from the count on
    from_count : (c && (every place_count (place_test d e) && (every n (unlike (places d e)) && idle_at d e))) ≡ holding_test d e
    from_count = rw (ce, ne) (rw st at from_shape)

    -- too many places are used
    pub own_count : c ≡ false → false ≡ holding_test d e
    own_count f = rw f at from_count

    -- no more are used than there are
    pub own_room : c ≡ true → n ≤ place_count
    own_room t = rw ne ((used_agrees d o e).to (rw (← ke, ← ne) (is_true (used_test k n) (sym ce ∙ t)))).0

    module _ (ct : c ≡ true) (p : Bool) (pe : p ≡ every place_count (place_test d e)) where
      -- what is left from the places on
      from_places : (p && (every n (unlike (places d e)) && idle_at d e)) ≡ holding_test d e
      from_places = rw pe (rw ct at from_count)

      -- some place is not in order
      pub own_places : p ≡ false → false ≡ holding_test d e
      own_places f = rw f at from_places

      module _ (pt : p ≡ true) (q : Bool) (qe : q ≡ every n (unlike (places d e))) where
        -- what is left from their likeness on
        from_unlike : (q && idle_at d e) ≡ holding_test d e
        from_unlike = rw qe (rw pt at from_places)

        -- two places hold the same
        pub own_unlike : q ≡ false → false ≡ holding_test d e
        own_unlike f = rw f at from_unlike

        module _ (qt : q ≡ true) where
          -- what shows nothing may have nobody on it; w says whether what is of kind k shows things
          pub own_quiet : (w : Bool) → w ≡ eqb k device_kind → (not w || eqb n 0) ≡ true → true ≡ holding_test d e
          unfolding idle_at
          own_quiet w we h = sym (imp_quiet (eqb k device_kind) (eqb n 0) (every user_count (λ u. not (eqb (devices d (suc u)) e))) (rw we at h))
              ∙ rw (ke, ne) (rw qt at from_unlike)

          -- on a device that shows something somebody is
          pub own_shown : (w : Bool) → w ≡ eqb k device_kind → (not w || eqb n 0) ≡ false
              → (z : Bool) → z ≡ every user_count (λ u. not (eqb (devices d (suc u)) e)) → not z ≡ holding_test d e
          unfolding idle_at
          own_shown w we h z ze = sym (imp_shown (eqb k device_kind) (eqb n 0) z (rw we at h)) ∙ rw (ke, ne, ze) (rw qt at from_unlike)
