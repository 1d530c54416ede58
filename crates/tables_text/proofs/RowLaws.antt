-- The lines of an entity's places and of its triples, both ways (rules 16.2 and 16.6).
use mathlib.Core.List.{List, ◌++◌, append_assoc}
use Rattle.std.specs.Prelude.{◌⊎◌, ◌≡◌}
use Rattle.std.proofs.Math.Logic.{inl, inr}
use Rattle.std.proofs.Common.{◌∙◌, subst}
use Rattle.std.proofs.Math.Path.{ap, refl, sym}
use Prim.Native.Nat.{◌+◌, ◌<◌, ◌≤◌, suc, zero, ℕ}
use native.Mathlib.Omega.{arith}
use Rattle.model.specs.Basics.Cases.{cases, lt_or_le}
use Rattle.model.specs.Tables.Edits.{on_entity, word}
use Rattle.model.specs.Tables.WordAtLaws.{entity_word_same}
use Rattle.model.specs.Tables.Words.{EntityWord, Tables, index, place, shown, tag, triple, triples}
use Rattle.model.specs.Text.Lines.{read_line}
use Rattle.model.specs.Text.Numbers.{most}
use Rattle.tables_text.proofs.FieldLaws.{Changed, changed_none, changed_same}
use Rattle.tables_text.specs.Keys.{content_key, triple_key}
use Rattle.tables_text.specs.OnlyLaws.{Only, only_at, only_back, only_there}
use Rattle.tables_text.specs.StageLaws.{lines_onto, or_stuck_back}
use Rattle.tables_text.specs.Stages.{past, places_stage, put_place, triples_stage}
use Rattle.tables_text.specs.TextOf.{place_at, series, triple_at}
use Rattle.tables_text.proofs.ValueLaws.{place_back, place_there, triple_back, triple_there}
use Rattle.tables_text.specs.Values.{Place, place_line, read_place, read_triple, triple_line}

-- k words of a row from place i on
abbrev pub InRow : (ℕ → EntityWord) → ℕ → ℕ → EntityWord → Type 0
InRow f i k g = (tag g ≡ tag (f 0)) × (i ≤ index g) × (index g < i + k)

-- the two words of each of k places
abbrev pub Places : ℕ → ℕ → EntityWord → Type 0
Places i k g = InRow place i k g ⊎ InRow shown i k g

-- a word that lines tell, of 32 bits
abbrev pub PlaceSmall : Tables → ℕ → ℕ → Type 0
PlaceSmall d e i = (d.entity e (place i) ≤ most) × (d.entity e (shown i) ≤ most)

abbrev pub TripleSmall : Tables → ℕ → ℕ → Type 0
TripleSmall d e i = (1 ≤ triples d e i) × (triples d e i ≤ most)

-- what holds of i, and of each of the k numbers after it
with_first_lem : (P : ℕ → Type 0) (i k : ℕ) → P i → ((m : ℕ) → suc i ≤ m → m < suc i + k → P m) → (m : ℕ) → i ≤ m → m < i + suc k → P m
with_first_lem P i k p h m a b =
    cases (lt_or_le i m) (λ l. h m l (omega arith)) (λ l. let q : i ≡ m = omega arith in subst P q p)

-- the words of k + 1 places: the first two, and those of the others
abbrev Rest : ℕ → ℕ → EntityWord → Type 0
Rest i k g = (g ≡ shown i) ⊎ Places (suc i) k g

place_first : (i k : ℕ) (g : EntityWord) → Places i (suc k) g → (g ≡ place i) ⊎ Rest i k g
place_first i k g (inl a) =
    cases (lt_or_le i (index g))
    (λ l. inr (inr (inl (a.0, l, omega (arith, a.2)))))
    (λ l. inl (entity_word_same g (place i) a.0 (omega (arith, a.1))))
place_first i k g (inr a) =
    cases (lt_or_le i (index g))
    (λ l. inr (inr (inr (a.0, l, omega (arith, a.2)))))
    (λ l. inr (inl (entity_word_same g (shown i) a.0 (omega (arith, a.1)))))

rest_in : (i k : ℕ) (g : EntityWord) → Rest i k g → Places i (suc k) g
rest_in i k g (inl q) = subst (Places i (suc k)) (sym q) (inr (refl, omega arith, omega arith))
rest_in i k g (inr (inl a)) = inl (a.0, omega (arith, a.1), omega (arith, a.2))
rest_in i k g (inr (inr a)) = inr (a.0, omega (arith, a.1), omega (arith, a.2))

shown_out_lem : (i k : ℕ) → Places (suc i) k (shown i) → ⊥
shown_out_lem i k (inl a) = omega (arith, a.0)
shown_out_lem i k (inr a) = omega (arith, a.1)

place_out : (i k : ℕ) → Rest i k (place i) → ⊥
place_out i k (inl q) = let z : tag (place i) ≡ tag (shown i) = ap tag q in omega arith
place_out i k (inr (inl a)) = omega (arith, a.1)
place_out i k (inr (inr a)) = omega (arith, a.0)

module _ (e : ℕ) where
  -- Rule 16.2: what is read of the lines of k places has these lines,
  pub places_back : (k i : ℕ) (d : Tables) (s : List ℕ) (d' : Tables) (x : List ℕ) → places_stage e k i d s ≡ past d' x
      → Changed e (Places i k) d d' × (s ≡ series k i (place_at d' e) ++ x) × ((m : ℕ) → i ≤ m → m < i + k → PlaceSmall d' e m)
  unfolding places_stage series
  places_back zero i d s d' x q =
      let p : d ≡ d' = cc in
      let r : s ≡ x = cc in
      (changed_same e (Places i 0) d d' p, r, λ m a b. absurd (omega arith))
  places_back (suc k) i d s d' x q =
      or_stuck_back s (read_line content_key read_place s) _ d' x q λ p t ep e₁.
      let b : (p.entity ≤ most) × (p.sum ≤ most) × (s ≡ place_line p ++ t) = place_back s p t ep in
      let j : Changed e (Places (suc i) k) (put_place e i p d) d' × (t ≡ series k (suc i) (place_at d' e) ++ x)
      × ((m : ℕ) → suc i ≤ m → m < suc i + k → PlaceSmall d' e m) = places_back k (suc i) (put_place e i p d) t d' x e₁ in
      let d₁ : Tables = on_entity e (word (place i) p.entity) d in
      let a₁ : Only e (Rest i k) d₁.entity d'.entity =
      only_back tag index entity_word_same e (shown i) p.sum d₁.entity (Rest i k) (Places (suc i) k) d'.entity (λ g z. inr z) (inl refl)
      j.0.entities in
      let v : d'.entity e (shown i) ≡ p.sum =
      only_at tag index entity_word_same e (shown i) p.sum d₁.entity (Places (suc i) k) d'.entity (shown_out_lem i k) j.0.entities in
      let w : d'.entity e (place i) ≡ p.entity =
      only_at tag index entity_word_same e (place i) p.entity d.entity (Rest i k) d'.entity (place_out i k) a₁ in
      let c : Changed e (Places i (suc k)) d d' = record {
        users = j.0.users;
        entities = only_back tag index entity_word_same e (place i) p.entity d.entity (Places i (suc k)) (Rest i k) d'.entity (rest_in i k)
            (inl (refl, omega arith, omega arith)) a₁;
      } in
      let o : Place = record { entity = d'.entity e (place i); sum = d'.entity e (shown i) } in
      let z : p ≡ o = λ n. record { entity = sym w n; sum = sym v n } in
      let l : s ≡ place_at d' e i ++ t = b.2 ∙ ap (λ (y : Place). place_line y ++ t) z in (
        c,
        lines_onto (place_at d' e i) (series k (suc i) (place_at d' e)) s t x l j.1,
        with_first_lem (PlaceSmall d' e) i k (omega (arith, b.0), omega (arith, b.1)) j.2,
      )

  -- and the lines of k places are read as these words.
  pub places_there : (k i : ℕ) (d d' : Tables) (x : List ℕ) → Changed e (Places i k) d d' → ((m : ℕ) → i ≤ m → m < i + k → PlaceSmall d' e m)
      → places_stage e k i d (series k i (place_at d' e) ++ x) ≡ past d' x
  unfolding places_stage series
  places_there zero i d d' x c ok =
      ap (λ (b : Tables). past b x) (changed_none e (Places i 0) d d' none c)
    where
      none : (g : EntityWord) → Places i 0 g → ⊥
      none g (inl a) = omega (arith, a.1, a.2)
      none g (inr a) = omega (arith, a.1, a.2)
  places_there (suc k) i d d' x c ok =
      let p : Place = record { entity = d'.entity e (place i); sum = d'.entity e (shown i) } in
      let h : PlaceSmall d' e i = ok i (omega arith) (omega arith) in
      let d₁ : Tables = on_entity e (word (place i) (d'.entity e (place i))) d in
      let a₁ : Only e (Rest i k) d₁.entity d'.entity =
      only_there tag index entity_word_same e (place i) (d'.entity e (place i)) d.entity (Places i (suc k)) (Rest i k) d'.entity (place_first i k)
      refl c.entities in
      let a : Changed e (Places (suc i) k) (put_place e i p d) d' = record {
        users = c.users;
        entities = only_there tag index entity_word_same e (shown i) (d'.entity e (shown i)) d₁.entity (Rest i k) (Places (suc i) k) d'.entity
            (λ g z. z) refl a₁;
      } in
      let l : (place_at d' e i ++ series k (suc i) (place_at d' e)) ++ x ≡ place_at d' e i ++ (series k (suc i) (place_at d' e) ++ x) =
      append_assoc (place_at d' e i) (series k (suc i) (place_at d' e)) x in
      rw (l, place_there p (series k (suc i) (place_at d' e) ++ x) h.0 h.1)
      (places_there k (suc i) (put_place e i p d) d' x a (λ m y z. ok m (omega arith) (omega arith)))

  -- Rule 16.2: the same of the lines of k triples,
  pub triples_back : (k i : ℕ) (d : Tables) (s : List ℕ) (d' : Tables) (x : List ℕ) → triples_stage e k i d s ≡ past d' x
      → Changed e (InRow triple i k) d d' × (s ≡ series k i (triple_at d' e) ++ x) × ((m : ℕ) → i ≤ m → m < i + k → TripleSmall d' e m)
  unfolding triples_stage series
  triples_back zero i d s d' x q =
      let p : d ≡ d' = cc in
      let r : s ≡ x = cc in
      (changed_same e (InRow triple i 0) d d' p, r, λ m a b. absurd (omega arith))
  triples_back (suc k) i d s d' x q =
      or_stuck_back s (read_line triple_key read_triple s) _ d' x q λ v t ev e₁.
      let b : (1 ≤ v) × (v ≤ most) × (s ≡ triple_line v ++ t) = triple_back s v t ev in
      let j : Changed e (InRow triple (suc i) k) (on_entity e (word (triple i) v) d) d' × (t ≡ series k (suc i) (triple_at d' e) ++ x)
      × ((m : ℕ) → suc i ≤ m → m < suc i + k → TripleSmall d' e m) = triples_back k (suc i) (on_entity e (word (triple i) v) d) t d' x e₁ in
      let w : d'.entity e (triple i) ≡ v =
      only_at tag index entity_word_same e (triple i) v d.entity (InRow triple (suc i) k) d'.entity (λ a. omega (arith, a.1)) j.0.entities in
      let c : Changed e (InRow triple i (suc k)) d d' = record {
        users = j.0.users;
        entities = only_back tag index entity_word_same e (triple i) v d.entity (InRow triple i (suc k)) (InRow triple (suc i) k) d'.entity
            (λ g a. (a.0, omega (arith, a.1), omega (arith, a.2))) (refl, omega arith, omega arith) j.0.entities;
      } in
      let l : s ≡ triple_at d' e i ++ t = b.2 ∙ ap (λ (n : ℕ). triple_line n ++ t) (sym w) in (
        c,
        lines_onto (triple_at d' e i) (series k (suc i) (triple_at d' e)) s t x l j.1,
        with_first_lem (TripleSmall d' e) i k (omega (arith, b.0), omega (arith, b.1)) j.2,
      )

  -- both ways.
  pub triples_there : (k i : ℕ) (d d' : Tables) (x : List ℕ) → Changed e (InRow triple i k) d d' → ((m : ℕ) → i ≤ m → m < i + k → TripleSmall d' e m)
      → triples_stage e k i d (series k i (triple_at d' e) ++ x) ≡ past d' x
  unfolding triples_stage series
  triples_there zero i d d' x c ok =
      ap (λ (b : Tables). past b x) (changed_none e (InRow triple i 0) d d' (λ g a. omega (arith, a.1, a.2)) c)
  triples_there (suc k) i d d' x c ok =
      let h : TripleSmall d' e i = ok i (omega arith) (omega arith) in
      let a : Changed e (InRow triple (suc i) k) (on_entity e (word (triple i) (d'.entity e (triple i))) d) d' = record {
        users = c.users;
        entities = only_there tag index entity_word_same e (triple i) (d'.entity e (triple i)) d.entity (InRow triple i (suc k)) (InRow triple (suc i) k)
            d'.entity first refl c.entities;
      } in
      let l : (triple_at d' e i ++ series k (suc i) (triple_at d' e)) ++ x ≡ triple_at d' e i ++ (series k (suc i) (triple_at d' e) ++ x) =
      append_assoc (triple_at d' e i) (series k (suc i) (triple_at d' e)) x in
      rw (l, triple_there (d'.entity e (triple i)) (series k (suc i) (triple_at d' e) ++ x) h.0 h.1)
      (triples_there k (suc i) (on_entity e (word (triple i) (d'.entity e (triple i))) d) d' x a (λ m y z. ok m (omega arith) (omega arith)))
    where
      first : (g : EntityWord) → InRow triple i (suc k) g → (g ≡ triple i) ⊎ InRow triple (suc i) k g
      first g b =
          cases (lt_or_le i (index g))
          (λ l. inr (b.0, l, omega (arith, b.2)))
          (λ l. inl (entity_word_same g (triple i) b.0 (omega (arith, b.1))))
