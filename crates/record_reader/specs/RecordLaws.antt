-- The laws of reading a record's fields and rows, in the steps in which code reads them: how far a loop has come, and how it goes on or ends.
use Rattle.std.specs.Prelude.{List, [], ◌≡◌, Some, None, Ok, Err, drop, length}
use Rattle.std.proofs.Common.{◌∙◌, ap, sym, drop_of_length-le, drop-cons}
use Prim.Native.Nat.{◌+◌, ◌-◌, ◌<◌, ◌≤◌, suc, ℕ}
use Rattle.std.proofs.Math.Numerals.{add-one}
use native.Mathlib.Omega.{arith}
use Rattle.lines.specs.declared.reading.Number.{Number}
use Rattle.model.specs.Tables.Edits.{on_entity, on_user, user_word, word}
use Rattle.model.specs.Tables.Layout.{tables_of, word_count}
use Rattle.model.specs.Tables.WordAt.{entity_word_at, user_word_at}
use Rattle.model.specs.Tables.Words.{place, shown, triple}
use Rattle.record_reader.specs.FieldAt.{FieldAt, entity_field, last_single, user_field}
use Rattle.record_reader.specs.RowAt.{PlaceAt, TripleAt}
use Rattle.record_reader.specs.StageAt.{StageAt}
use Rattle.record_reader.specs.declared.rows.Placed.{Placed}
use Rattle.tables.specs.Singles.{single_count}
use Rattle.tables_text.specs.Keys.{any_number, single_fields, user_fields}
use Rattle.tables_text.specs.Stages.{Stage, entity_stage, places_stage, triples_stage, user_stage}

-- ---- the fields of a user

-- The reading g of the fields of user u has come to word j and to an index of the bytes s, and has left the words t.
pub record UserTo (g : Stage) (u : ℕ) (s : List ℕ) (i j : ℕ) (t : List ℕ) : Type 0 where
  pub is : g ≡ user_stage u (drop (j - 1) user_fields) j (tables_of t) (drop i s)
  pub within : i ≤ length s
  pub from : 1 ≤ j
  pub most : j ≤ single_count
  pub size : length t ≡ word_count

module _ {g : Stage} {u : ℕ} {s : List ℕ} {i j : ℕ} {t : List ℕ} (r : UserTo g u s i j t) where
  -- the line of word j is there, and the next one is due
  pub user_next : {x : Number} {w : List ℕ} → j < single_count → FieldAt s i (user_field j) (Some x)
      → tables_of w ≡ on_user u (user_word (user_word_at j) x.v) (tables_of t) → length w ≡ word_count → UserTo g u s x.next (j + 1) w
  unfolding user_stage
  user_next {x} {w} l f e h = record { is = r.is ∙ turn ∙ later; within = f.within; from = omega arith; most = omega arith; size = h }
    where
      turn : user_stage u (drop (j - 1) user_fields) j (tables_of t) (drop i s)
          ≡ user_stage u (drop (j + 1 - 1) user_fields) (j + 1) (on_user u (user_word (user_word_at j) x.v) (tables_of t)) (drop x.next s)
      turn =
          let q : j + 1 - 1 ≡ suc (j - 1) = omega (arith, r.from) in
          rw (drop-cons user_fields (j - 1) (any_number []) (omega (arith, r.from)), ← f.is, q, add-one j)

      later : user_stage u (drop (j + 1 - 1) user_fields) (j + 1) (on_user u (user_word (user_word_at j) x.v) (tables_of t)) (drop x.next s)
          ≡ user_stage u (drop (j + 1 - 1) user_fields) (j + 1) (tables_of w) (drop x.next s)
      later = ap (λ d. user_stage u (drop (j + 1 - 1) user_fields) (j + 1) d (drop x.next s)) (sym e)

  -- or it is not,
  pub user_stuck : j < single_count → FieldAt s i (user_field j) None → StageAt s g t (Err (record { 0 = i }))
  unfolding user_stage
  user_stuck l f = record { is = r.is ∙ rw (drop-cons user_fields (j - 1) (any_number []) (omega (arith, r.from)), ← f.is); within = r.within }

  -- or none is due any more
  pub user_past : single_count ≤ j → StageAt s g t (Ok i)
  unfolding user_stage
  user_past h = record { is = r.is ∙ rw (drop_of_length-le user_fields {i = j - 1} (omega arith)); within = r.within }

-- ---- the fields of an entity before the number of its places

pub record EntityTo (g : Stage) (e : ℕ) (s : List ℕ) (i j : ℕ) (t : List ℕ) : Type 0 where
  pub is : g ≡ entity_stage e (drop j single_fields) j (tables_of t) (drop i s)
  pub within : i ≤ length s
  pub most : j ≤ last_single
  pub size : length t ≡ word_count

module _ {g : Stage} {e : ℕ} {s : List ℕ} {i j : ℕ} {t : List ℕ} (r : EntityTo g e s i j t) where
  pub entity_next : {x : Number} {w : List ℕ} → j < last_single → FieldAt s i (entity_field j) (Some x)
      → tables_of w ≡ on_entity e (word (entity_word_at j) x.v) (tables_of t) → length w ≡ word_count → EntityTo g e s x.next (j + 1) w
  unfolding entity_stage
  entity_next {x} {w} l f q h = record { is = r.is ∙ turn ∙ later; within = f.within; most = omega arith; size = h }
    where
      turn : entity_stage e (drop j single_fields) j (tables_of t) (drop i s)
          ≡ entity_stage e (drop (j + 1) single_fields) (j + 1) (on_entity e (word (entity_word_at j) x.v) (tables_of t)) (drop x.next s)
      turn = rw (drop-cons single_fields j (any_number []) (omega arith), ← f.is, add-one j)

      later : entity_stage e (drop (j + 1) single_fields) (j + 1) (on_entity e (word (entity_word_at j) x.v) (tables_of t)) (drop x.next s)
          ≡ entity_stage e (drop (j + 1) single_fields) (j + 1) (tables_of w) (drop x.next s)
      later = ap (λ d. entity_stage e (drop (j + 1) single_fields) (j + 1) d (drop x.next s)) (sym q)

  pub entity_stuck : j < last_single → FieldAt s i (entity_field j) None → StageAt s g t (Err (record { 0 = i }))
  unfolding entity_stage
  entity_stuck l f = record { is = r.is ∙ rw (drop-cons single_fields j (any_number []) (omega arith), ← f.is); within = r.within }

  pub entity_past : last_single ≤ j → StageAt s g t (Ok i)
  unfolding entity_stage
  entity_past h = record { is = r.is ∙ rw (drop_of_length-le single_fields {i = j} (omega arith)); within = r.within }

-- ---- the rows of an entity

-- The reading g of n places of entity e has come to place k.
pub record PlacesTo (g : Stage) (e n : ℕ) (s : List ℕ) (i k : ℕ) (t : List ℕ) : Type 0 where
  pub is : g ≡ places_stage e (n - k) k (tables_of t) (drop i s)
  pub within : i ≤ length s
  pub most : k ≤ n
  pub size : length t ≡ word_count

pub places_start : (e n : ℕ) {s t : List ℕ} {i : ℕ} → i ≤ length s → length t ≡ word_count
    → PlacesTo (places_stage e n 0 (tables_of t) (drop i s)) e n s i 0 t
places_start e n {s} {t} {i} h l =
    let q : n - 0 ≡ n = omega arith in
    record { is = rw q; within = h; most = omega arith; size = l }

module _ {g : Stage} {e n : ℕ} {s : List ℕ} {i k : ℕ} {t : List ℕ} (r : PlacesTo g e n s i k t) where
  -- the line of a place is there, and both of its words are stored
  pub places_next : {x : Placed} {w : List ℕ} → k < n → PlaceAt s i (Some x)
      → tables_of w ≡ on_entity e (word (shown k) x.sum) (on_entity e (word (place k) x.entity) (tables_of t)) → length w ≡ word_count
      → PlacesTo g e n s x.next (k + 1) w
  unfolding places_stage
  places_next {x} {w} l f a h = record { is = r.is ∙ turn ∙ later; within = f.within; most = omega arith; size = h }
    where
      turn : places_stage e (n - k) k (tables_of t) (drop i s)
          ≡ places_stage e (n - (k + 1)) (k + 1) (on_entity e (word (shown k) x.sum) (on_entity e (word (place k) x.entity) (tables_of t))) (drop x.next s)
      turn =
          let q : n - k ≡ suc (n - (k + 1)) = omega arith in
          rw (q, ← f.is, add-one k)

      later : places_stage e (n - (k + 1)) (k + 1) (on_entity e (word (shown k) x.sum) (on_entity e (word (place k) x.entity) (tables_of t))) (drop x.next s)
          ≡ places_stage e (n - (k + 1)) (k + 1) (tables_of w) (drop x.next s)
      later = ap (λ d. places_stage e (n - (k + 1)) (k + 1) d (drop x.next s)) (sym a)

  pub places_stuck : k < n → PlaceAt s i None → StageAt s g t (Err (record { 0 = i }))
  unfolding places_stage
  places_stuck l f =
      let q : n - k ≡ suc (n - (k + 1)) = omega arith in
      record { is = r.is ∙ rw (q, ← f.is); within = r.within }

  pub places_past : n ≤ k → StageAt s g t (Ok i)
  unfolding places_stage
  places_past h =
      let q : n - k ≡ 0 = omega arith in
      record { is = r.is ∙ rw q; within = r.within }

-- The same of n triples.
pub record TriplesTo (g : Stage) (e n : ℕ) (s : List ℕ) (i k : ℕ) (t : List ℕ) : Type 0 where
  pub is : g ≡ triples_stage e (n - k) k (tables_of t) (drop i s)
  pub within : i ≤ length s
  pub most : k ≤ n
  pub size : length t ≡ word_count

pub triples_start : (e n : ℕ) {s t : List ℕ} {i : ℕ} → i ≤ length s → length t ≡ word_count
    → TriplesTo (triples_stage e n 0 (tables_of t) (drop i s)) e n s i 0 t
triples_start e n {s} {t} {i} h l =
    let q : n - 0 ≡ n = omega arith in
    record { is = rw q; within = h; most = omega arith; size = l }

module _ {g : Stage} {e n : ℕ} {s : List ℕ} {i k : ℕ} {t : List ℕ} (r : TriplesTo g e n s i k t) where
  pub triples_next : {x : Number} {w : List ℕ} → k < n → TripleAt s i (Some x)
      → tables_of w ≡ on_entity e (word (triple k) x.v) (tables_of t) → length w ≡ word_count → TriplesTo g e n s x.next (k + 1) w
  unfolding triples_stage
  triples_next {x} {w} l f a h = record { is = r.is ∙ turn ∙ later; within = f.within; most = omega arith; size = h }
    where
      turn : triples_stage e (n - k) k (tables_of t) (drop i s)
          ≡ triples_stage e (n - (k + 1)) (k + 1) (on_entity e (word (triple k) x.v) (tables_of t)) (drop x.next s)
      turn =
          let q : n - k ≡ suc (n - (k + 1)) = omega arith in
          rw (q, ← f.is, add-one k)

      later : triples_stage e (n - (k + 1)) (k + 1) (on_entity e (word (triple k) x.v) (tables_of t)) (drop x.next s)
          ≡ triples_stage e (n - (k + 1)) (k + 1) (tables_of w) (drop x.next s)
      later = ap (λ d. triples_stage e (n - (k + 1)) (k + 1) d (drop x.next s)) (sym a)

  pub triples_stuck : k < n → TripleAt s i None → StageAt s g t (Err (record { 0 = i }))
  unfolding triples_stage
  triples_stuck l f =
      let q : n - k ≡ suc (n - (k + 1)) = omega arith in
      record { is = r.is ∙ rw (q, ← f.is); within = r.within }

  pub triples_past : n ≤ k → StageAt s g t (Ok i)
  unfolding triples_stage
  triples_past h =
      let q : n - k ≡ 0 = omega arith in
      record { is = r.is ∙ rw q; within = r.within }
