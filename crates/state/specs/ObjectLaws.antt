-- An object has a level, a value and triples only: that the rest is zero is all that is asked of its words.
use Rattle.std.specs.Prelude.{Bool, false, true, ◌≢◌, ◌≡◌, ◌+◌, ◌-◌, ◌<◌, ◌≤◌, suc, ℕ, ltb}
use Rattle.std.proofs.Common.{◌∙◌, sym, lit<}
use Rattle.std.proofs.Math.Path.{ap}
use native.Mathlib.Omega.{arith}
use Rattle.std.proofs.Math.Dec.{T, eqb, eqb→eq}
use Rattle.laws.specs.Loops.{every_of}
use Rattle.model.specs.Basics.Agree.{Agrees, agrees_T, agrees_and, agrees_eq, agrees_every, agrees_imp, agrees_le, every_at}
use Rattle.model.specs.Basics.Choice.{Below, Same, below, it, other, over, same, under}
use Rattle.model.specs.Basics.TestLaws.{equal_bools}
use Rattle.model.specs.Level.{level_count}
use Rattle.model.specs.State.AgreeRecords.{shape_agrees}
use Rattle.model.specs.State.WellFormed.{Shape}
use Rattle.model.specs.Tables.Layout.{Bounded, entity_width, offset}
use Rattle.model.specs.Tables.WordAt.{entity_word_at}
use Rattle.model.specs.Tables.WordAtLaws.{entity_word_back, offset_at}
use Rattle.model.specs.Tables.Words.{EntityWord, Tables, container_kind, device_kind, index, kind, kinds, level, mark, maximum, object_kind, place, place_count}
use Rattle.model.specs.Tables.Words.{places, plain_type, releaser, shown, sums, triple, type, used, used_places, value}
use Rattle.state.specs.EntityLaws.{Placed, place_agrees, used_agrees}
use Rattle.state.specs.Passes.{bare, bare_width, holding_test, idle_at, object_test, place_test, unlike}

module _ (d : Tables) (o : Bounded d) (e : ℕ) where
  -- ---- the words from the releaser to the last that is shown

  -- where all are zero, each is
  bare_at : T (bare d e) → (f : EntityWord) → index f < place_count → offset releaser ≤ offset f → offset f < entity_width - place_count → d.entity e f ≡ 0
  unfolding bare
  bare_at t f h l m =
      let q : offset releaser + (offset f - offset releaser) ≡ offset f = omega arith in
      ap (d.entity e) (sym (ap entity_word_at q ∙ entity_word_back f h))
      ∙ eqb→eq (d.entity e (entity_word_at (offset releaser + (offset f - offset releaser)))) 0
      (every_at bare_width (λ i. eqb (d.entity e (entity_word_at (offset releaser + i))) 0) t (offset f - offset releaser) (omega arith))

  -- what they are, by name
  pub record Bare : Type 0 where
    pub nobody : d.entity e releaser ≡ 0
    pub unbounded : d.entity e maximum ≡ 0
    pub empty : used_places d e ≡ 0
    pub nowhere : (i : ℕ) → places d e i ≡ 0
    pub unshown : (i : ℕ) → sums d e i ≡ 0

  -- a row that is zero after its last word
  whole_row : (row : ℕ → ℕ) → ((i : ℕ) → place_count ≤ i → row i ≡ 0) → ((i : ℕ) → i < place_count → row i ≡ 0) → (i : ℕ) → row i ≡ 0
  whole_row row out inn i = go (ltb i place_count) (below i place_count)
    where
      go : (b : Bool) → Below i place_count b → row i ≡ 0
      go true (under h) = inn i h
      go false (over h) = out i h

  bare_to : T (bare d e) → Bare
  bare_to t = record {
    nobody = bare_at t releaser (lit< tt) (omega arith) (omega arith);
    unbounded = bare_at t maximum (lit< tt) (omega arith) (omega arith);
    empty = bare_at t used (lit< tt) (omega arith) (omega arith);
    nowhere = whole_row (places d e) (o.places_out e) (λ i h. bare_at t (place i) h (omega arith) (omega arith));
    unshown = whole_row (sums d e) (o.shown_out e) (λ i h. bare_at t (shown i) h (omega arith) (omega arith));
  }

  -- a word at such an offset is one of them
  bare_word : Bare → (f : EntityWord) → offset releaser ≤ offset f → offset f < entity_width - place_count → d.entity e f ≡ 0
  bare_word b kind l m = absurd (omega arith)
  bare_word b type l m = absurd (omega arith)
  bare_word b level l m = absurd (omega arith)
  bare_word b mark l m = absurd (omega arith)
  bare_word b value l m = absurd (omega arith)
  bare_word b releaser l m = b.nobody
  bare_word b maximum l m = b.unbounded
  bare_word b used l m = b.empty
  bare_word b (place i) l m = b.nowhere i
  bare_word b (shown i) l m = b.unshown i
  bare_word b (triple i) l m = absurd (omega arith)

  bare_from : Bare → T (bare d e)
  unfolding bare
  bare_from b = every_of bare_width (λ i. eqb (d.entity e (entity_word_at (offset releaser + i))) 0)
      (λ i h. let q = offset_at (offset releaser + i) (omega arith) in
      (agrees_eq (d.entity e (entity_word_at (offset releaser + i))) 0).from
      (bare_word b (entity_word_at (offset releaser + i)) (omega (arith, q)) (omega (arith, q))))

  -- ---- what is asked of an object

  abbrev Object : Type 0
  Object = (d.entity e level < level_count) × ((d.entity e type ≡ plain_type) × ((d.entity e mark ≡ 0) × Bare))

  object_agrees : Agrees (object_test d e) Object
  unfolding object_test
  object_agrees = agrees_and (agrees_le (suc (d.entity e level)) level_count) (agrees_and (agrees_eq (d.entity e type) plain_type)
      (agrees_and (agrees_eq (d.entity e mark) 0) (record { to = bare_to; from = bare_from })))

  abbrev Holding : Type 0
  Holding = Shape (kinds d e) (d.entity e type) (d.entity e level) (d.entity e mark) (d.entity e value) (d.entity e releaser) (d.entity e maximum)
      × (((used_places d e ≤ place_count) × (kinds d e ≡ object_kind → used_places d e ≡ 0))
      × (((i : ℕ) → i < place_count → Placed d e i) × (((i : ℕ) → i < used_places d e → T (unlike (places d e) i)) × T (idle_at d e))))

  holding_agrees : Agrees (holding_test d e) Holding
  unfolding holding_test
  holding_agrees = agrees_and (shape_agrees (kinds d e) (d.entity e type) (d.entity e level) (d.entity e mark) (d.entity e value) (d.entity e releaser)
      (d.entity e maximum)) (agrees_and (used_agrees d o e) (agrees_and (agrees_every place_count (place_test d e) (Placed d e) (place_agrees d e))
      (agrees_and (agrees_every (used_places d e) (unlike (places d e)) (λ i. T (unlike (places d e) i)) (λ i. agrees_T (unlike (places d e) i)))
      (agrees_T (idle_at d e)))))

  module _ (k : kinds d e ≡ object_kind) where
    to_object : Holding → Object
    to_object h =
        let s = h.0 in
        let n = h.1.0.1 k in
        let p = h.1.1.0 in
        let y : d.entity e type ≡ plain_type = zero_of (d.entity e type) s.typed in (
          s.level_in,
          (
            y,
            (
              zero_of (d.entity e mark) s.marked,
              record {
                nobody = s.releaser_off (λ q. omega (arith, y, q));
                unbounded = s.maximum_on (λ q. omega (arith, k, q));
                empty = n;
                nowhere = whole_row (places d e) (o.places_out e) (λ i l. ((p i l).0 (omega (arith, n))).0);
                unshown = whole_row (sums d e) (o.shown_out e) (λ i l. ((p i l).0 (omega (arith, n))).1);
              },
            ),
          ),
        )
      where
        -- what would make it a container is not there
        zero_of : (x : ℕ) → (x ≢ 0 → kinds d e ≡ container_kind) → x ≡ 0
        zero_of x f = go (eqb x 0) (same x 0)
          where
            go : (b : Bool) → Same x 0 b → x ≡ 0
            go true (it q) = q
            go false (other q) = absurd (omega (arith, k, f q))

    to_holding : Object → Holding
    unfolding idle_at
    to_holding t =
        let y = t.1.0 in
        let m = t.1.1.0 in
        let b = t.1.1.1 in (
          record {
            kind_in = omega (arith, k);
            type_in = omega (arith, y);
            level_in = t.0;
            mark_in = omega (arith, m);
            maximum_in = omega (arith, b.unbounded);
            typed = λ q. absurd (q y);
            marked = λ q. absurd (q m);
            releaser_on = λ q. absurd (omega (arith, y, q));
            releaser_off = λ q. b.nobody;
            maximum_on = λ q. b.unbounded;
            device_value = λ q. absurd (omega (arith, k, q));
          },
          (
            (omega (arith, b.empty), λ q. b.empty),
            (
              λ i h. (λ l. (b.nowhere i, b.unshown i), λ l. absurd (l (omega (arith, b.empty)))),
              (
                λ i h. absurd (omega (arith, b.empty)),
                (agrees_imp (agrees_eq (kinds d e) device_kind) (agrees_T _)).from (λ q. absurd (omega (arith, k, q))),
              ),
            ),
          ),
        )

    -- of an object only this is asked
    pub own_object : object_test d e ≡ holding_test d e
    own_object = equal_bools (object_test d e) (holding_test d e)
        (λ t. holding_agrees.from (to_holding (object_agrees.to t))) (λ t. object_agrees.from (to_object (holding_agrees.to t)))
