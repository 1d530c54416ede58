-- The searches: for an entity in the places of another, and for the container that it is in.
use Rattle.std.specs.Prelude.{Bool, ◌&&◌, not, ◌≢◌, ◌≡◌, eqb, ltb}
use Rattle.std.proofs.Math.Bool.{false, true}
use Rattle.std.proofs.Common.{◌∙◌, subst, sym, arith}
use Rattle.std.proofs.Math.Path.{ap, refl}
use Prim.Native.Nat.{◌+◌, ◌<◌, ◌≤◌, suc, ℕ}
use Rattle.std.proofs.Math.Numerals.{add-one}
use Rattle.laws.specs.Bools.{clash, not_no, not_yes}
use Rattle.laws.specs.Loops.{none_more, seek_here, seek_none}
use Rattle.model.specs.Basics.Choice.{Below, below, over, pick, under}
use Rattle.model.specs.State.Check.{in_test, parent, spot_of}
use Rattle.model.specs.State.ParentLaws.{parent_held, parent_range}
use Rattle.model.specs.State.WellFormed.{InTables, WellFormed}
use Rattle.model.specs.Tables.Rows.{seek}
use Rattle.model.specs.Tables.Words.{Tables, container_kind, used_places, entity_count, kinds, place_count, places}
use Rattle.standing.specs.Standing.{Unheld, parent_in, standing}
use Rattle.rows.specs.SweepLaws.{sweep_used}

-- ---- an entity that e stands in

-- In well-formed tables, where unused places are 0 and e is not.
module _ (d : Tables) (w : WellFormed d) (k v e : ℕ) (p : 1 ≤ e) (b : Bool) (h : b ≡ ltb (seek e (places d v) place_count) place_count) where
  stands : standing d k e v ≡ (eqb (kinds d v) k && b)
  stands = let f = (w.entities v).filled.packed in
      ap (λ (x : Bool). eqb (kinds d v) k && x) (sym (h ∙ sweep_used e (places d v) (used_places d v) place_count p f.room f.rest))

  -- it is in no place
  pub stands_nowhere : not b ≡ true → false ≡ standing d k e v
  stands_nowhere z = sym (stands ∙ go (eqb (kinds d v) k) b (not_yes b z))
    where
      go : (a c : Bool) → c ≡ false → (a && c) ≡ false
      go true c q = q
      go false c q = refl

  -- it is in one, and the kind decides
  pub stands_there : not b ≡ false → (x : ℕ) → x ≡ kinds d v → eqb x k ≡ standing d k e v
  stands_there z x q = sym (stands ∙ go (eqb (kinds d v) k) b (not_no b z) ∙ ap (λ (y : ℕ). eqb y k) (sym q))
    where
      go : (a c : Bool) → c ≡ true → (a && c) ≡ a
      go true c r = r
      go false c r = refl

-- ---- the container that e is in

one_of : (b : Bool) → b ≡ true → pick {A = ℕ} b 1 0 ≡ 1
one_of b e = rw e

none_of : (b : Bool) → b ≡ false → ◌≢◌ {A = ℕ} (pick b 1 0) 1
none_of true e z = clash true refl e
none_of false e z = let w : ◌≡◌ {A = ℕ} 0 1 = z in omega arith

module _ (d : Tables) (e : ℕ) where
  holding : ℕ → Bool
  holding v = in_test (kinds d) (used_places d) (places d) v e

  row : ℕ → ℕ
  row j = pick (holding (suc j)) 1 0

  spot : ℕ
  spot = spot_of (kinds d) (used_places d) (places d) e

  -- the next entity does not hold it
  pub unheld_more : (i : ℕ) → Unheld d e i → standing d container_kind e (i + 1) ≡ false → Unheld d e (i + 1)
  unfolding row holding in_test
  unheld_more i f z = none_more 1 row i f (none_of (holding (suc i)) (ap holding (sym (add-one i)) ∙ z))

  -- the next entity holds it
  pub parent_here : (i : ℕ) → i < entity_count → Unheld d e i → standing d container_kind e (i + 1) ≡ true → i + 1 ≡ parent_in d e
  unfolding row holding spot in_test parent spot_of
  parent_here i h f z =
      let s : i ≡ spot = seek_here 1 row entity_count i h (one_of (holding (suc i)) (ap holding (sym (add-one i)) ∙ z)) f in
      go (ltb spot entity_count) (below spot entity_count) s
    where
      go : (b : Bool) → Below spot entity_count b → i ≡ spot → i + 1 ≡ pick b (suc spot) 0
      go true (under l) s = add-one i ∙ ap suc s
      go false (over l) s = absurd (omega arith)

  -- no entity holds it
  pub parent_none : (i : ℕ) → entity_count ≤ i → Unheld d e i → 0 ≡ parent_in d e
  unfolding row holding spot in_test parent spot_of
  parent_none i h f =
      let s : entity_count ≡ spot = seek_none 1 row entity_count (λ j l. f j (omega arith)) in
      go (ltb spot entity_count) (below spot entity_count) s
    where
      go : (b : Bool) → Below spot entity_count b → entity_count ≡ spot → 0 ≡ pick b (suc spot) 0
      go true (under l) s = absurd (omega arith)
      go false (over l) s = refl

-- in well-formed tables, where it is in one
module _ (d : Tables) (w : WellFormed d) (e h : ℕ) (p : h ≡ parent_in d e) (n : h ≢ 0) where
  pub held_here : InTables d h e
  held_here = subst (λ (x : ℕ). InTables d x e) (sym p) (parent_held d w e (λ z. n (p ∙ z)))

  -- the container has a number
  pub holder_in : (1 ≤ h) × (h ≤ entity_count)
  holder_in = parent_range d w h e held_here
