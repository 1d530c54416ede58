-- The way up from an entity, and what lies in what.
use Rattle.std.specs.Prelude.{Bool, ◌≢◌, ◌≡◌, T, eqb}
use Rattle.std.proofs.Math.Bool.{false, true}
use Rattle.std.proofs.Common.{inl, inr, ◌∙◌, arith}
use Rattle.std.proofs.Math.Path.{refl}
use Prim.Native.Nat.{◌≤◌, suc, zero, ℕ}
use Rattle.model.specs.Basics.Choice.{Same, it, other, pick, same}
use Rattle.model.specs.State.Climb.{climb}
use Rattle.model.specs.State.ClimbLaws.{climb_sound}
use Rattle.model.specs.State.Depth.{Within}
use Rattle.model.specs.State.DepthLaws.{holds_one}
use Rattle.model.specs.State.ParentLaws.{parent_held, parent_none, parent_range}
use Rattle.model.specs.State.WellFormed.{InTables, WellFormed}
use Rattle.model.specs.Tables.Words.{Tables, entity_count, used_places}
use Rattle.standing.specs.Standing.{parent_in}

-- ---- the way up

module _ (par : ℕ → ℕ) (e : ℕ) where
  -- e is met
  pub climb_met : (m y : ℕ) → 1 ≤ m → y ≡ e → true ≡ climb par m y e
  unfolding climb
  climb_met zero y h q = absurd (omega arith)
  climb_met (suc m) y h q = go (eqb y e) (same y e)
    where
      go : (b : Bool) → Same y e b → true ≡ pick b true (pick (eqb (par y) 0) false (climb par m (par y) e))
      go true s = refl
      go false (other n) = absurd (n q)

  -- y stands in nothing
  pub climb_top : (m y : ℕ) → y ≢ e → par y ≡ 0 → false ≡ climb par m y e
  unfolding climb
  climb_top zero y n z = refl
  climb_top (suc m) y n z = go (eqb y e) (eqb (par y) 0) (same y e) (same (par y) 0)
    where
      go : (a b : Bool) → Same y e a → Same (par y) 0 b → false ≡ pick a true (pick b false (climb par m (par y) e))
      go true b (it q) s = absurd (n q)
      go false true r s = refl
      go false false r (other w) = absurd (w z)

  -- y stands in z, from which the way goes on
  pub climb_on : (m n y z : ℕ) → suc n ≡ m → z ≡ par y → y ≢ e → z ≢ 0 → climb par n z e ≡ climb par m y e
  unfolding climb
  climb_on m n y z p q w v = rw (← p, q) (go (eqb y e) (eqb (par y) 0) (same y e) (same (par y) 0))
    where
      go : (a b : Bool) → Same y e a → Same (par y) 0 b → climb par n (par y) e ≡ pick a true (pick b false (climb par n (par y) e))
      go true b (it r) s = absurd (w r)
      go false true r (it s) = absurd (v (q ∙ s))
      go false false r s = refl

  -- no steps are left
  pub climb_end : (m y : ℕ) → m ≡ 0 → false ≡ climb par m y e
  unfolding climb
  climb_end zero y h = refl
  climb_end (suc m) y h = absurd (omega arith)

-- ---- what lies in what

module _ (d : Tables) (w : WellFormed d) where
  -- an entity that holds nothing has itself only
  pub inside_empty : (e c n : ℕ) → n ≡ used_places d e → n ≡ 0 → eqb c e ≡ climb (parent_in d) (suc entity_count) c e
  unfolding climb
  inside_empty e c n q z = go (eqb c e) (same c e)
      (climb_sound entity_count (InTables d) (parent_in d) (parent_none d w) (parent_held d w) w.links.one_container (parent_range d w) (suc entity_count) c e)
    where
      go : (b : Bool) → Same c e b
          → (T (pick b true (pick (eqb (parent_in d c) 0) false (climb (parent_in d) entity_count (parent_in d c) e))) → Within (InTables d) c e)
          → b ≡ pick b true (pick (eqb (parent_in d c) 0) false (climb (parent_in d) entity_count (parent_in d c) e))
      go true s f = refl
      go false (other s) f = out (pick (eqb (parent_in d c) 0) false (climb (parent_in d) entity_count (parent_in d c) e)) f
        where
          none : Within (InTables d) c e → ⊥
          none (inl y) = s y
          none (inr p) = let x = holds_one p in omega (arith, x.1.1.1)

          out : (b : Bool) → (T b → Within (InTables d) c e) → false ≡ b
          out true g = absurd (none (g tt))
          out false g = refl
