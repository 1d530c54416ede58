-- Rule 9: Definitions 6 and 8 to 11 speak of every entity that is there before and after, whatever its kind, containers and devices too; and this desk's
-- Definition 10 asks more than the paper's.
use Rattle.std.specs.Prelude.{◌≢◌, ◌≡◌, ◌≤◌, ℕ}
use Rattle.std.proofs.Common.{arith}
use Rattle.model.proofs.LevelLaws.{lower_drops}
use Rattle.model.specs.Request.Conditions.{level_of}
use Rattle.model.specs.Request.Words.{Request}
use Rattle.model.specs.Tables.Words.{Tables, absent_kind, kinds}
use Rattle.model.specs.Theorem.Definitions.{Both, DowngradeSecure, PaperDowngradeSecure}

module _ (d d' : Tables) (x : ℕ) where
  pub both_any : (k k' : ℕ) → 1 ≤ k → 1 ≤ k' → kinds d x ≡ k → kinds d' x ≡ k' → Both d d' x
  both_any k k' l l' e e' = (omega (arith, l, e), omega (arith, l', e'))

  -- and of no other
  pub both_there : Both d d' x → (kinds d x ≢ absent_kind) × (kinds d' x ≢ absent_kind)
  both_there b = (omega (arith, b.0), omega (arith, b.1))

-- Rule 9.10: whoever obeys this desk's Definition 10 obeys the paper's. The other way round does not hold: case `sideways_paper` passes the paper's, and
-- `sideways_condemned` says that it does not pass this one.
pub downgrade_stricter : (d : Tables) (q : Request) (d' : Tables) → DowngradeSecure d q d' → PaperDowngradeSecure d q d'
downgrade_stricter d q d' h x b o l = h x b o (lower_drops (level_of d' x) (level_of d x) l)
