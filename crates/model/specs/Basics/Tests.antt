-- The forms that tests are made of: an implication, and a test of every number below a bound.
use Rattle.std.specs.Prelude.{Bool, ◌&&◌, true, suc, zero, ℕ}
use Rattle.model.specs.Basics.Choice.{pick}

-- where a holds, b is asked
unfoldable pub imp : Bool → Bool → Bool
imp a b = pick a b true

-- each of 0 to n - 1 passes
unfoldable pub every : ℕ → (ℕ → Bool) → Bool
every zero p = true
every (suc n) p = p n && every n p
