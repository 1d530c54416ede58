-- Sums over numbers in a row, and what is said of such numbers.
use Rattle.std.specs.Prelude.{◌+◌, ◌<◌, ◌≤◌, suc, zero, ℕ, eqb}
use Rattle.model.specs.Basics.Choice.{pick}

-- f i + f (i + 1) and so on, k numbers in all
unfoldable pub total : ℕ → ℕ → (ℕ → ℕ) → ℕ
total zero i f = 0
total (suc k) i f = f i + total k (suc i) f

-- 1 where x is c, and 0 where it is another number
abbrev pub one : ℕ → ℕ → ℕ
one x c = pick (eqb x c) 1 0

-- what is said of each of the k numbers from i on
abbrev pub Each : ℕ → ℕ → (ℕ → Type 0) → Type 0
Each k i P = (j : ℕ) → i ≤ j → j < i + k → P j

-- what is said of one of them
abbrev pub Some : ℕ → ℕ → (ℕ → Type 0) → Type 0
Some k i P = (j : ℕ) × (i ≤ j) × (j < i + k) × P j
