-- Document 01, "The tables" and "The request and its operations"; rules 3.14 and 6.3: bounded tests for "inside at any depth", steps up
-- from one container to the next.
use Rattle.std.specs.Prelude.{Bool, false, true, suc, zero, ℕ, eqb}
use Rattle.model.specs.Basics.Choice.{pick}

-- m steps up from a reach one that stands in nothing; par a is what a stands in, or 0
unfoldable pub up : (ℕ → ℕ) → ℕ → ℕ → Bool
up par zero a = false
up par (suc m) a = pick (eqb (par a) 0) true (up par m (par a))

-- m steps up from c meet e
unfoldable pub climb : (ℕ → ℕ) → ℕ → ℕ → ℕ → Bool
climb par zero c e = false
climb par (suc m) c e = pick (eqb c e) true (pick (eqb (par c) 0) false (climb par m (par c) e))
