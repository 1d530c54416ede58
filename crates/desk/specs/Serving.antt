-- What the program's loop asks.
use Rattle.std.specs.Prelude.{List, ◌≡◌, ◌<◌, ℕ, length}
use Rattle.model.specs.State.Check.{check}
use Rattle.model.specs.Text.Unfinished.{longest}

-- The window is longer than the longest request, and c is what the check says of the tables t.
pub record ServeReady (t window : List ℕ) (c : ℕ) : Type 0 where
  pub roomy : longest < length window
  pub said : c ≡ check t
