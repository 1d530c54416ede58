-- Words that the writer can go through: there are 2,304, and no entity uses more places than it has.
use Rattle.std.specs.Prelude.{List, ◌≡◌, ◌≤◌, ℕ, length}
use Rattle.model.specs.Tables.Layout.{tables_of, word_count}
use Rattle.model.specs.Tables.Words.{place_count, used_places}

-- Rules 2.1 and 3.4.
pub record Writable (t : List ℕ) : Type 0 where
  pub long : length t ≡ word_count
  pub room : (e : ℕ) → used_places (tables_of t) e ≤ place_count
