-- Words that the writer can go through: the lengths of their references stay inside them.
use Rattle.std.specs.Prelude.{List, ◌≡◌, ◌≤◌, ℕ, length}
use Rattle.model.specs.Request.Words.{name_count, request_of, request_words}

-- Rules 5.1 and 5.2: sixteen words, neither reference longer than four names.
pub record Sixteen (w : List ℕ) : Type 0 where
  pub long : length w ≡ request_words
  pub first : (request_of w).first.length ≤ name_count
  pub second : (request_of w).second.length ≤ name_count
