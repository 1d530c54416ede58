-- Document 01, "The refusal ladder"; rule 10.2: what holds where the list is not refused with 1 to 6.
use Rattle.std.specs.Prelude.{List, ◌≢◌, ◌≡◌, ◌≤◌, ℕ, length}
use Rattle.model.specs.State.Secure.{Good}
use Rattle.model.specs.Tables.Layout.{tables_of, word_count}
use Rattle.model.specs.Tables.Words.{devices, present, user_count}

pub record Admitted (t : List ℕ) (u : ℕ) : Type 0 where
  -- 2,304 words, which give well-formed and secure tables
  pub whole : length t ≡ word_count
  pub good : Good (tables_of t)
  -- one of the users that are there, and on a device
  pub low : 1 ≤ u
  pub high : u ≤ user_count
  pub there : (tables_of t).user u present ≢ 0
  pub on : devices (tables_of t) u ≢ 0
