-- Rule 16.4: the words that the writer refuses, of whatever room.
use Rattle.std.specs.Prelude.{List, ℕ, eqb, length}
use Rattle.model.specs.Basics.Choice.{pick}
use Rattle.model.specs.State.Check.{well_formed_test}
use Rattle.model.specs.Tables.Layout.{tables_of, word_count}
use Rattle.model.specs.Request.Refusals as refusal

-- 1 for words that are not 2,304, 2 for those that are no tables, and 0 for all tables, secure or not
abbrev pub form_answer : List ℕ → ℕ
form_answer t = pick (eqb (length t) word_count) (pick (well_formed_test (tables_of t)) refusal.accepted refusal.not_well_formed) refusal.bad_length
