-- Document 02, M-103; rules 16.4 and 16.5: what the writer and the reader of tables answer and leave, of any words, any bytes and any room.
use Rattle.std.specs.Prelude.{List, ◌++◌, ◌≡◌, ◌-◌, suc, ℕ, eqb, leb, drop, length, take}
use Rattle.model.specs.Basics.Choice.{pick}
use Rattle.model.specs.State.Check.{well_formed_test}
use Rattle.model.specs.Tables.Layout.{tables_of, word_count}
use Rattle.model.specs.Tables.WordsOf.{words_of}
use Rattle.model.specs.Text.Unfinished.{ends}
use Rattle.tables_text.specs.Stages.{Stage, past, reading, stuck}
use Rattle.tables_text.specs.TextOf.{tables_text}
use Rattle.model.specs.Request.Refusals as refusal

-- the text of some words
abbrev pub text_of_tables : List ℕ → List ℕ
text_of_tables t = tables_text (tables_of t)

-- Rule 16.4: 1, then 2, then 17, and else 0. Tables that are not secure are written like others.
unfoldable pub write_answer : List ℕ → ℕ → ℕ
write_answer t n =
    pick (eqb (length t) word_count)
    (pick (well_formed_test (tables_of t)) (pick (leb (length (text_of_tables t)) n) refusal.accepted refusal.too_short) refusal.not_well_formed)
    refusal.bad_length

-- Its number: the bytes written or needed, and none with another refusal.
unfoldable pub write_number : List ℕ → ℕ
write_number t = pick (eqb (length t) word_count) (pick (well_formed_test (tables_of t)) (length (text_of_tables t)) 0) 0

-- With 0 the text stands at the front and the bytes after it stay; with a refusal all stay.
abbrev pub room_after : ℕ → List ℕ → List ℕ → List ℕ
room_after a t room = pick (eqb a refusal.accepted) (text_of_tables t ++ drop (length (text_of_tables t)) room) room

-- Rule 16.4: what the writer is, said of any answer a, any number n and any bytes r in the room afterwards.
pub record WritesTables (t room : List ℕ) (a n : ℕ) (r : List ℕ) : Type 0 where
  pub answer : a ≡ write_answer t (length room)
  pub number : n ≡ write_number t
  pub bytes : r ≡ room_after a t room

-- Rule 16.5: the line that is the first of the bytes x, where x is the end of the text s: one more than the lines that end before it.
abbrev pub line_of : List ℕ → List ℕ → ℕ
line_of s x = suc (ends (take (length s - length x) s))

-- What a reading gives, as an answer, as a number and as the words in the tables t.
abbrev pub answer_in : Stage → ℕ
answer_in (past d x) = pick (well_formed_test d) refusal.accepted refusal.not_well_formed
answer_in (stuck x) = refusal.not_a_request

abbrev pub line_in : List ℕ → Stage → ℕ
line_in s (past d x) = 0
line_in s (stuck x) = line_of s x

abbrev pub tables_in : Stage → List ℕ → List ℕ
tables_in (past d x) t = pick (well_formed_test d) (words_of d) t
tables_in (stuck x) t = t

-- Rule 16.5: 1, then 18, then 2, and else 0; its number: the line with 18; the words: those of the text with 0, and else as they were.
unfoldable pub read_answer : List ℕ → List ℕ → ℕ
read_answer s t = pick (eqb (length t) word_count) (answer_in (reading s)) refusal.bad_length

unfoldable pub read_number : List ℕ → List ℕ → ℕ
read_number s t = pick (eqb (length t) word_count) (line_in s (reading s)) 0

unfoldable pub tables_after : List ℕ → List ℕ → List ℕ
tables_after s t = pick (eqb (length t) word_count) (tables_in (reading s) t) t

-- Rule 16.5: what the reader is, said of any answer a, any number n and any words r in the tables afterwards.
pub record ReadsTables (s t : List ℕ) (a n : ℕ) (r : List ℕ) : Type 0 where
  pub answer : a ≡ read_answer s t
  pub number : n ≡ read_number s t
  pub words : r ≡ tables_after s t
