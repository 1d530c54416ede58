-- Document 01, "Request text"; rule 11.4: the reader, of any bytes and any words in its room.
use Rattle.std.specs.Prelude.{List, ◌≡◌, ℕ, eqb, length}
use Rattle.model.specs.Basics.Choice.{pick}
use Rattle.model.specs.Request.Words.{request_words}
use Rattle.model.specs.Text.Wording.{Lines, bad_line, lines, read_text, sixteen}
use Rattle.model.specs.Request.Refusals as refusal

-- What reading a whole text gives, as an answer, as a number and as words in the room w.
abbrev pub answer_in : Lines → ℕ
answer_in (lines m x) = refusal.accepted
answer_in (bad_line k) = refusal.not_a_request

abbrev pub line_in : Lines → ℕ
line_in (lines m x) = 0
line_in (bad_line k) = k

abbrev pub words_in : Lines → List ℕ → List ℕ
words_in (lines m x) w = sixteen m
words_in (bad_line k) w = w

-- Rule 11.4: 1, then 18, and else 0; its number: the line with 18; the words: those of the text with 0, and else as they were.
unfoldable pub read_answer : List ℕ → List ℕ → ℕ
read_answer s w = pick (eqb (length w) request_words) (answer_in (read_text s)) refusal.bad_length

unfoldable pub read_number : List ℕ → List ℕ → ℕ
read_number s w = pick (eqb (length w) request_words) (line_in (read_text s)) 0

unfoldable pub words_after : List ℕ → List ℕ → List ℕ
words_after s w = pick (eqb (length w) request_words) (words_in (read_text s) w) w

-- Rule 11.4: what the reader is, said of any answer a, any number n and any words r in the room afterwards.
pub record Reads (s w : List ℕ) (a n : ℕ) (r : List ℕ) : Type 0 where
  pub answer : a ≡ read_answer s w
  pub number : n ≡ read_number s w
  pub words : r ≡ words_after s w
