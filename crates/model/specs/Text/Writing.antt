-- Document 01, "Request text"; rule 11.3: the writer, of any words and any room.
use Rattle.std.specs.Prelude.{Bool, ◌&&◌, List, ◌++◌, ◌≡◌, ℕ, eqb, leb, drop, length}
use Rattle.model.specs.Basics.Choice.{pick}
use Rattle.model.specs.Request.Ladder.{names_fit}
use Rattle.model.specs.Request.Words.{Request, name_count, request_of, request_words}
use Rattle.model.specs.Text.Wording.{text_of, wording_of}
use Rattle.model.specs.Request.Refusals as refusal

-- Rule 11.3: a request that a text has: no reference longer than four names, the words after its names zero, and word 15 zero.
unfoldable pub has_text : Request → Bool
has_text q =
    leb q.first.length name_count && (leb q.second.length name_count
    && (names_fit q.first && (names_fit q.second && eqb q.last 0)))

-- the text of some words
abbrev pub text_of_words : List ℕ → List ℕ
text_of_words w = text_of (wording_of (request_of w))

-- Rules 11.3 and 7.17: 1, then 5, then 17, and else 0. This 5 is no refusal of a step, and leaves no notice.
unfoldable pub write_answer : List ℕ → ℕ → ℕ
write_answer w n =
    pick (eqb (length w) request_words)
    (pick (has_text (request_of w)) (pick (leb (length (text_of_words w)) n) refusal.accepted refusal.too_short) refusal.bad_request)
    refusal.bad_length

-- Its number: the bytes written or needed, and none with another refusal.
unfoldable pub write_number : List ℕ → ℕ
write_number w = pick (eqb (length w) request_words) (pick (has_text (request_of w)) (length (text_of_words w)) 0) 0

-- With 0 the text stands at the front and the bytes after it stay; with a refusal all stay.
abbrev pub bytes_after : ℕ → List ℕ → List ℕ → List ℕ
bytes_after a w room = pick (eqb a refusal.accepted) (text_of_words w ++ drop (length (text_of_words w)) room) room

-- Rule 11.3: what the writer is, said of any answer a, any number n and any bytes r in the room afterwards.
pub record Writes (w room : List ℕ) (a n : ℕ) (r : List ℕ) : Type 0 where
  pub answer : a ≡ write_answer w (length room)
  pub number : n ≡ write_number w
  pub bytes : r ≡ bytes_after a w room
