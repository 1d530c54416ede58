-- Document 01, "Case state S1"; document 02, M-103; rules 13 and 16: all of its cases, as one statement about the linked calls on
-- S1's 2,304 words and on S1's text, and about the program's output.
use Rattle.std.specs.Prelude.{List, [], ◌++◌, ◌∷◌, ◌≡◌, ◌*◌, ◌<◌, ◌≤◌, ℕ, drop, get_or, length}
use Rattle.exhibits.specs.Called.{AllConfirmed, AllInOneRun, AllRefused}
use Rattle.mms.specs.Calls.{CheckCall, ListCall, Passes, ReadTablesCall, StepCall, TextWritten, WriteTablesCall, no_in}
use Rattle.mms.specs.Contract.{exported}
use Rattle.mms.specs.RoundTrip.{answering}
use Rattle.cases.specs.Case.OtherTexts.{insecure_words, no_words}
use Rattle.cases.specs.Case.S1.{starred, unstarred}
use Rattle.cases.specs.Case.DamagedTexts.{damaged_texts}
use Rattle.cases.specs.Case.S1List.{s1_unmarked}
use Rattle.cases.specs.Case.S1Script.{s1_output, s1_script}
use Rattle.cases.specs.Case.S1Text.{s1_text}
use Rattle.cases.specs.Case.S1Words.{s1_words}
use Rattle.model.specs.List.Listing.{entry_words}
use Rattle.model.specs.Request.Words.{request_words}
use Rattle.model.specs.Script.Runs.{Outputs}
use Rattle.model.specs.Tables.Layout.{word_count}
use Rattle.tables_text.specs.Calls.{text_of_tables}
use Rattle.model.specs.Request.Refusals as refusal

pub record S1Exhibit : Type 0 where
  -- The check passes S1.
  pub checked : Passes s1_words
  -- Every case of a step, starred or not: each answer on the way, and the words that stand at the end.
  pub steps : AllConfirmed s1_words (starred ++ unstarred)
  -- Every case of a step as one run from S1's words on: the same answers, each in its place, and the same words at the end.
  pub runs : AllInOneRun s1_words (starred ++ unstarred)
  -- User 9 is answered 4, whatever the sixteen words ask, and nothing changes.
  pub user_nine : (q : List ℕ) → length q ≡ request_words → get_or q 0 0 ≡ 9 → (a : ℕ) (r : List ℕ) → StepCall s1_words q a r
      → (a ≡ exported (answering refusal.unknown_requester 0)) × (r ≡ s1_words)
  -- User 2 is listed 5 alone;
  pub list_of_two : (room : List ℕ) → entry_words ≤ length room → (a : ℕ) (r : List ℕ) → ListCall s1_words 2 room a r
      → (a ≡ exported (answering refusal.accepted 1)) × (r ≡ (1 ∷ 5 ∷ 0 ∷ 0 ∷ 0 ∷ []) ++ drop entry_words room)
  -- in less than five words there is no room for it;
  pub short_of_two : (room : List ℕ) → length room < entry_words → (a : ℕ) (r : List ℕ) → ListCall s1_words 2 room a r
      → (a ≡ exported (answering refusal.too_short 1)) × (r ≡ room)
  -- with 4 unmarked it is 4.1, then 5;
  pub list_unmarked : (room : List ℕ) → 2 * entry_words ≤ length room → (a : ℕ) (r : List ℕ) → ListCall s1_unmarked 2 room a r
      → (a ≡ exported (answering refusal.accepted 2)) × (r ≡ (2 ∷ 4 ∷ 1 ∷ 0 ∷ 0 ∷ 1 ∷ 5 ∷ 0 ∷ 0 ∷ 0 ∷ []) ++ drop (2 * entry_words) room)
  -- and user 1 is listed nothing.
  pub list_of_one : (room : List ℕ) (a : ℕ) (r : List ℕ) → ListCall s1_words 1 room a r
      → (a ≡ exported (answering refusal.accepted 0)) × (r ≡ room)
  -- The script of two shows has these six lines as its output, and no other.
  pub script_writes : Outputs s1_words s1_script s1_output
  pub script_only : (o : List ℕ) → Outputs s1_words s1_script o → o ≡ s1_output
  -- S1's text has 987 bytes, one after another those of the case; the writer of tables puts them into any room that has so many,
  pub text_written : {room r : List ℕ} {a : ℕ} → WriteTablesCall s1_words room a r → TextWritten s1_text room a r
  pub text_bytes : length s1_text ≡ 987
  -- and the reader of tables gives S1's words for them.
  pub text_read : {v w : List ℕ} {a : ℕ} → length v ≡ word_count → ReadTablesCall s1_text v a w → (no_in a ≡ refusal.accepted) × (w ≡ s1_words)
  -- Damaged texts of S1 are refused with 18 and the line that is the first bad one, or with 2, and the words to write to stay.
  pub damaged_read : AllRefused damaged_texts
  -- The text of no bytes is that of 2,304 zeros, tables with no record: it is written of them, and read as them.
  pub empty_written : {room r : List ℕ} {a : ℕ} → WriteTablesCall no_words room a r → TextWritten [] room a r
  pub empty_read : {v w : List ℕ} {a : ℕ} → length v ≡ word_count → ReadTablesCall [] v a w → (no_in a ≡ refusal.accepted) × (w ≡ no_words)
  -- S1 with a role that is not authorised is not secure, as the check says, and is written like others.
  pub insecure_checked : {a : ℕ} → CheckCall insecure_words a → no_in a ≡ refusal.not_secure
  pub insecure_written : {room r : List ℕ} {a : ℕ} → WriteTablesCall insecure_words room a r → TextWritten (text_of_tables insecure_words) room a r
