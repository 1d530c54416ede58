-- Document 02, M-100; rules 15.2 to 15.5: what a run is, of any words that it is lent.
use Rattle.std.specs.Prelude.{Bool, ◌&&◌, List, ◌++◌, ◌≡◌, ◌%◌, ◌≤◌, ℕ, eqb, leb, drop, length}
use Rattle.model.specs.Basics.Choice.{pick}
use Rattle.model.specs.Request.Words.{request_words}
use Rattle.model.specs.Run.Requests.{Requests, request_count, requests_in}
use Rattle.model.specs.Run.Through.{Through, answers_to}
use Rattle.model.specs.Tables.Layout.{word_count}
use Rattle.model.specs.Theorem.Statements.{after_words}
use Rattle.model.specs.Request.Refusals as refusal

-- Rule 15.2: the sizes that a run asks for: 2,304 words of tables t, words w of whole requests, and a room with a place for each answer.
pub record Sizes (t w room : List ℕ) : Type 0 where
  pub tables : length t ≡ word_count
  pub multiple : length w % request_words ≡ 0
  pub places : request_count w ≤ length room

-- their test
unfoldable pub sizes : List ℕ → List ℕ → List ℕ → Bool
sizes t w room = eqb (length t) word_count && (eqb (length w % request_words) 0 && leb (request_count w) (length room))

-- Rules 15.3 and 15.4: the requests of w go through the tables t, which are r afterwards; their answers stand at the front of the room, which is s
-- afterwards, and behind them it is as it was.
pub record Answers (t w room r s : List ℕ) : Type 0 where
  pub requests : List (List ℕ)
  pub parts : Requests w requests
  pub answers : List ℕ
  pub through : Through t requests answers r
  pub places : s ≡ answers ++ drop (length answers) room

-- Rule 15: the run of w on t, with a room for answers, answers a, and leaves r and s. It refuses by its sizes alone, and then leaves both as they were.
pub record Run (t w room : List ℕ) (a : ℕ) (r s : List ℕ) : Type 0 where
  pub refused : (Sizes t w room → ⊥) → (a ≡ refusal.bad_length) × (r ≡ t) × (s ≡ room)
  pub accepted : Sizes t w room → a ≡ refusal.accepted
  pub answered : Sizes t w room → Answers t w room r s

-- what a run answers, and what it leaves in the tables and in the room, by computation
unfoldable pub run_answer : List ℕ → List ℕ → List ℕ → ℕ
run_answer t w room = pick (sizes t w room) refusal.accepted refusal.bad_length

unfoldable pub run_tables : List ℕ → List ℕ → List ℕ → List ℕ
run_tables t w room = pick (sizes t w room) (after_words t (requests_in w)) t

unfoldable pub run_room : List ℕ → List ℕ → List ℕ → List ℕ
run_room t w room = pick (sizes t w room) (answers_to t (requests_in w) ++ drop (request_count w) room) room
