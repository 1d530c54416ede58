-- What a run asks and promises, over the words that it is lent: the tables t, the words w of the requests and the room for the answers.
use Rattle.std.specs.Prelude.{List, ◌++◌, ◌≡◌, ◌%◌, ◌≤◌, ℕ, drop, length, take}
use Rattle.model.specs.Request.Words.{request_words}
use Rattle.model.specs.Run.Requests.{request_count, requests_in}
use Rattle.model.specs.Run.Run.{run_answer, run_room, run_tables}
use Rattle.model.specs.Run.Through.{answers_to}
use Rattle.model.specs.State.Check.{check}
use Rattle.model.specs.Theorem.Statements.{after_words}

-- Of the tables the check has said c, the words are whole requests, and each has a place for its answer.
pub record RunReady (t w room : List ℕ) (c : ℕ) : Type 0 where
  pub said : c ≡ check t
  pub multiple : length w % request_words ≡ 0
  pub places : request_count w ≤ length room

-- Rules 15.3 and 15.4: the tables are now r, and the room is s: they are what single steps leave and answer.
pub record AnsweredAll (t w room r s : List ℕ) : Type 0 where
  pub tables : r ≡ after_words t (requests_in w)
  pub answers : s ≡ answers_to t (requests_in w) ++ drop (request_count w) room

-- The same after i requests: the tables are now r, and the room is s.
pub record Going (t w room : List ℕ) (c i : ℕ) (r s : List ℕ) : Type 0 where
  pub within : i ≤ request_count w
  pub said : c ≡ check r
  pub tables : r ≡ after_words t (take i (requests_in w))
  pub answers : s ≡ answers_to t (take i (requests_in w)) ++ drop i room

-- Rule 15, of any words: the answer n is the model's, and so are the tables r and the room s afterwards.
pub record RunSettled (t w room : List ℕ) (n : ℕ) (r s : List ℕ) : Type 0 where
  pub answer : n ≡ run_answer t w room
  pub tables : r ≡ run_tables t w room
  pub answers : s ≡ run_room t w room
