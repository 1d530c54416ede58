-- Document 01, "Request text"; rule 12.3: what the program writes of a request.
use Rattle.std.specs.Prelude.{Bool, ◌&&◌, List, [], ◌++◌, ◌∷◌, ℕ, leb}
use Rattle.model.specs.Basics.Choice.{pick}
use Rattle.model.specs.Request.Step.{after_of, answer_of}
use Rattle.model.specs.Request.Words.{request_of}
use Rattle.model.specs.Tables.Layout.{tables_of}
use Rattle.model.specs.Tables.Words.{held, missed}
use Rattle.model.specs.Text.Lines.{line}
use Rattle.model.specs.Text.Numbers.{digits}
use Rattle.model.specs.Request.Refusals as refusal

-- Rule 12.3: the answer, and the requester's words 5 and 7.
pub record Report : Type 0 where
  pub answer : ℕ
  pub held : ℕ
  pub missed : ℕ

-- Rule 12.3: with the answers 1 to 4 nobody's words are told.
unfoldable pub untold : ℕ → Bool
untold a = leb refusal.bad_length a && leb a refusal.unknown_requester

-- a report of an answer alone
abbrev pub bare : ℕ → Report
bare a = record { answer = a; held = 0; missed = 0 }

-- Rule 12.3: the report of the request q on the tables t: the step's answer, and the requester's words as the request leaves them.
unfoldable pub report : List ℕ → List ℕ → Report
report t q =
    pick (untold (answer_of t q))
    (bare (answer_of t q))
    (record {
      answer = answer_of t q;
      held = (tables_of (after_of t q)).user (request_of q).user held;
      missed = (tables_of (after_of t q)).user (request_of q).user missed;
    })

-- Rule 12.4: the report where no request can be read.
abbrev pub unread : Report
unread = bare refusal.not_a_request

-- Rule 12.3: the keys answer, held and missed, each with its equals sign.
abbrev pub answer_key : List ℕ
answer_key = 97 ∷ 110 ∷ 115 ∷ 119 ∷ 101 ∷ 114 ∷ 61 ∷ []

abbrev pub held_key : List ℕ
held_key = 104 ∷ 101 ∷ 108 ∷ 100 ∷ 61 ∷ []

abbrev pub missed_key : List ℕ
missed_key = 109 ∷ 105 ∷ 115 ∷ 115 ∷ 101 ∷ 100 ∷ 61 ∷ []

-- Rule 12.3: a report's three lines,
unfoldable pub report_text : Report → List ℕ
report_text r = line answer_key (digits r.answer) ++ (line held_key (digits r.held) ++ line missed_key (digits r.missed))

-- and those of all reports, one after another.
unfoldable pub output : List Report → List ℕ
output [] = []
output (r ∷ rs) = report_text r ++ output rs

-- the answers that reports tell
abbrev pub answers_in : List Report → List ℕ
answers_in [] = []
answers_in (r ∷ rs) = r.answer ∷ answers_in rs
