-- Document 01, "The refusal ladder" and "What a reader can rely on"; document 02, M-100 and M-103; rules 8.6 and 14.1: what the public calls promise, for all
-- words. Every call answers a pair; the check, the step and the run have no number to give.
use Rattle.std.specs.Prelude.{List, ◌≡◌, ◌*◌, ◌+◌, suc, ℕ}
use Rattle.mms.specs.declared.Answer.{Answer}
use Rattle.model.specs.List.Listing.{Lists}
use Rattle.model.specs.Request.Step.{after_of, answer_of}
use Rattle.model.specs.Run.Run.{run_answer, run_room, run_tables}
use Rattle.model.specs.State.Check.{check}
use Rattle.model.specs.Text.Numbers.{most}
use Rattle.model.specs.Text.Reading.{Reads}
use Rattle.model.specs.Text.Writing.{Writes}
use Rattle.tables_text.specs.Calls.{ReadsTables, WritesTables}

-- Rule 8.5: the state check of any words.
abbrev pub checking : List ℕ → Answer
checking t = record { no = check t; number = 0 }

-- Rules 7 and 8: the step's answer to any words.
abbrev pub stepping : List ℕ → List ℕ → Answer
stepping t q = record { no = answer_of t q; number = 0 }

-- Rules 7 and 8: the answer a, and the words r that stand in the tables afterwards. The request is only read.
pub record Stepping (t q : List ℕ) (a : Answer) (r : List ℕ) : Type 0 where
  pub answer : a ≡ stepping t q
  pub words : r ≡ after_of t q

-- Rule 10: the answer a, and the words r that stand in the room afterwards. The tables are only read.
abbrev pub Listing : List ℕ → ℕ → List ℕ → Answer → List ℕ → Type 0
Listing t u room a r = Lists t u room a.no a.number r

-- Rule 11.4: the answer a, and the words r that stand in the request afterwards. The text is only read.
abbrev pub Reading : List ℕ → List ℕ → Answer → List ℕ → Type 0
Reading s w a r = Reads s w a.no a.number r

-- Rule 11.3: the answer a, and the bytes r that stand in the room afterwards. The request is only read.
abbrev pub Writing : List ℕ → List ℕ → Answer → List ℕ → Type 0
Writing w room a r = Writes w room a.no a.number r

-- Rule 15: the answer a, the words r that stand in the tables afterwards, and the words s that stand in the room for answers. The requests w are only read.
pub record Running (t w room : List ℕ) (a : Answer) (r s : List ℕ) : Type 0 where
  pub answer : a ≡ record { no = run_answer t w room; number = 0 }
  pub tables : r ≡ run_tables t w room
  pub answers : s ≡ run_room t w room

-- Rule 16.4: the answer a, and the bytes r that stand in the room afterwards. The tables are only read.
abbrev pub WritingTables : List ℕ → List ℕ → Answer → List ℕ → Type 0
WritingTables t room a r = WritesTables t room a.no a.number r

-- Rule 16.5: the answer a, and the words r that stand in the tables afterwards. The text is only read.
abbrev pub ReadingTables : List ℕ → List ℕ → Answer → List ℕ → Type 0
ReadingTables s t a r = ReadsTables s t a.no a.number r

-- how many numbers 32 bits can be
abbrev pub numbers : ℕ
numbers = suc most

-- An answer in one word of 64 bits, as C gets it.
abbrev pub exported : Answer → ℕ
exported a = a.no * numbers + a.number

-- A call that promises P of its answer and of what stands afterwards in the slice that it writes, for C: the answer comes in one word. The run
-- writes two; there P speaks of both.
pub record Exports (P : Answer → List ℕ → Type 0) (a : ℕ) (r : List ℕ) : Type 0 where
  pub answer : Answer
  pub called : P answer r
  pub word : a ≡ exported answer
