-- What a case says of the exported step, of the exported run, and of the exported reader of tables. The cases are those of Case/Cases, as they stand
-- there: the requests of a case are calls one after another, or one run; and those of Case/DamagedTexts.
use Rattle.std.specs.Prelude.{List, [], ◌++◌, ◌∷◌, ◌≡◌, ◌≤◌, ℕ, T, drop, length}
use Rattle.mms.specs.Calls.{ReadTablesCall, RunCall, StepCall, no_in, number_in}
use Rattle.mms.specs.Contract.{exported}
use Rattle.mms.specs.RoundTrip.{answering}
use Rattle.cases.specs.Case.Cases.{Case, Exchange, Stands, ◌gets◌, asked, gotten, stand}
use Rattle.cases.specs.Case.DamagedTexts.{DamagedText}
use Rattle.model.specs.Basics.Together.{together}
use Rattle.model.specs.Tables.Layout.{tables_of, word_count}
use Rattle.model.specs.Request.Refusals as refusal

-- Calls on the words t, each on what the one before it left: whatever word and words meet the promise of a call, the word is that of the answer, which
-- has no number beside it; and in what the last call leaves the words stand.
abbrev pub Confirmed : List ℕ → List Exchange → List Stands → Type 0
Confirmed t [] ws = T (stand ws (tables_of t))
Confirmed t (q gets n ∷ es) ws = (a : ℕ) (r : List ℕ) → StepCall t q a r → (a ≡ exported (answering n 0)) × Confirmed r es ws

-- every case of a table, each from the words t on
abbrev pub AllConfirmed : List ℕ → List Case → Type 0
AllConfirmed t [] = Unit {0}
AllConfirmed t (c ∷ cs) = Confirmed t c.exchanges c.standing × AllConfirmed t cs

-- The same in one call of the run, in any room that has a place for each answer: it is accepted, the answers stand at the front of the room, which is as it
-- was behind them, and in the tables that it leaves the words stand.
abbrev pub InOneRun : List ℕ → List Exchange → List Stands → Type 0
InOneRun t es ws = (room : List ℕ) → length es ≤ length room → (a : ℕ) (r s : List ℕ) → RunCall t (together (asked es)) room a r s
    → (a ≡ exported (answering refusal.accepted 0)) × (s ≡ gotten es ++ drop (length es) room) × T (stand ws (tables_of r))

abbrev pub AllInOneRun : List ℕ → List Case → Type 0
AllInOneRun t [] = Unit {0}
AllInOneRun t (c ∷ cs) = InOneRun t c.exchanges c.standing × AllInOneRun t cs

-- Texts that the reader of tables refuses: each with its answer and its number, whatever the 2,304 words are that it may write to; and they stay.
abbrev pub AllRefused : List DamagedText → Type 0
AllRefused [] = Unit {0}
AllRefused (c ∷ cs) =
    ((v w : List ℕ) (a : ℕ) → length v ≡ word_count → ReadTablesCall c.text v a w → (no_in a ≡ c.answer) × (number_in a ≡ c.number) × (w ≡ v))
    × AllRefused cs
