-- Rule 16: S1's text, damaged texts of it, and the texts of other tables, as the linked calls write and read them.
use Rattle.std.specs.Prelude.{true, List, [], ◌∷◌, ◌≡◌, ℕ, T, eqb, length}
use Rattle.std.proofs.Common.{◌∙◌, sym, eqb→eq, eq-eqb}
use Rattle.exhibits.specs.Called.{AllRefused}
use Rattle.mms.specs.CallLaws.{check_no}
use Rattle.mms.specs.Calls.{CheckCall, ReadTablesCall, TextWritten, WriteTablesCall, no_in, number_in}
use Rattle.mms.specs.TablesCallLaws.{read_tables_halves, tables_as_text}
use Rattle.cases.specs.Case.DamagedTexts.{DamagedText, all_hold, damaged_texts, damaged_texts_hold, holds}
use Rattle.cases.specs.Case.OtherTexts.{insecure_checked_lem, insecure_text, insecure_words, no_record_text, no_words}
use Rattle.cases.specs.Case.S1Text.{s1_text_lem, s1_text}
use Rattle.cases.specs.Case.S1Words.{s1_words}
use Rattle.model.specs.Basics.Agree.{agrees_eq, agrees_not}
use Rattle.model.specs.Basics.TestLaws.{T-l, T-r}
use Rattle.model.specs.Tables.Layout.{word_count}
use Rattle.tables_text.specs.Calls.{answer_in, line_in, read_answer, read_number, text_of_tables}
use Rattle.tables_text.proofs.ReadLaws.{read_refused}
use Rattle.tables_text.specs.Stages.{reading}
use Rattle.model.specs.Request.Refusals as refusal

pub s1_text_written : {room r : List ℕ} {a : ℕ} → WriteTablesCall s1_words room a r → TextWritten s1_text room a r
s1_text_written x = tables_as_text.written s1_text_lem x

pub s1_text_read : {v w : List ℕ} {a : ℕ} → length v ≡ word_count → ReadTablesCall s1_text v a w → (no_in a ≡ refusal.accepted) × (w ≡ s1_words)
s1_text_read h x = tables_as_text.read s1_text_lem h x

-- what is computed of a damaged text is what the call answers
damaged_called : (c : DamagedText) → T (holds c) → (v w : List ℕ) (a : ℕ) → length v ≡ word_count
    → ReadTablesCall c.text v a w → (no_in a ≡ c.answer) × (number_in a ≡ c.number) × (w ≡ v)
unfolding holds read_answer read_number
damaged_called c t v w a h x =
    let y = read_tables_halves x in
    let z : eqb (length v) word_count ≡ true = eq-eqb (length v) word_count h in
    let p : answer_in (reading c.text) ≡ c.answer = eqb→eq _ _ (T-l (eqb (answer_in (reading c.text)) c.answer) _ t) in
    let s = T-r (eqb (answer_in (reading c.text)) c.answer) _ t in
    let q : line_in c.text (reading c.text) ≡ c.number = eqb→eq _ _ (T-l (eqb (line_in c.text (reading c.text)) c.number) _ s) in
    let f = (agrees_not (agrees_eq c.answer refusal.accepted)).to (T-r (eqb (line_in c.text (reading c.text)) c.number) _ s) in
    let n : no_in a ≡ c.answer = y.answer ∙ rw z p in
    (n, y.number ∙ rw z q, read_refused y (λ e. f (sym n ∙ e)))

all_called : (cs : List DamagedText) → T (all_hold cs) → AllRefused cs
unfolding all_hold
all_called [] t = tt
all_called (c ∷ cs) t = (damaged_called c (T-l (holds c) (all_hold cs) t), all_called cs (T-r (holds c) (all_hold cs) t))

pub damaged_refused : AllRefused damaged_texts
damaged_refused = all_called damaged_texts damaged_texts_hold

-- tables with no record
pub empty_written_lem : {room r : List ℕ} {a : ℕ} → WriteTablesCall no_words room a r → TextWritten [] room a r
empty_written_lem x = tables_as_text.written no_record_text x

pub empty_read_lem : {v w : List ℕ} {a : ℕ} → length v ≡ word_count → ReadTablesCall [] v a w → (no_in a ≡ refusal.accepted) × (w ≡ no_words)
empty_read_lem h x = tables_as_text.read no_record_text h x

-- tables that are not secure
pub insecure_checked_called : {a : ℕ} → CheckCall insecure_words a → no_in a ≡ refusal.not_secure
insecure_checked_called {a} x = check_no insecure_words a x ∙ insecure_checked_lem

pub insecure_written_lem : {room r : List ℕ} {a : ℕ} → WriteTablesCall insecure_words room a r → TextWritten (text_of_tables insecure_words) room a r
insecure_written_lem x = tables_as_text.written insecure_text x
