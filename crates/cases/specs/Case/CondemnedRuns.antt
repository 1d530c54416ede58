-- Wrong runs of a script on case state S1, and that the statement of a script's reports rejects them. One of them would pass if the statement did not
-- tie each report to the tables that the requests before it have left (rule 12.3), or did not say where a run ends (rules 12.2 and 12.4).
use Rattle.std.specs.Prelude.{Bool, ◌&&◌, List, [], ◌++◌, ◌∷◌, ◌≡◌, refl, ◌<◌, ◌≤◌, ℕ, T, eqb, get_or, length, take}
use Rattle.std.proofs.Common.{append-nil, ◌∙◌, ap, ap₂, subst, arith}
use Rattle.std.proofs.Math.Dec.{eqb_refl}
use Rattle.cases.specs.Case.Opened.{opened}
use Rattle.cases.specs.Case.Others.{both, none_at, other}
use Rattle.cases.specs.Case.S1.{s1, s1_sheet}
use Rattle.cases.specs.Case.S1Words.{s1_words, s1_words_length, s1_words_tables}
use Rattle.model.specs.Request.After.{after}
use Rattle.model.specs.Request.Step.{after_of}
use Rattle.model.specs.Request.Words.{name_count, request_of}
use Rattle.model.proofs.Script.ReportLaws.{report_told, told}
use Rattle.model.specs.Script.Reports.{Report, unread, untold}
use Rattle.model.specs.Script.Runs.{Answered, cut, texts, whole}
use Rattle.model.specs.Script.RunsLaws.{answered_unique, reports_of, texts_runs}
use Rattle.model.specs.Tables.Layout.{tables_of, word_count}
use Rattle.model.specs.Tables.Words.{Tables, held, missed}
use Rattle.model.specs.Text.Lines.{read_line}
use Rattle.model.specs.Text.Numbers.{most}
use Rattle.model.specs.Text.Textual.{AllFit, Written}
use Rattle.model.specs.Text.Wording.{Wording, bad_line, read_seven, sixteen}
use Rattle.model.proofs.Text.WordsLaws.{sixteen_length}
use Rattle.model.proofs.Theorem.Steps.{after_of_length, after_of_tables, sized_agrees}

-- ---- reports by tables

-- the reports of wordings, each on the tables that those before it leave, as on words
abbrev told_of : Tables → List Wording → List Report
told_of d [] = []
told_of d (m ∷ ms) = told d (request_of (sixteen m)) ∷ told_of (after d (request_of (sixteen m))) ms

reports_told : (t : List ℕ) (d : Tables) (ms : List Wording) → length t ≡ word_count → tables_of t ≡ d → reports_of t ms ≡ told_of d ms
reports_told t d [] h e = refl
reports_told t d (m ∷ ms) h e =
    ap₂ ◌∷◌
    (report_told t (sixteen m) d h (sixteen_length m) e)
    (reports_told (after_of t (sixteen m)) (after d (request_of (sixteen m))) ms (after_of_length t (sixteen m) ∙ h)
    (after_of_tables t (sixteen m) ((sized_agrees t (sixteen m)).from (h, sixteen_length m)) ∙ ap (λ (c : Tables). after c (request_of (sixteen m))) e))

-- ---- the script and its run

-- a request of user 2: operation, first reference, a and b
abbrev asked : ℕ → List ℕ → ℕ → ℕ → Wording
asked o r a b = record { user = 2; operation = o; first = r; second = []; a = a; b = b; c = 0 }

-- show 4.1 with a = 3;
abbrev opening : List Wording
opening = asked 10 (4 ∷ 1 ∷ []) 3 0 ∷ []

-- then show 5 with a = 1, and acknowledge 9 and 2
abbrev pub three_asked : List Wording
three_asked = opening ++ (asked 10 (5 ∷ []) 1 0 ∷ asked 20 [] 9 2 ∷ [])

-- an answer, and the words held and missed
abbrev tells : ℕ → ℕ → ℕ → Report
tells n h m = record { answer = n; held = h; missed = m }

-- the reports of the three
abbrev pub three_reports : List Report
three_reports = tells 9 9 1 ∷ tells 15 9 2 ∷ tells 0 0 0 ∷ []

-- they have texts
asked_written : (o : ℕ) (r : List ℕ) (a b : ℕ) → o ≤ most → (length r ≤ name_count) × AllFit r → a ≤ most → b ≤ most → Written (asked o r a b)
asked_written o r a b ho hr ha hb =
    record { user = omega arith; operation = ho; first = hr; second = (omega arith, tt); a = ha; b = hb; c = omega arith }

first_written : Written (asked 10 (4 ∷ 1 ∷ []) 3 0)
first_written = asked_written 10 (4 ∷ 1 ∷ []) 3 0 (omega arith) (omega arith, (omega arith, (omega arith, tt))) (omega arith) (omega arith)

second_written : Written (asked 10 (5 ∷ []) 1 0)
second_written = asked_written 10 (5 ∷ []) 1 0 (omega arith) (omega arith, (omega arith, tt)) (omega arith) (omega arith)

third_written : Written (asked 20 [] 9 2)
third_written = asked_written 20 [] 9 2 (omega arith) (omega arith, tt) (omega arith) (omega arith)

three_told : told_of s1 three_asked ≡ three_reports
unfolding opened s1 s1_sheet sixteen untold
three_told = refl

opening_told : told_of s1 opening ≡ tells 9 9 1 ∷ []
opening_told = ap (take 1) three_told

-- Rules 8.2, 8.3 and 12.3: the first refusal is held and the second counted, and the acknowledgement clears both.
pub three_answered : Answered s1_words (texts three_asked) three_reports
three_answered =
    subst (λ s. Answered s1_words s three_reports) (append-nil (texts three_asked))
    (subst (λ rs. Answered s1_words (texts three_asked ++ []) rs)
    (reports_told s1_words s1 three_asked s1_words_length s1_words_tables ∙ three_told)
    (whole (texts_runs s1_words three_asked [] (first_written, (second_written, (third_written, tt))))))

-- ---- what is not its run

-- whether two reports are the same, and that a report is the same as itself
abbrev same_report : Report → Report → Bool
same_report r q = eqb r.answer q.answer && (eqb r.held q.held && eqb r.missed q.missed)

same_report_lem : (r : Report) → T (same_report r r)
same_report_lem r = both (eqb r.answer r.answer) _ (eqb_refl r.answer)
    (both (eqb r.held r.held) _ (eqb_refl r.held) (eqb_refl r.missed))

-- ---- work at the wrong time

-- what wordings leave of tables
abbrev left_by : Tables → List Wording → Tables
left_by d [] = d
left_by d (m ∷ ms) = left_by (after d (request_of (sixteen m))) ms

-- these answers, each beside user u's words in the tables d
abbrev beside : Tables → ℕ → List Report → List Report
beside d u [] = []
beside d u (r ∷ rs) = record { answer = r.answer; held = d.user u held; missed = d.user u missed } ∷ beside d u rs

-- the reports of wordings, each on the same tables
abbrev told_alone : Tables → List Wording → List Report
told_alone d [] = []
told_alone d (m ∷ ms) = told d (request_of (sixteen m)) ∷ told_alone d ms

-- Rules 12.3 and 14.3: everything was done at the first request, and each report told from the tables that the whole script leaves: 9, 15 and 0, and
-- beside each of them held 0 and missed 0.
pub hurried_condemned : Answered s1_words (texts three_asked) (beside (left_by s1 three_asked) 2 three_reports) → ⊥
unfolding opened s1 s1_sheet sixteen
hurried_condemned x = other same_report same_report_lem (beside (left_by s1 three_asked) 2 three_reports) three_reports tt (answered_unique x three_answered)

-- Rule 12.3: each request found the tables as they were at the start, and so the second refusal was held and the acknowledgement refused.
pub stale_condemned : Answered s1_words (texts three_asked) (told_alone s1 three_asked) → ⊥
unfolding opened s1 s1_sheet sixteen untold
stale_condemned x = other same_report same_report_lem (told_alone s1 three_asked) three_reports tt (answered_unique x three_answered)

-- ---- other reports

-- What else the three requests are not answered with:
abbrev pub wrong_reports : List (List Report)
wrong_reports =
    -- nothing (rule 12.2)
    []
    -- the first report for every request (rule 12.3)
    ∷ (tells 9 9 1 ∷ tells 9 9 1 ∷ tells 9 9 1 ∷ [])
    -- the requester's words as each request finds them, and not as it leaves them (rule 12.3)
    ∷ (tells 9 0 0 ∷ tells 15 9 1 ∷ tells 0 9 2 ∷ [])
    -- the second refusal held instead of the first (rule 8.2)
    ∷ (tells 9 9 1 ∷ tells 15 15 2 ∷ tells 0 0 0 ∷ [])
    -- the first, the second or the last report left out (rule 12.3)
    ∷ (tells 15 9 2 ∷ tells 0 0 0 ∷ [])
    ∷ (tells 9 9 1 ∷ tells 0 0 0 ∷ [])
    ∷ (tells 9 9 1 ∷ tells 15 9 2 ∷ [])
    -- a report too many: the last one again, and 18 at the end of a script that could be read (rules 12.3 and 12.4)
    ∷ (tells 9 9 1 ∷ tells 15 9 2 ∷ tells 0 0 0 ∷ tells 0 0 0 ∷ [])
    ∷ (tells 9 9 1 ∷ tells 15 9 2 ∷ tells 0 0 0 ∷ unread ∷ [])
    -- the reports in another order (rule 12.3)
    ∷ (tells 15 9 2 ∷ tells 9 9 1 ∷ tells 0 0 0 ∷ [])
    ∷ (tells 0 0 0 ∷ tells 15 9 2 ∷ tells 9 9 1 ∷ [])
    -- a request that can be read, answered 18 (rule 12.4)
    ∷ (unread ∷ [])
    ∷ (tells 9 9 1 ∷ unread ∷ [])
    ∷ []

-- each of these lists is rejected.
pub reports_condemned : (i : ℕ) → i < length wrong_reports → Answered s1_words (texts three_asked) (get_or wrong_reports i []) → ⊥
reports_condemned i h x = none_at same_report same_report_lem three_reports wrong_reports tt i h (answered_unique x three_answered)

-- ---- a request that cannot be read

-- The first request, and after it bytes that begin with the letter U: whatever follows, they are no request.
abbrev pub damaged_script : List ℕ → List ℕ
damaged_script x = texts opening ++ (85 ∷ x)

damaged_bad : (x : List ℕ) → read_seven (85 ∷ x) ≡ bad_line 1
unfolding read_seven read_line
damaged_bad x = refl

-- Rule 12.4: it is answered 18, with nothing after it.
abbrev pub damaged_reports : List Report
damaged_reports = tells 9 9 1 ∷ unread ∷ []

-- That is its run,
pub damaged_answered : (x : List ℕ) → Answered s1_words (damaged_script x) damaged_reports
damaged_answered x =
    subst (λ rs. Answered s1_words (damaged_script x) (rs ++ (unread ∷ [])))
    (reports_told s1_words s1 opening s1_words_length s1_words_tables ∙ opening_told)
    (cut (texts_runs s1_words opening (85 ∷ x) (first_written, tt)) (damaged_bad x))

-- and these are not:
abbrev pub wrong_ends : List (List Report)
wrong_ends =
    -- the run went on after 18, with the acknowledgement that may follow, or with 18 again (rule 12.4)
    (tells 9 9 1 ∷ unread ∷ tells 16 9 2 ∷ [])
    ∷ (tells 9 9 1 ∷ unread ∷ unread ∷ [])
    -- it went on without 18
    ∷ (tells 9 9 1 ∷ tells 16 9 2 ∷ [])
    -- it ended without 18
    ∷ (tells 9 9 1 ∷ [])
    -- 18, and the requests before it not answered; no report at all
    ∷ (unread ∷ [])
    ∷ []
    -- the words of the user before beside 18 (rule 12.3)
    ∷ (tells 9 9 1 ∷ tells 18 9 1 ∷ [])
    ∷ []

-- each of them is rejected, whatever follows the letter.
pub ends_condemned : (x : List ℕ) (i : ℕ) → i < length wrong_ends → Answered s1_words (damaged_script x) (get_or wrong_ends i []) → ⊥
ends_condemned x i h a = none_at same_report same_report_lem damaged_reports wrong_ends tt i h (answered_unique a (damaged_answered x))
