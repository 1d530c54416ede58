-- The laws of runs: one run after another, further bytes after a run, and that every script has exactly one list of reports, in which each
-- report is that of the tables after exactly the requests before it.
use Rattle.std.specs.Prelude.{Bool, false, true, List, [], ◌++◌, ◌∷◌, ◌≡◌, refl, ◌+◌, ◌<◌, ◌≤◌, suc, zero, ℕ, get_or, length, take}
use Rattle.std.proofs.Common.{append_assoc, append-nil, ◌∙◌, ap, ap₂, sym, arith}
use Rattle.model.specs.Basics.Choice.{pick}
use Rattle.model.specs.Request.Step.{after_of, answer_of}
use Rattle.model.specs.Request.Words.{request_of}
use Rattle.model.specs.Run.Through.{answers_to}
use Rattle.model.specs.Script.Reports.{Report, answers_in, bare, output, report, unread, untold}
use Rattle.model.specs.Script.Runs.{Answered, Outputs, Reported, Runs, cut, requests, stay, texts, turn, whole}
use Rattle.model.specs.Tables.Layout.{tables_of}
use Rattle.model.specs.Tables.Words.{held, missed}
use Rattle.model.specs.Text.Lines.{read_line}
use Rattle.model.specs.Text.NearLaws.{read_longer, read_shorter}
use Rattle.model.specs.Text.Textual.{AllWritten}
use Rattle.model.specs.Text.Wording.{Lines, Wording, bad_line, lines, read_seven, sixteen, text_of}
use Rattle.model.specs.Text.WordingLaws.{text_back, text_there}
use Rattle.model.specs.Theorem.Statements.{after_words}

-- one run after another is a run
pub runs_append : {t s t' s' t'' s'' : List ℕ} {rs rs' : List Report} → Runs t s rs t' s' → Runs t' s' rs' t'' s'' → Runs t s (rs ++ rs') t'' s''
runs_append stay q = q
runs_append (turn e r) q = turn e (runs_append r q)

-- further bytes after a script change nothing of a run
pub runs_longer : {t s t' s' : List ℕ} {rs : List Report} → Runs t s rs t' s' → (x : List ℕ) → Runs t (s ++ x) rs t' (s' ++ x)
runs_longer stay x = stay
runs_longer (turn {s = s} {x = y} {m = m} e r) x = turn (read_longer s m y e x) (runs_longer r x)

-- each report of a run takes at least one byte of the script
pub runs_shorter : {t s t' s' : List ℕ} {rs : List Report} → Runs t s rs t' s' → length rs + length s' ≤ length s
runs_shorter stay = omega arith
runs_shorter (turn {s = s} {x = x} {m = m} e r) = omega (arith, read_shorter s m x e, runs_shorter r)

-- a run, and after it all of what is left
pub runs_answered : {t s t' s' : List ℕ} {rs rs' : List Report} → Runs t s rs t' s' → Answered t' s' rs' → Answered t s (rs ++ rs')
runs_answered r (whole p) = whole (runs_append r p)
runs_answered {rs = rs} r (cut {rs = ps} p e) = rw (← append_assoc rs ps (unread ∷ [])) (cut (runs_append r p) e)

-- no request can be read at the front of these bytes; none can where there are no bytes
pub record Stuck (s : List ℕ) : Type 0 where
  pub line : ℕ
  pub bad : read_seven s ≡ bad_line line

stuck_empty : Stuck []
unfolding read_seven read_line
stuck_empty = record { line = 1; bad = refl }

not_both : {C : Type 0} {s x : List ℕ} {m : Wording} → Stuck s → read_seven s ≡ lines m x → C
not_both k e = let b = k.bad in let z : ◌≡◌ {A = ℕ} 0 1 = cc in absurd (omega arith)

-- two runs of one script that both end where no request can be read
record SameRun (rs rs' : List Report) (x x' : List ℕ) : Type 0 where
  reports : rs ≡ rs'
  rest : x ≡ x'

runs_same : {t s u x u' x' : List ℕ} {rs rs' : List Report} → Runs t s rs u x → Stuck x → Runs t s rs' u' x' → Stuck x' → SameRun rs rs' x x'
runs_same stay k stay k' = record { reports = refl; rest = refl }
runs_same stay k (turn e r) k' = not_both k e
runs_same (turn e r) k stay k' = not_both k' e
runs_same (turn {t = t} {x = y} {m = m} e r) k (turn {x = y'} {m = m'} {rs = ps} e' r') k' =
    let em : m ≡ m' = cc in
    let ey : y ≡ y' = cc in
    let p : Runs (after_of t (sixteen m)) y ps _ _ = rw (← em, ← ey) at r' in
    let w = runs_same r k p k' in
    record { reports = ap₂ ◌∷◌ (ap (λ n. report t (sixteen n)) em) w.reports; rest = w.rest }

-- what is reported at the end of a run: nothing where the script ends there, and else that a request could not be read
abbrev closing : List ℕ → List Report
closing [] = []
closing (b ∷ x) = unread ∷ []

-- all of a script is a run to where no request can be read, and what is reported there
record Halted (t s : List ℕ) (rs : List Report) : Type 0 where
  before : List Report
  tables : List ℕ
  rest : List ℕ
  runs : Runs t s before tables rest
  stuck : Stuck rest
  all : rs ≡ before ++ closing rest

answered_halted : {t s : List ℕ} {rs : List Report} → Answered t s rs → Halted t s rs
answered_halted (whole {t' = t'} {rs = rs} r) =
    record { before = rs; tables = t'; rest = []; runs = r; stuck = stuck_empty; all = sym (append-nil rs) }
answered_halted (cut {t' = t'} {x = x} {b = b} {k = k} {rs = rs} r e) =
    record { before = rs; tables = t'; rest = b ∷ x; runs = r; stuck = record { line = k; bad = e }; all = refl }

halted_answered : {t s t' : List ℕ} {rs : List Report} (x : List ℕ) → Runs t s rs t' x → Stuck x → Answered t s (rs ++ closing x)
halted_answered {rs = rs} [] r k = rw (append-nil rs) (whole r)
halted_answered (b ∷ x) r k = cut r k.bad

-- Rule 14.2: a script has one list of reports only,
pub answered_unique : {t s : List ℕ} {rs rs' : List Report} → Answered t s rs → Answered t s rs' → rs ≡ rs'
answered_unique p q =
    let a = answered_halted p in
    let b = answered_halted q in
    let w = runs_same a.runs a.stuck b.runs b.stuck in
    a.all ∙ ap₂ (λ l x. l ++ closing x) w.reports w.rest ∙ sym b.all

-- the reports from the first request on, where those after it are known
first_of : (t s : List ℕ) → ((m : Wording) (x : List ℕ) → read_seven s ≡ lines m x → (rs : List Report) × Answered (after_of t (sixteen m)) x rs)
    → (rs : List Report) × Answered t s rs
first_of t s more = go (read_seven s) refl
  where
    go : (l : Lines) → read_seven s ≡ l → (rs : List Report) × Answered t s rs
    go (bad_line k) e = (closing s, halted_answered s stay (record { line = k; bad = e }))
    go (lines m x) e = let w = more m x e in (report t (sixteen m) ∷ w.0, runs_answered (turn e stay) w.1)

-- and every script has one, whatever the tables: each request that is read shortens the script.
pub answered_some : (t s : List ℕ) → (rs : List Report) × Answered t s rs
answered_some t s = go (suc (length s)) t s (omega arith)
  where
    go : (n : ℕ) (t s : List ℕ) → length s < n → (rs : List Report) × Answered t s rs
    go zero t s h = absurd (omega arith)
    go (suc n) t s h = first_of t s (λ m x e. go n (after_of t (sixteen m)) x (omega (arith, read_shorter s m x e)))

-- a script of no bytes is answered with nothing
pub answered_empty : {t : List ℕ} {rs : List Report} → Answered t [] rs → rs ≡ []
answered_empty p = answered_unique p (whole stay)

-- Rules 12 and 14.2: exactly one output fits tables and a script,
pub outputs_unique : {t s o o' : List ℕ} → Outputs t s o → Outputs t s o' → o ≡ o'
outputs_unique p q = p.written ∙ ap output (answered_unique p.answered q.answered) ∙ sym q.written

-- and there is one;
pub outputs_some : (t s : List ℕ) → (o : List ℕ) × Outputs t s o
outputs_some t s = let w = answered_some t s in (output w.0, record { reports = w.0; answered = w.1; written = refl })

-- of a script of no bytes it is nothing (rule 12.2).
pub outputs_empty : {t o : List ℕ} → Outputs t [] o → o ≡ []
unfolding output
outputs_empty p = p.written ∙ ap output (answered_empty p.answered)

-- one request more in front
reported_turn : {t s x t' s' : List ℕ} {m : Wording} {rs : List Report} → read_seven s ≡ lines m x → Reported (after_of t (sixteen m)) x rs t' s'
    → Reported t s (report t (sixteen m) ∷ rs) t' s'
unfolding after_words
reported_turn {t = t} {s = s} {x = x} {s' = s'} {m = m} {rs = rs} e w =
    record {
      wordings = m ∷ w.wordings;
      written = ((text_back s m x e).0, w.written);
      text = (text_back s m x e).1 ∙ ap (λ l. text_of m ++ l) w.text ∙ sym (append_assoc (text_of m) (texts w.wordings) s');
      many = ap suc w.many;
      each = at;
      after = w.after;
    }
  where
    at : (i : ℕ) → i < suc (length rs)
        → get_or (report t (sixteen m) ∷ rs) i unread
        ≡ report (after_words t (take i (sixteen m ∷ requests w.wordings))) (get_or (sixteen m ∷ requests w.wordings) i [])
    at zero h = refl
    at (suc i) h = w.each i (omega arith)

-- Rule 12.3: each report of a run is that of the tables after exactly the requests before it.
pub runs_report : {t s t' s' : List ℕ} {rs : List Report} → Runs t s rs t' s' → Reported t s rs t' s'
unfolding after_words
runs_report stay = record { wordings = []; written = tt; text = refl; many = refl; each = λ i h. absurd (omega arith); after = refl }
runs_report (turn e r) = reported_turn e (runs_report r)

-- the answer that a report of a request tells is the step's
report_answer : (t q : List ℕ) → (report t q).answer ≡ answer_of t q
unfolding report
report_answer t q = go (untold (answer_of t q))
  where
    go : (b : Bool) → (pick b (bare (answer_of t q)) (record {
      answer = answer_of t q;
      held = (tables_of (after_of t q)).user (request_of q).user held;
      missed = (tables_of (after_of t q)).user (request_of q).user missed;
    })).answer ≡ answer_of t q
    go true = refl
    go false = refl

-- Rules 12.3 and 15.6: the answers that a script's reports tell are those of its requests one after another.
pub runs_answers : {t s t' s' : List ℕ} {rs : List Report} (x : Runs t s rs t' s') → answers_in rs ≡ answers_to t (requests (runs_report x).wordings)
unfolding answers_to runs_report reported_turn
runs_answers stay = refl
runs_answers (turn {t = t} {m = m} e r) = ap₂ ◌∷◌ (report_answer t (sixteen m)) (runs_answers r)

-- the reports of wordings, each on the tables that those before it leave
abbrev pub reports_of : List ℕ → List Wording → List Report
reports_of t [] = []
reports_of t (m ∷ ms) = report t (sixteen m) ∷ reports_of (after_of t (sixteen m)) ms

-- Rules 12.2 and 12.3: and where texts stand one after another, they are run with exactly these reports, as far as what follows them.
pub texts_runs : (t : List ℕ) (ms : List Wording) (x : List ℕ) → AllWritten ms
    → Runs t (texts ms ++ x) (reports_of t ms) (after_words t (requests ms)) x
unfolding after_words
texts_runs t [] x h = stay
texts_runs t (m ∷ ms) x h =
    turn
    (ap read_seven (append_assoc (text_of m) (texts ms) x) ∙ text_there m (texts ms ++ x) h.0)
    (texts_runs (after_of t (sixteen m)) ms x h.1)
