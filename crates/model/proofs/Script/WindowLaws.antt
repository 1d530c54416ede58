-- The laws of windows: what is done with a window is a run, as much of it as the room allows, and however a script arrives, its reports are those of
-- the whole script.
use Rattle.std.specs.Prelude.{Bool, ◌&&◌, ◌||◌, false, not, true, List, [], ◌++◌, ◌∷◌, ◌≢◌, ◌⊎◌, ◌≡◌, refl, ◌-◌, ◌<◌, ◌≤◌, suc, zero, ℕ, eqb, ltb, length}
use Rattle.std.proofs.Common.{append_assoc, append-nil, inl, inr, ap, sym, arith, length-append, eqb-true, ltb-false, ltb-true}
use Rattle.model.specs.Basics.Together.{together}
use Rattle.model.specs.Basics.Cases.{cases, true_or_false}
use Rattle.model.specs.Basics.Choice.{pick}
use Rattle.model.specs.Request.Step.{after_of}
use Rattle.model.proofs.Script.ReportLaws.{report_length}
use Rattle.model.specs.Script.Reports.{Report, output, report, report_text, unread}
use Rattle.model.specs.Script.Runs.{Answered, Runs, cut, stay, turn, whole}
use Rattle.model.specs.Script.RunsLaws.{runs_answered, runs_longer}
use Rattle.model.specs.Script.Windows.{Fed, Ran, again, broken, done, waiting, onward, over, piece, preceded, ran, report_bytes, run}
use Rattle.model.specs.Script.Windows.{stopped}
use Rattle.model.specs.Text.NearLaws.{read_bad, read_near_bad, read_shorter}
use Rattle.model.specs.Text.Unfinished.{unfinished}
use Rattle.model.specs.Text.Wording.{Lines, Wording, bad_line, lines, read_seven, sixteen}
use Rattle.std.proofs.lemmas.Bool.{eqb-false}

-- ---- the tests of a window

no_bytes : (s : List ℕ) → length s ≤ 0 → s ≡ []
no_bytes [] h = refl
no_bytes (b ∷ s) h = absurd (omega arith)

-- nothing is begun only where the room is short or no byte is left
pub waiting_why : (n : ℕ) (s : List ℕ) → waiting n s ≡ true → (n < report_bytes) ⊎ (s ≡ [])
unfolding waiting
waiting_why n s e = go (ltb n report_bytes) refl e
  where
    go : (t : Bool) → ltb n report_bytes ≡ t → (t || eqb (length s) 0) ≡ true → (n < report_bytes) ⊎ (s ≡ [])
    go true h f = inl (ltb-true n report_bytes h)
    go false h f = let z : length s ≡ 0 = eqb-true (length s) 0 f in inr (no_bytes s (omega arith))

-- and otherwise there is room for a report, and a byte
pub waiting_not : (n : ℕ) (s : List ℕ) → waiting n s ≡ false → (report_bytes ≤ n) × (0 < length s)
unfolding waiting
waiting_not n s e = go (ltb n report_bytes) refl e
  where
    go : (t : Bool) → ltb n report_bytes ≡ t → (t || eqb (length s) 0) ≡ false → (report_bytes ≤ n) × (0 < length s)
    go true h f = let z : ◌≡◌ {A = ℕ} 0 1 = cc in absurd (omega arith)
    go false h f = let z : length s ≡ 0 → ⊥ = eqb-false (length s) 0 f in (ltb-false n report_bytes h, omega arith)

waiting_empty : (n : ℕ) → waiting n [] ≡ true
unfolding waiting
waiting_empty n = cases (true_or_false (ltb n report_bytes)) (λ h. rw h) (λ h. rw h)

-- a request is given up for a reason
given_up : (last u : Bool) → (not last && u) ≡ false → (last ≡ true) ⊎ (u ≡ false)
given_up true u e = inl refl
given_up false u e = inr e

waited : (last u : Bool) → (not last && u) ≡ true → (last ≡ false) × (u ≡ true)
waited true u e = let z : ◌≡◌ {A = ℕ} 0 1 = cc in absurd (omega arith)
waited false u e = (refl, e)

-- ---- what is done with a window is a run

-- A window that ended with a request which cannot be read: a run to that request, which is there and is not merely unfinished, and then 18.
pub record Broke (last : Bool) (t s : List ℕ) (n : Ran) : Type 0 where
  pub before : List Report
  pub reports : n.reports ≡ before ++ (unread ∷ [])
  pub runs : Runs t s before n.tables n.rest
  pub some : 0 < length n.rest
  pub bad : read_seven n.rest ≡ bad_line n.line
  pub sure : (last ≡ true) ⊎ (unfinished n.rest ≡ false)

-- What is done with a window is a run to what is left of it, or such an end.
pub record Course (last : Bool) (t s : List ℕ) (n : Ran) : Type 0 where
  pub good : n.line ≡ 0 → Runs t s n.reports n.tables n.rest
  pub broke : n.line ≢ 0 → Broke last t s n

course_stopped : (last : Bool) (t s : List ℕ) → Course last t s (stopped t s)
course_stopped last t s = record { good = λ h. stay; broke = λ h. absurd (h refl) }

course_broken : (last : Bool) (t s : List ℕ) (k : ℕ) → 0 < length s → read_seven s ≡ bad_line k → (last ≡ true) ⊎ (unfinished s ≡ false)
    → Course last t s (broken t s k)
course_broken last t s k l e u = record {
  good = λ h. let b = read_bad s k e in absurd (omega arith);
  broke = λ h. record { before = []; reports = refl; runs = stay; some = l; bad = e; sure = u };
}

course_preceded : (last : Bool) (t s : List ℕ) (m : Wording) (x : List ℕ) (n : Ran) → read_seven s ≡ lines m x
    → Course last (after_of t (sixteen m)) x n → Course last t s (preceded (report t (sixteen m)) n)
course_preceded last t s m x n e c = record {
  good = λ h. turn e (c.good h);
  broke = λ h. let b = c.broke h in record {
    before = report t (sixteen m) ∷ b.before;
    reports = ap (λ l. report t (sixteen m) ∷ l) b.reports;
    runs = turn e b.runs;
    some = b.some;
    bad = b.bad;
    sure = b.sure;
  };
}

-- one request of a window, and then whatever goes on as a run does
course_onward : (on : List ℕ → List ℕ → ℕ → Ran) (last : Bool) (t s : List ℕ) (n : ℕ) → ((t s : List ℕ) (n : ℕ) → Course last t s (on t s n))
    → 0 < length s → (l : Lines) → read_seven s ≡ l → Course last t s (onward on t s last n l)
course_onward on last t s n c h (lines m x) e = course_preceded last t s m x _ e (c (after_of t (sixteen m)) x _)
course_onward on last t s n c h (bad_line k) e = go (not last && unfinished s) refl
  where
    go : (b : Bool) → (not last && unfinished s) ≡ b → Course last t s (pick b (stopped t s) (broken t s k))
    go true f = course_stopped last t s
    go false f = course_broken last t s k h e (given_up last (unfinished s) f)

-- What any number of turns does with a window is such a course,
pub run_course : (k : ℕ) (last : Bool) (t s : List ℕ) (n : ℕ) → Course last t s (run k last t s n)
unfolding run
run_course zero last t s n = course_stopped last t s
run_course (suc k) last t s n = go (λ t s n. run_course k last t s n) (waiting n s) refl
  where
    go : ((t s : List ℕ) (n : ℕ) → Course last t s (run k last t s n)) → (b : Bool) → waiting n s ≡ b
        → Course last t s (pick b (stopped t s) (onward (run k last) t s last n (read_seven s)))
    go c true e = course_stopped last t s
    go c false e = course_onward (run k last) last t s n c (waiting_not n s e).1 (read_seven s) refl

-- and so is what is done with all of it.
pub ran_runs : (t s : List ℕ) (last : Bool) (n : ℕ) → Course last t s (ran t s last n)
unfolding ran
ran_runs t s last n = run_course (length s) last t s n

-- ---- fuel: more turns than bytes change nothing

run_empty : (k : ℕ) (last : Bool) (t : List ℕ) (n : ℕ) → run k last t [] n ≡ stopped t []
unfolding run
run_empty zero last t n = refl
run_empty (suc k) last t n = rw (waiting_empty n)

onward_same : (on on' : List ℕ → List ℕ → ℕ → Ran) (t s : List ℕ) (last : Bool) (n : ℕ) (l : Lines)
    → ((m : Wording) (x : List ℕ) → l ≡ lines m x → (t : List ℕ) (n : ℕ) → on t x n ≡ on' t x n) → onward on t s last n l ≡ onward on' t s last n l
onward_same on on' t s last n (lines m x) f = ap (preceded (report t (sixteen m))) (f m x refl (after_of t (sixteen m)) _)
onward_same on on' t s last n (bad_line k) f = refl

-- any two numbers of turns, each at least as many as the window has bytes, do the same
pub run_fuel : (k j : ℕ) (last : Bool) (t s : List ℕ) (n : ℕ) → length s ≤ k → length s ≤ j → run k last t s n ≡ run j last t s n
unfolding run
run_fuel zero j last t s n h g = rw (no_bytes s h) (sym (run_empty j last t n))
run_fuel (suc k) zero last t s n h g = rw (no_bytes s g) (run_empty (suc k) last t n)
run_fuel (suc k) (suc j) last t s n h g =
    ap (pick (waiting n s) (stopped t s)) (onward_same (run k last) (run j last) t s last n (read_seven s)
    (λ m x e u i. run_fuel k j last u x i (omega (arith, read_shorter s m x e)) (omega (arith, read_shorter s m x e))))

-- a caller's own number of turns, at least as many as the window has bytes, is as good
pub ran_fuel : (k : ℕ) (last : Bool) (t s : List ℕ) (n : ℕ) → length s ≤ k → run k last t s n ≡ ran t s last n
unfolding ran
ran_fuel k last t s n h = run_fuel k (length s) last t s n h (omega arith)

-- ---- room

onward_fits : (on : List ℕ → List ℕ → ℕ → Ran) (last : Bool) (t s : List ℕ) (n : ℕ)
    → ((t s : List ℕ) (n : ℕ) → length (output (on t s n).reports) ≤ n) → report_bytes ≤ n → (l : Lines)
    → length (output (onward on t s last n l).reports) ≤ n
unfolding output
onward_fits on last t s n f h (lines m x) =
    let r = report t (sixteen m) in
    let rs = (on (after_of t (sixteen m)) x (n - length (report_text r))).reports in
    rw (length-append (report_text r) (output rs)) (omega (arith, report_length r, f (after_of t (sixteen m)) x (n - length (report_text r))))
onward_fits on last t s n f h (bad_line k) = go (not last && unfinished s)
  where
    go : (b : Bool) → length (output (pick b (stopped t s) (broken t s k)).reports) ≤ n
    go true = omega arith
    go false = rw (append-nil (report_text unread)) (omega (arith, report_length unread))

-- The reports of a window fit in its room, whatever the number of turns.
pub run_fits : (k : ℕ) (last : Bool) (t s : List ℕ) (n : ℕ) → length (output (run k last t s n).reports) ≤ n
unfolding run output
run_fits zero last t s n = omega arith
run_fits (suc k) last t s n = go (λ t s n. run_fits k last t s n) (waiting n s) refl
  where
    go : ((t s : List ℕ) (n : ℕ) → length (output (run k last t s n).reports) ≤ n) → (b : Bool) → waiting n s ≡ b
        → length (output (pick b (stopped t s) (onward (run k last) t s last n (read_seven s))).reports) ≤ n
    go f true e = omega arith
    go f false e = onward_fits (run k last) last t s n f (waiting_not n s e).0 (read_seven s)

-- So do all of them.
pub ran_fits : (t s : List ℕ) (last : Bool) (n : ℕ) → length (output (ran t s last n).reports) ≤ n
unfolding ran
ran_fits t s last n = run_fits (length s) last t s n

-- What is left of a window without a bad request, where the room is enough for one report more: nothing, or, before the last window, a beginning that
-- may be unfinished. So a window that can hold more bytes than the longest request has is never full again.
abbrev pub Short : Bool → ℕ → Ran → Type 0
Short last n r = r.line ≡ 0 → report_bytes ≤ n - length (output r.reports) → (r.rest ≡ []) ⊎ ((last ≡ false) × (unfinished r.rest ≡ true))

onward_short : (on : List ℕ → List ℕ → ℕ → Ran) (last : Bool) (t s : List ℕ) (n : ℕ) (l : Lines) → read_seven s ≡ l
    → ((m : Wording) (x : List ℕ) → l ≡ lines m x → (t : List ℕ) (n : ℕ) → Short last n (on t x n)) → Short last n (onward on t s last n l)
unfolding output
onward_short on last t s n (lines m x) e f h g =
    let r = report t (sixteen m) in
    let rs = (on (after_of t (sixteen m)) x (n - length (report_text r))).reports in
    f m x refl (after_of t (sixteen m)) (n - length (report_text r)) h (omega (arith, length-append (report_text r) (output rs)))
onward_short on last t s n (bad_line k) e f h g = go (not last && unfinished s) refl h g
  where
    go : (b : Bool) → (not last && unfinished s) ≡ b → Short last n (pick b (stopped t s) (broken t s k))
    go true q h g = inr (waited last (unfinished s) q)
    go false q h g = let b = read_bad s k e in absurd (omega arith)

-- so with at least as many turns as the window has bytes,
pub run_short : (k : ℕ) (last : Bool) (t s : List ℕ) (n : ℕ) → length s ≤ k → Short last n (run k last t s n)
unfolding run output
run_short zero last t s n l h g = inl (no_bytes s l)
run_short (suc k) last t s n l h g =
    go (λ m x e u i. run_short k last u x i (omega (arith, read_shorter s m x e))) (waiting n s) refl h g
  where
    go : ((m : Wording) (x : List ℕ) → read_seven s ≡ lines m x → (u : List ℕ) (i : ℕ) → Short last i (run k last u x i)) → (b : Bool) → waiting n s ≡ b
        → Short last n (pick b (stopped t s) (onward (run k last) t s last n (read_seven s)))
    go f true e h g = cases (waiting_why n s e) (λ q. absurd (omega arith)) (λ q. inl q)
    go f false e h g = onward_short (run k last) last t s n (read_seven s) refl f h g

-- and with exactly as many.
pub ran_rest_short : (t s : List ℕ) (last : Bool) (n : ℕ) → Short last n (ran t s last n)
unfolding ran
ran_rest_short t s last n = run_short (length s) last t s n (omega arith)

-- ---- a script that arrives piece by piece

cut_at : {t s t' : List ℕ} {rs : List Report} (x : List ℕ) (k : ℕ) → 0 < length x → Runs t s rs t' x → read_seven x ≡ bad_line k
    → Answered t s (rs ++ (unread ∷ []))
cut_at [] k h r e = absurd (omega arith)
cut_at (b ∷ x) k h r e = cut r e

-- a window that broke is the end of the script's answers: where nothing follows, and where something does
broke_last : (last : Bool) (t s : List ℕ) (n : Ran) → Broke last t s n → Answered t s n.reports
broke_last last t s n b = rw b.reports (cut_at n.rest n.line b.some b.runs b.bad)

broke_early : (t s : List ℕ) (n : Ran) (x : List ℕ) → Broke false t s n → Answered t (s ++ x) n.reports
broke_early t s n x b = rw b.reports (cut_at (n.rest ++ x) n.line some (runs_longer b.runs x) (read_near_bad n.rest n.line sure b.bad x))
  where
    some : 0 < length (n.rest ++ x)
    some = omega (arith, length-append n.rest x, b.some)

    sure : unfinished n.rest ≡ false
    sure = cases b.sure (λ h. let z : ◌≡◌ {A = ℕ} 0 1 = cc in absurd (omega arith)) (λ h. h)

-- the last window: it broke, or nothing is left
course_last : (t s : List ℕ) (n : Ran) → Course true t s n → (n.line ≢ 0) ⊎ (n.rest ≡ []) → Answered t s n.reports
course_last t s n c w = go (eqb n.line 0) refl
  where
    end : (n.rest ≡ []) → n.line ≡ 0 → Answered t s n.reports
    end e h = whole (rw e at (c.good h))

    go : (b : Bool) → eqb n.line 0 ≡ b → Answered t s n.reports
    go false e = broke_last true t s n (c.broke (eqb-false n.line 0 e))
    go true e = let h : n.line ≡ 0 = eqb-true n.line 0 e in cases w (λ q. absurd (q h)) (λ q. end q h)

-- Rule 12: however a script arrives, what is reported is what is reported of the whole script.
pub fed_answered : {n : ℕ} {t w : List ℕ} {cs : List (List ℕ)} {rs : List Report} → Fed n t w cs rs → Answered t (w ++ together cs) rs
fed_answered {n = n} (piece {t = t} {w = w} {c = c} {cs = cs} e f) =
    rw (← append_assoc w c (together cs))
    (runs_answered (runs_longer ((ran_runs t (w ++ c) false n).good e) (together cs)) (fed_answered f))
fed_answered {n = n} (over {t = t} {w = w} {c = c} {cs = cs} h) =
    rw (← append_assoc w c (together cs))
    (broke_early t (w ++ c) (ran t (w ++ c) false n) (together cs) ((ran_runs t (w ++ c) false n).broke h))
fed_answered {n = n} (again {t = t} {w = w} e h f) = runs_answered (runs_longer ((ran_runs t w true n).good e) []) (fed_answered f)
fed_answered {n = n} (done {t = t} {w = w} h) = rw (append-nil w) (course_last t w (ran t w true n) (ran_runs t w true n) h)
