-- The run of a window, one turn at a time.
use Rattle.std.specs.Prelude.{Bool, ◌&&◌, ◌||◌, false, not, true, List, [], ◌++◌, ◌∷◌, ◌≡◌, refl, ◌-◌, ◌<◌, ◌≤◌, suc, ℕ, ltb, length}
use Rattle.std.proofs.Common.{append_assoc, append-nil, ◌∙◌, arith, le-ltb, lt-ltb, ne_eqb}
use Rattle.std.proofs.Math.Path.{ap, sym}
use Rattle.model.specs.Basics.Choice.{pick}
use Rattle.model.specs.Request.Step.{after_of}
use Rattle.model.specs.Script.Reports.{Report, output, report, report_text}
use Rattle.model.proofs.Script.WindowLaws.{ran_fits, ran_fuel}
use Rattle.model.specs.Script.Windows.{broken, waiting, onward, preceded, ran, report_bytes, run, stopped}
use Rattle.model.specs.Text.NearLaws.{read_shorter}
use Rattle.model.specs.Text.Unfinished.{unfinished}
use Rattle.model.specs.Text.Wording.{Lines, Wording, bad_line, lines, read_seven, sixteen}
use Rattle.script.specs.Running.{RunsOn}
use Rattle.script.specs.declared.runs.Ran.{Ran}
use Rattle.script.specs.declared.turns.Place.{Place}

module _ (t s : List ℕ) (last : Bool) (n : ℕ) where
  onward_ran : (r : Lines) → read_seven s ≡ r → onward (run (length s) last) t s last n r ≡ onward (λ u x i. ran u x last i) t s last n r
  onward_ran (lines m x) e =
      ap (preceded (report t (sixteen m)))
      (ran_fuel (length s) last (after_of t (sixteen m)) x (n - length (report_text (report t (sixteen m)))) (omega (arith, read_shorter s m x e)))
  onward_ran (bad_line k) e = refl

  -- a run is its first turn, and the run of what is left
  pub ran_once : ran t s last n ≡ pick (waiting n s) (stopped t s) (onward (λ u x i. ran u x last i) t s last n (read_seven s))
  unfolding run
  ran_once = sym (ran_fuel (suc (length s)) last t s n (omega arith)) ∙ ap (pick (waiting n s) (stopped t s)) (onward_ran (read_seven s) refl)

  -- nothing more is begun,
  pub ran_waiting : waiting n s ≡ true → ran t s last n ≡ stopped t s
  ran_waiting e = ran_once ∙ rw e refl

  -- or a request is settled, and the others after it,
  pub ran_turn : (m : Wording) (x : List ℕ) → waiting n s ≡ false → read_seven s ≡ lines m x
      → ran t s last n ≡ preceded (report t (sixteen m)) (ran (after_of t (sixteen m)) x last (n - length (report_text (report t (sixteen m)))))
  ran_turn m x e r = ran_once ∙ rw (e, r) refl

  -- or the request cannot be read.
  pub ran_bad : (k : ℕ) → waiting n s ≡ false → read_seven s ≡ bad_line k → ran t s last n ≡ pick (not last && unfinished s) (stopped t s) (broken t s k)
  ran_bad k e r = ran_once ∙ rw (e, r) refl

-- when something is begun, and when not
pub waiting_go : (n : ℕ) (s : List ℕ) → report_bytes ≤ n → 0 < length s → waiting n s ≡ false
unfolding waiting
waiting_go n s h l = let z : length s ≡ 0 → ⊥ = λ e. omega arith in rw (le-ltb n report_bytes h, ne_eqb (length s) 0 z) refl

pub waiting_full : (n : ℕ) (s : List ℕ) → n < report_bytes → waiting n s ≡ true
unfolding waiting
waiting_full n s h = rw (lt-ltb n report_bytes h) refl

pub waiting_end : (n : ℕ) (s : List ℕ) → length s ≡ 0 → waiting n s ≡ true
unfolding waiting
waiting_end n s h = rw h (go (ltb n report_bytes))
  where
    go : (b : Bool) → (b || true) ≡ true
    go true = refl
    go false = refl

-- one report more
pub output_more : (rs : List Report) (r : Report) → output (rs ++ (r ∷ [])) ≡ output rs ++ report_text r
unfolding output
output_more [] r = append-nil (report_text r)
output_more (x ∷ rs) r = ap (λ (l : List ℕ). report_text x ++ l) (output_more rs r) ∙ sym (append_assoc (report_text x) (output rs) (report_text r))

-- a run's reports are within their room, and its place within the window
pub runs_within : {t s : List ℕ} {last : Bool} {room : List ℕ} {r : Ran} {u out : List ℕ} → RunsOn t s last room r u out
    → (r.bytes ≤ length room) × (r.place.at ≤ length s)
runs_within {t} {s} {last} {room} x =
    let e = ap (λ (p : Place). p.at) x.place in
    (omega (arith, x.wrote.many, ran_fits t s last (length room)), omega arith)
