-- What the check says of tables stays so after a turn and after a run. So the program checks them once, and every turn goes on from there.
use Rattle.std.specs.Prelude.{Bool, ◌&&◌, false, not, true, List, ◌≡◌, refl, suc, zero, ℕ, drop, length}
use Rattle.std.proofs.Common.{◌∙◌, ap, sym}
use Rattle.model.specs.Basics.Choice.{pick}
use Rattle.model.specs.Request.Step.{after_of}
use Rattle.model.specs.Script.Windows as windows
use Rattle.model.specs.Script.Windows.{broken, onward, ran, run, stopped, waiting}
use Rattle.model.specs.State.Check.{check}
use Rattle.model.specs.Text.Unfinished.{unfinished}
use Rattle.model.specs.Text.Wording.{Lines, bad_line, lines, read_seven, sixteen}
use Rattle.model.proofs.Theorem.Steps.{check_stays}
use Rattle.script.specs.Running.{RunsOn}
use Rattle.script.specs.Turn.{Turns, left_by}
use Rattle.script.specs.declared.runs.Ran.{Ran}
use Rattle.script.specs.declared.turns.Place.{Place}
use Rattle.script.specs.declared.turns.Turned.{Turned}

-- ---- a turn: one request, or none

left_stays : (t : List ℕ) (l : Lines) → check (left_by t l) ≡ check t
left_stays t (lines m x) = check_stays t (sixteen m)
left_stays t (bad_line k) = refl

pub turn_stays : {t s : List ℕ} {p : Place} {r : Turned} {u : List ℕ} {c : ℕ} → Turns t s p r u → c ≡ check t → c ≡ check u
turn_stays {t} {s} {p} x e = e ∙ sym (ap check x.left ∙ left_stays t (read_seven (drop p.at s)))

-- ---- a run: any number of requests

onward_stays : (on : List ℕ → List ℕ → ℕ → windows.Ran) → ((t s : List ℕ) (n : ℕ) → check (on t s n).tables ≡ check t) → (t s : List ℕ) (last : Bool) (n : ℕ)
    (l : Lines) → check (onward on t s last n l).tables ≡ check t
onward_stays on f t s last n (lines m x) = f (after_of t (sixteen m)) x _ ∙ check_stays t (sixteen m)
onward_stays on f t s last n (bad_line k) = go (not last && unfinished s)
  where
    go : (b : Bool) → check (pick b (stopped t s) (broken t s k)).tables ≡ check t
    go true = refl
    go false = refl

run_stays : (k : ℕ) (last : Bool) (t s : List ℕ) (n : ℕ) → check (run k last t s n).tables ≡ check t
unfolding run
run_stays zero last t s n = refl
run_stays (suc k) last t s n = go (λ u x i. run_stays k last u x i) (waiting n s)
  where
    go : ((u x : List ℕ) (i : ℕ) → check (run k last u x i).tables ≡ check u) → (b : Bool)
        → check (pick b (stopped t s) (onward (run k last) t s last n (read_seven s))).tables ≡ check t
    go f true = refl
    go f false = onward_stays (run k last) f t s last n (read_seven s)

ran_stays : (t s : List ℕ) (last : Bool) (n : ℕ) → check (ran t s last n).tables ≡ check t
unfolding ran
ran_stays t s last n = run_stays (length s) last t s n

pub runs_stay : {t s : List ℕ} {last : Bool} {room : List ℕ} {r : Ran} {u out : List ℕ} {c : ℕ} → RunsOn t s last room r u out → c ≡ check t → c ≡ check u
runs_stay {t} {s} {last} {room} x e = e ∙ sym (ap check x.tables ∙ ran_stays t s last (length room))
