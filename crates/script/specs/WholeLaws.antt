-- What the run of a window says of a whole script. It has one result; and where nothing is left and nothing follows, or a request could not be
-- read, the bytes that it put into the room are what the program must write.
use Rattle.std.specs.Prelude.{Bool, ◌&&◌, ◌||◌, false, not, true, List, [], ◌⊎◌, ◌≢◌, ◌≡◌, refl, ◌-◌, ◌<◌, ◌≤◌, ℕ, eqb, leb, ltb, length, take}
use Rattle.std.proofs.Common.{append-nil, inl, inr, ◌∙◌, ap, subst, sym, arith, take_at, eqb-true, leb-true, ltb-true}
use Rattle.std.proofs.lemmas.Bool.{eqb-false}
use Rattle.lines.specs.OntoLaws.{empty}
use Rattle.model.specs.Basics.Cases.{cases, true_or_false}
use Rattle.model.specs.Script.Reports.{output}
use Rattle.model.specs.Script.Runs.{Answered, Outputs}
use Rattle.model.specs.Script.RunsLaws.{runs_shorter}
use Rattle.model.proofs.Script.WindowLaws.{fed_answered, ran_rest_short, ran_runs}
use Rattle.model.specs.Script.Windows.{Fed, done, ran, report_bytes}
use Rattle.model.specs.Text.Unfinished.{ends, line_total, longest, unfinished}
use Rattle.script.specs.Running.{RunsOn}
use Rattle.script.specs.declared.runs.Ran.{Ran}
use Rattle.script.specs.declared.turns.Place.{Place}

-- A run has one result, leaves one list of words and one room.
pub runs_unique : (t s : List ℕ) (last : Bool) (room : List ℕ) (r q : Ran) (u v out to : List ℕ) → RunsOn t s last room r u out → RunsOn t s last room q v to
    → (r ≡ q) × (u ≡ v) × (out ≡ to)
runs_unique t s last room r q u v out to x y =
    let p : r.place ≡ q.place = x.place ∙ sym y.place in
    let b : r.bytes ≡ q.bytes = x.wrote.many ∙ sym y.wrote.many in
    (λ i. record { place = p i; bytes = b i }, x.tables ∙ sym y.tables, x.wrote.now_is ∙ sym y.wrote.now_is)

-- what is waited on is short
unfinished_few : (s : List ℕ) → unfinished s ≡ true → length s < longest
unfolding unfinished
unfinished_few s e = go (ltb (length s) longest) refl e
  where
    go : (b : Bool) → ltb (length s) longest ≡ b → (b && ltb (ends s) line_total) ≡ true → length s < longest
    go true q h = ltb-true (length s) longest q
    go false q h = let y : ◌≡◌ {A = ℕ} 0 1 = cc in absurd (omega arith)

module _ {t s room : List ℕ} {r : Ran} {u out : List ℕ} (x : RunsOn t s true room r u out) where
  -- where nothing is left of the window, nothing is left of the model's
  at_end_lem : (r.place.line ≢ 0) ⊎ (r.place.at ≡ length s) → ((ran t s true (length room)).line ≢ 0) ⊎ ((ran t s true (length room)).rest ≡ [])
  at_end_lem (inl h) = inl (λ e. h (ap (λ (p : Place). p.line) x.place ∙ e))
  at_end_lem (inr h) =
      cases (true_or_false (eqb (ran t s true (length room)).line 0))
      (λ e. inr (empty (ran t s true (length room)).rest (omega (
        arith,
        ap (λ (p : Place). p.at) x.place,
        runs_shorter ((ran_runs t s true (length room)).good (eqb-true (ran t s true (length room)).line 0 e)),
      ))))
      (λ e. inl (eqb-false (ran t s true (length room)).line 0 e))

  -- Rule 12: the reports in the room are the whole output of the script.
  pub run_writes : (r.place.line ≢ 0) ⊎ (r.place.at ≡ length s) → Outputs t s (take r.bytes out)
  run_writes h =
      let f : Fed (length room) t s [] (ran t s true (length room)).reports = done (at_end_lem h) in
      record {
        reports = (ran t s true (length room)).reports;
        answered = subst (λ (l : List ℕ). Answered t l (ran t s true (length room)).reports) (append-nil s) (fed_answered f);
        written = rw (x.wrote.now_is, x.wrote.many) (take_at (output (ran t s true (length room)).reports) _ _ refl);
      }

-- Rule 12.4: where a run had room for another report and is not over, fewer bytes are left than the longest request has.
pub kept_short : {t s : List ℕ} {last : Bool} {room : List ℕ} {r : Ran} {u out : List ℕ} → RunsOn t s last room r u out
    → r.place.line ≡ 0 → report_bytes ≤ length room - r.bytes → length s - r.place.at < longest
kept_short {t} {s} {last} {room} {r} x z h =
    let n = ran t s last (length room) in
    let at : r.place.at ≡ length s - length n.rest = ap (λ (p : Place). p.at) x.place in
    let line : n.line ≡ 0 = sym (ap (λ (p : Place). p.line) x.place) ∙ z in
    let left = runs_shorter ((ran_runs t s last (length room)).good line) in
    cases (ran_rest_short t s last (length room) line (omega (arith, x.wrote.many)))
    (λ e. let l : length n.rest ≡ 0 = ap length e in omega arith)
    (λ e. let l : length n.rest < longest = unfinished_few n.rest e.1 in omega arith)

over_not : (l : ℕ) (b : Bool) → (not (eqb l 0) || b) ≡ false → l ≡ 0
over_not l b e = go (eqb l 0) refl e
  where
    go : (t : Bool) → eqb l 0 ≡ t → (not t || b) ≡ false → l ≡ 0
    go true q h = eqb-true l 0 q
    go false q h = let y : ◌≡◌ {A = ℕ} 0 1 = cc in absurd (omega arith)

-- So it is with what the program asks: the run is not over, and had room for another report in a room of n bytes.
pub wanted_short : {t s : List ℕ} {last : Bool} {room : List ℕ} {r : Ran} {u out : List ℕ} → RunsOn t s last room r u out → (x y b : Bool) (n : ℕ)
    → x ≡ (not (eqb r.place.line 0) || b) → x ≡ false → n ≡ length room → y ≡ leb report_bytes (n - r.bytes) → y ≡ true → length s - r.place.at < longest
wanted_short {r = r} w x y b n e f g h k =
    kept_short w (over_not r.place.line b (sym e ∙ f)) (let l = leb-true report_bytes (n - r.bytes) (sym h ∙ k) in omega arith)
