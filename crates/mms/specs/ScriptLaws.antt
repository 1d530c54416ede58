-- Rule 12: what the program writes of a script are reports of calls of the step, each given what the last one left.
use Rattle.std.specs.Prelude.{Bool, ◌&&◌, false, true, List, [], ◌∷◌, ◌⊎◌, ◌≡◌, ◌*◌, ◌+◌, ◌<◌, ◌≤◌, suc, ℕ, leb, get_or, length, take}
use Rattle.std.proofs.Common.{inl, inr, ◌∙◌, sym, arith}
use Rattle.std.proofs.Math.Path.{ap, refl, subst}
use Rattle.mms.specs.CallLaws.{step_call}
use Rattle.mms.specs.Calls.{ScriptCalls, StepCall, Tells, no_in, requester}
use Rattle.mms.specs.Contract.{numbers}
use Rattle.model.specs.Basics.Agree.{Agrees, agrees_and, agrees_le}
use Rattle.model.specs.Basics.Choice.{pick}
use Rattle.model.specs.Request.Step.{after_of, answer_of}
use Rattle.model.specs.Script.Reports.{Report, bare, report, untold}
use Rattle.model.specs.Script.Runs.{Runs, requests}
use Rattle.model.specs.Script.RunsLaws.{runs_report}
use Rattle.model.specs.Tables.Layout.{tables_of}
use Rattle.model.specs.Tables.Words.{first_noticed, held, missed}
use Rattle.model.specs.Text.Wording.{Wording}
use Rattle.model.proofs.Theorem.SequenceUnique.{listed_steps}
use Rattle.model.specs.Theorem.Statements.{after_words}
use Rattle.model.specs.Request.Refusals as refusal

-- the word that C gets of a step
abbrev worded : ℕ → ℕ
worded n = n * numbers + 0

-- a report of the model tells of the call
report_tells : (t q : List ℕ) → Tells (report t q) q (worded (answer_of t q)) (after_of t q)
unfolding report untold
report_tells t q = go (leb refusal.bad_length n && leb n refusal.unknown_requester)
    (agrees_and (agrees_le refusal.bad_length n) (agrees_le n refusal.unknown_requester))
  where
    n : ℕ
    n = answer_of t q

    full : Report
    full = record {
      answer = answer_of t q;
      held = (tables_of (after_of t q)).user (requester q) held;
      missed = (tables_of (after_of t q)).user (requester q) missed;
    }

    low_not : (refusal.bad_length ≤ n) × (n ≤ refusal.unknown_requester) → (no_in (worded n) ≡ refusal.accepted) ⊎ (first_noticed ≤ no_in (worded n)) → ⊥
    low_not h (inl e) = omega (arith, h.0)
    low_not h (inr l) = omega (arith, h.1)

    go : (b : Bool) → Agrees b ((refusal.bad_length ≤ n) × (n ≤ refusal.unknown_requester)) → Tells (pick b (bare n) full) q (worded n) (after_of t q)
    go true a = record { answer = omega arith; told = λ h. absurd (low_not (a.to tt) h); untold = λ l h. (refl, refl) }
    go false a = record {
      answer = omega arith;
      told = λ h. (refl, refl);
      untold = λ l h. absurd (a.from (omega arith, omega arith));
    }

-- as many requests as wordings
pub requests_length : (ms : List Wording) → length (requests ms) ≡ length ms
requests_length [] = refl
requests_length (m ∷ ms) = ap suc (requests_length ms)

-- all of a list is the whole list
take_all : (l : List (List ℕ)) → take (length l) l ≡ l
take_all [] = refl
take_all (q ∷ l) = ap (λ (k : List (List ℕ)). q ∷ k) (take_all l)

module _ (t : List ℕ) (qs : List (List ℕ)) where
  -- the words after the first i requests
  stands : ℕ → List ℕ
  stands i = after_words t (take i qs)

  stands_first : stands 0 ≡ t
  unfolding after_words stands
  stands_first = refl

  -- and the call that goes on from there
  stands_call : (i : ℕ) → i < length qs → StepCall (stands i) (get_or qs i []) (worded (answer_of (stands i) (get_or qs i []))) (stands (suc i))
  unfolding stands
  stands_call i h = subst (StepCall (stands i) (get_or qs i []) (worded (answer_of (stands i) (get_or qs i [])))) (sym ((listed_steps t qs).left i h))
      (step_call (stands i) (get_or qs i []))

  stands_last : stands (length qs) ≡ after_words t qs
  unfolding stands
  stands_last = ap (after_words t) (take_all qs)

  -- a report on what stands there tells of that call
  stands_tells : (i : ℕ) → i < length qs
      → Tells (report (stands i) (get_or qs i [])) (get_or qs i []) (worded (answer_of (stands i) (get_or qs i []))) (stands (suc i))
  unfolding stands
  stands_tells i h =
      subst (Tells (report (stands i) (get_or qs i [])) (get_or qs i []) (worded (answer_of (stands i) (get_or qs i [])))) (sym ((listed_steps t qs).left i h))
      (report_tells (stands i) (get_or qs i []))

-- Rule 12.2: a run of a script is calls.
pub runs_calls : {t s t' s' : List ℕ} {rs : List Report} → Runs t s rs t' s' → ScriptCalls t s rs t' s'
unfolding stands
runs_calls {t} {s} {t'} {s'} {rs} x =
    let w = runs_report x in
    let qs = requests w.wordings in
    let l : length qs ≡ length rs = requests_length w.wordings ∙ sym w.many in
    record {
      wordings = w.wordings;
      written = w.written;
      text = w.text;
      many = w.many;
      tables = stands t qs;
      answers = λ i. worded (answer_of (stands t qs i) (get_or qs i []));
      starts = stands_first t qs;
      calls = record { each = λ i h. stands_call t qs i (omega arith) };
      ends = ap (stands t qs) (sym l) ∙ stands_last t qs ∙ sym w.after;
      tells = λ i h. subst (λ (p : Report). Tells p (get_or qs i []) (worded (answer_of (stands t qs i) (get_or qs i []))) (stands t qs (suc i)))
          (sym (w.each i h)) (stands_tells t qs i (omega arith));
    }
