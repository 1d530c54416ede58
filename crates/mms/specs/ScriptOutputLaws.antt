-- Demand 2, the script: its output is that of calls, which are a secure history and the run of its requests.
use Rattle.std.specs.Prelude.{List, [], ◌++◌, ◌∷◌, ◌≢◌, ◌⊎◌, ◌≡◌, refl, ◌<◌, ◌≤◌, ℕ, suc, zero, get_or, length, take}
use Rattle.std.proofs.Common.{inl, inr, ◌∙◌, ap, subst, sym, arith}
use Rattle.std.proofs.Math.Seq.{length-take-le}
use Rattle.mms.specs.CallLaws.{step_left, step_number}
use Rattle.mms.specs.Calls.{NoRequest, Passes, RunCall, ScriptCalls, SingleSteps, StepCall, alone}
use Rattle.mms.specs.Demands.{BeginsHistory, RanAs, ScriptOutput}
use Rattle.mms.specs.HistoryLaws.{calls_obey_lem, calls_sound_lem}
use Rattle.mms.specs.MixedLaws.{begins_history, singly_accountable, singly_through, through_run}
use Rattle.mms.specs.ScriptLaws.{requests_length, runs_calls}
use Rattle.model.specs.Basics.Together.{together}
use Rattle.model.specs.Request.Words.{request_of}
use Rattle.model.specs.Run.Requests.{AllSixteen}
use Rattle.model.specs.Run.RequestsLaws.{sixteen_take}
use Rattle.model.specs.Script.Reports.{Report, answers_in, output, unread}
use Rattle.model.specs.Script.Runs.{Answered, Outputs, Runs, cut, requests, whole}
use Rattle.model.specs.Tables.Layout.{tables_of, word_count}
use Rattle.model.specs.Text.Wording.{Wording, bad_line, lines, read_seven}
use Rattle.model.specs.Text.WordingLaws.{text_there}
use Rattle.model.proofs.Text.WordsLaws.{sixteen_length}
use Rattle.model.specs.Theorem.Accountable.{Accountable}

-- the requests of wordings have sixteen words
requests_sixteen : (ms : List Wording) → AllSixteen (requests ms)
requests_sixteen [] = tt
requests_sixteen (m ∷ ms) = (sixteen_length m, requests_sixteen ms)

-- as many answers as reports, and each report's own
answers_in_length : (rs : List Report) → length (answers_in rs) ≡ length rs
answers_in_length [] = refl
answers_in_length (r ∷ rs) = ap suc (answers_in_length rs)

answers_in_at : (rs : List Report) (i : ℕ) → i < length rs → get_or (answers_in rs) i 0 ≡ (get_or rs i unread).answer
answers_in_at [] i h = absurd (omega arith)
answers_in_at (r ∷ rs) zero h = refl
answers_in_at (r ∷ rs) (suc i) h = answers_in_at rs i (omega arith)

-- Rule 15.6: a script's calls are single steps with the answers that its reports tell; so they are a secure history, and the run of its requests.
module _ {t s t' s' : List ℕ} {rs : List Report} (k : ScriptCalls t s rs t' s') where
  as_many : length (requests k.wordings) ≡ length rs
  as_many = requests_length k.wordings ∙ sym k.many

  script_singly : SingleSteps t (requests k.wordings) (answers_in rs) t'
  script_singly =
      let n = as_many in record {
        tables = k.tables;
        starts = k.starts;
        calls = record {
          each = λ i h.
              let c = k.calls.each i (omega arith) in
              let e : k.answers i ≡ alone (get_or (answers_in rs) i 0) =
              omega (arith, step_number c, (k.tells i (omega arith)).answer, answers_in_at rs i (omega arith)) in
              subst (λ (a : ℕ). StepCall (k.tables i) (get_or (requests k.wordings) i []) a (k.tables (suc i))) e c;
        };
        many = answers_in_length rs ∙ sym n;
        ends = ap k.tables n ∙ k.ends;
      }

  script_history : Passes t → BeginsHistory (length rs) k.tables (λ i. get_or (requests k.wordings) i [])
  script_history p =
      begins_history p (length rs) k.tables (λ i. get_or (requests k.wordings) i []) k.starts (λ i h. step_left (k.calls.each i h))

  script_accountable : (i : ℕ) → i ≤ length rs
      → Accountable i (λ j. tables_of (k.tables j)) (λ j. request_of (get_or (requests k.wordings) j [])) (λ j. get_or (answers_in rs) j 0)
  unfolding script_singly
  script_accountable i h = let n = as_many in singly_accountable script_singly i (omega arith)

  script_run : {room r v : List ℕ} {a : ℕ} → length t ≡ word_count → (i : ℕ) → i ≤ length rs → i ≤ length room
      → RunCall t (together (take i (requests k.wordings))) room a r v → RanAs room (take i (answers_in rs)) (k.tables i) a r v
  unfolding script_singly
  script_run l i h z x =
      let n = as_many in
      let qs = requests k.wordings in
      let m = length-take-le i qs (omega arith) in
      through_run (singly_through script_singly i (omega arith)) (sixteen_take qs i (requests_sixteen k.wordings)) l (omega arith) x

-- where the seven lines cannot be read no request stands
stuck_none : (y : List ℕ) (k : ℕ) → read_seven y ≡ bad_line k → NoRequest y
stuck_none y k e m x h z =
    let r : read_seven y ≡ lines m x = ap read_seven z ∙ text_there m x h in
    let q : ◌≡◌ {A = ℕ} 0 1 = cc in
    omega arith

module _ {t s o : List ℕ} where
  -- the reports of what was read, and then perhaps 18
  script_of : (rs bs : List Report) → o ≡ output rs → (t' s' : List ℕ) → Runs t s bs t' s'
      → ((s' ≡ []) × (rs ≡ bs)) ⊎ (NoRequest s' × (s' ≢ []) × (rs ≡ bs ++ (unread ∷ []))) → ScriptOutput t s o
  script_of rs bs w t' s' x l =
      let k = runs_calls x in record {
        reports = rs;
        written = w;
        before = bs;
        left = t';
        rest = s';
        calls = k;
        last = l;
        sound = λ p i h.
            (calls_sound_lem (length bs) k.tables (λ i. get_or (requests k.wordings) i []) k.answers k.calls (subst Passes (sym k.starts) p) i h).1;
        history = script_history k;
        run = script_run k;
        accountable = script_accountable k;
        obeys = calls_obey_lem (length bs) k.tables (λ i. get_or (requests k.wordings) i []) k.answers k.calls;
      }

  pub script_calls_lem : Outputs t s o → ScriptOutput t s o
  script_calls_lem x = go x.answered x.written
    where
      go : {rs : List Report} → Answered t s rs → o ≡ output rs → ScriptOutput t s o
      go (whole {t' = t'} {rs = rs} r) w = script_of rs rs w t' [] r (inl (refl, refl))
      go (cut {t' = t'} {x = y} {b = b} {k = k} {rs = rs} r e) w =
          script_of (rs ++ (unread ∷ [])) rs w t' (b ∷ y) r (inr (stuck_none (b ∷ y) k e, (λ z. let q = ap length z in omega arith), refl))
