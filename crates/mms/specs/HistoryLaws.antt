-- Demand 2, one step and many: the effect, and what any calls one after another keep.
use Rattle.std.specs.Prelude.{List, ◌≡◌, refl, ◌<◌, ◌≤◌, ℕ, suc, zero, length}
use mathlib.Core.Logic.Iff as Iff
use Rattle.std.proofs.Common.{◌∙◌, ap, subst, sym, arith}
use Rattle.mms.specs.CallLaws.{answered_size, check_passes, check_sound_lem, passes_check, step_left, step_no, step_sequence}
use Rattle.mms.specs.Calls.{Passes, Sound, StepCall, StepCalls, no_in}
use Rattle.mms.specs.Demands.{Effected, SecureHistory}
use Rattle.model.specs.Request.After.{after}
use Rattle.model.proofs.Request.OperationLaws.{found_names}
use Rattle.model.specs.Request.Step.{after_of, answer_of}
use Rattle.model.specs.Request.Words.{request_of, request_words}
use Rattle.model.specs.State.Check.{check}
use Rattle.model.specs.Tables.Layout.{tables_of, word_count}
use Rattle.model.specs.Tables.Words.{Tables}
use Rattle.model.specs.Theorem.Accountable.{Accountable}
use Rattle.model.proofs.Theorem.AccountableLaws.{steps_accountable}
use Rattle.model.specs.Theorem.Beyond.{OnlyReleased, ReleasedStays, SameDevices, SameUsers}
use Rattle.model.proofs.Theorem.BeyondLaws.{released_joined, released_now, words_devices_stay, words_only_released, words_released_stay}
use Rattle.model.proofs.Theorem.BeyondLaws.{words_users_stay}
use Rattle.model.proofs.Theorem.DefinitionLaws.{downgrade_stricter}
use Rattle.model.specs.Theorem.Definitions.{Obeys, PaperDowngradeSecure}
use Rattle.model.proofs.Theorem.Outcomes.{words_outcome}
use Rattle.model.specs.Theorem.Sequence.{Steps}
use Rattle.model.proofs.Theorem.SequenceSecure.{checked_system, sequence_good, sequence_history, sequence_obeys, sequence_secure}
use Rattle.model.proofs.Theorem.Steps.{after_of_length, after_of_tables, sized_agrees}
use Rattle.model.specs.Request.Refusals as refusal

module _ {t q : List ℕ} {a : ℕ} {r : List ℕ} (x : StepCall t q a r) where
  -- what holds of the model's step holds of what the call leaves
  left_has : (P : List ℕ → Type 0) → P (after_of t q) → P r
  left_has P p = subst P (sym (step_left x)) p

  pub step_released : Passes t → OnlyReleased (tables_of t) (request_of q) (tables_of r)
  step_released p = left_has (λ (l : List ℕ). OnlyReleased (tables_of t) (request_of q) (tables_of l)) (words_only_released t q (passes_check t p))

  pub step_effect_lem : no_in a ≡ refusal.accepted → Effected t q r
  step_effect_lem z =
      let e : answer_of t q ≡ refusal.accepted = sym (step_no x) ∙ z in
      let f = words_outcome t q e in
      let n : length r ≡ length t = ap length (step_left x) ∙ after_of_length t q in
      let w = answered_size t q (λ y. omega arith) in record {
        operation = f.0;
        named = found_names (request_of q) f.0 f.1;
        size = n;
        outcome = (f.2 r (n ∙ w)).1 (step_left x);
        only = λ s h p. (f.2 s (h ∙ w)).0 p ∙ sym (step_left x);
      }

  pub step_transform_lem : length t ≡ word_count → length q ≡ request_words → tables_of r ≡ after (tables_of t) (request_of q)
  step_transform_lem h k = ap tables_of (step_left x) ∙ after_of_tables t q ((sized_agrees t q).from (h, k))

-- ---- many

-- What holds of every step from words that pass, goes on from step to step and holds where nothing happens, holds over all steps.
over_steps : (P : Tables → Tables → Type 0) → ((t : List ℕ) → check t ≡ refusal.accepted → P (tables_of t) (tables_of t))
    → ((d e f : Tables) → P d e → P e f → P d f)
    → ((t q : List ℕ) → check t ≡ refusal.accepted → P (tables_of t) (tables_of (after_of t q)))
    → (tables requests : ℕ → List ℕ) (answers : ℕ → ℕ) (m : ℕ) → Steps m tables requests answers → check (tables 0) ≡ refusal.accepted
    → P (tables_of (tables 0)) (tables_of (tables m))
over_steps P still join step tables requests answers zero s e = still (tables 0) e
over_steps P still join step tables requests answers (suc m) s e =
    let before : Steps m tables requests answers = record { answered = λ i h. s.answered i (omega arith); left = λ i h. s.left i (omega arith) } in
    let now = step (tables m) (requests m) (sequence_good tables requests answers m before e m (omega arith)) in
    join (tables_of (tables 0)) (tables_of (tables m)) (tables_of (tables (suc m))) (over_steps P still join step tables requests answers m before e)
    (subst (λ (l : List ℕ). P (tables_of (tables m)) (tables_of l)) (sym (s.left m (omega arith))) now)

module _ (m : ℕ) (tables requests : ℕ → List ℕ) (answers : ℕ → ℕ) (c : StepCalls m tables requests answers) where
  steps : Steps m tables requests (λ i. no_in (answers i))
  steps = step_sequence m tables requests answers c

  pub calls_sound_lem : Passes (tables 0) → (i : ℕ) → i ≤ m → Passes (tables i) × Sound (tables i)
  calls_sound_lem p i h =
      let e = sequence_good tables requests (λ i. no_in (answers i)) m steps (passes_check (tables 0) p) i h in
      (check_passes (tables i) e, check_sound_lem (tables i) e)

  pub calls_obey_lem : (i : ℕ) → i < m → Obeys (tables_of (tables i)) (request_of (requests i)) (tables_of (tables (suc i)))
  calls_obey_lem = sequence_obeys tables requests (λ i. no_in (answers i)) m steps

  pub calls_paper_lem : (i : ℕ) → i < m → PaperDowngradeSecure (tables_of (tables i)) (request_of (requests i)) (tables_of (tables (suc i)))
  calls_paper_lem i h = downgrade_stricter (tables_of (tables i)) (request_of (requests i)) (tables_of (tables (suc i))) (calls_obey_lem i h).downgrade

  pub calls_accountable_lem : Accountable m (λ i. tables_of (tables i)) (λ i. request_of (requests i)) (λ i. no_in (answers i))
  calls_accountable_lem = steps_accountable m tables requests (λ i. no_in (answers i)) steps

  pub calls_released_lem : Passes (tables 0) → ReleasedStays (tables_of (tables 0)) (tables_of (tables m))
  calls_released_lem p = over_steps ReleasedStays (λ t e. released_now (tables_of t) (check_sound_lem t e).well_formed) released_joined words_released_stay
      tables requests (λ i. no_in (answers i)) m steps (passes_check (tables 0) p)

  pub calls_fixed_lem : Passes (tables 0) → SameUsers (tables_of (tables 0)) (tables_of (tables m)) × SameDevices (tables_of (tables 0)) (tables_of (tables m))
  calls_fixed_lem p = (
    over_steps SameUsers (λ t e u. refl) (λ d e f a b u. b u ∙ a u) words_users_stay tables requests (λ i. no_in (answers i)) m steps
        (passes_check (tables 0) p),
    over_steps SameDevices (λ t e x. Iff.rfl) (λ d e f a b x. Iff.trans (b x) (a x)) words_devices_stay tables requests (λ i. no_in (answers i)) m steps
        (passes_check (tables 0) p),
  )

module _ (tables requests : ℕ → List ℕ) (answers : ℕ → ℕ) (c : (m : ℕ) → StepCalls m tables requests answers) where
  pub calls_history_lem : Passes (tables 0) → ((i : ℕ) → length (requests i) ≡ request_words) → SecureHistory tables requests
  calls_history_lem p h =
      let e = passes_check (tables 0) p in
      let s : (m : ℕ) → Steps m tables requests (λ i. no_in (answers i)) = λ m. step_sequence m tables requests answers (c m) in record {
        history = sequence_history tables requests (λ i. no_in (answers i)) s (check_sound_lem (tables 0) e).size h;
        secure = sequence_secure tables requests (λ i. no_in (answers i)) s e;
        system = checked_system (tables 0) e;
      }
