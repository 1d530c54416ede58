-- What a call of the run is: the model's run, by both halves of its word; and what follows of its answers and of single steps.
use Rattle.std.specs.Prelude.{Bool, false, true, List, [], ◌++◌, ◌↔◌, ◌≢◌, ◌⊎◌, ◌≡◌, refl, ◌*◌, ◌+◌, ◌<◌, ◌≤◌, ℕ, drop, get_or, length, take}
use Rattle.std.proofs.Common.{inl, inr, ◌∙◌, ap, subst, sym, arith, take_at}
use Rattle.mms.specs.CallLaws.{check_no}
use Rattle.mms.specs.Calls.{CheckCall, RunCall, no_in, number_in}
use Rattle.mms.specs.Contract.{numbers}
use Rattle.mms.specs.Unique.{running_run}
use Rattle.mms.specs.declared.Answer.{Answer}
use Rattle.model.specs.Basics.Cases.{cases, lt_or_le}
use Rattle.model.specs.Basics.Choice.{pick}
use Rattle.model.specs.Run.Requests.{Requests, request_count}
use Rattle.model.specs.Run.RequestsLaws.{requests_are}
use Rattle.model.specs.Run.Run.{Answers, Run, Sizes}
use Rattle.model.proofs.Run.RunLaws.{run_refused_lem, run_sized, run_unchecked}
use Rattle.model.specs.Run.Through.{Through, end}
use Rattle.model.proofs.Run.ThroughLaws.{through_length, through_unique}
use Rattle.model.specs.State.AgreeSecure.{check_tables}
use Rattle.model.specs.State.Check.{check, judge, secure_test, well_formed_test}
use Rattle.model.specs.Tables.Layout.{tables_of, word_count}
use Rattle.model.proofs.Theorem.Steps.{check_range}
use Rattle.model.specs.Request.Refusals as refusal

-- of 2,304 words the check does not answer 1
check_one : (t : List ℕ) → length t ≡ word_count → check t ≢ refusal.bad_length
unfolding judge
check_one t h e = go (well_formed_test (tables_of t)) (secure_test (tables_of t)) (sym (check_tables t h) ∙ e)
  where
    go : (w s : Bool) → pick w (pick s refusal.accepted refusal.not_secure) refusal.not_well_formed ≡ refusal.bad_length → ⊥
    go true true z = omega arith
    go true false z = omega arith
    go false s z = omega arith

module _ {t w room r s : List ℕ} {a : ℕ} (x : RunCall t w room a r s) where
  -- nothing goes with the run's answer,
  pub run_number : number_in a ≡ 0
  run_number =
      let m : x.answer.number ≡ 0 = ap (λ (c : Answer). c.number) x.called.answer in
      let e : a ≡ x.answer.no * numbers + x.answer.number = x.word in
      omega arith

  run_no : no_in a ≡ x.answer.no
  run_no =
      let m : x.answer.number ≡ 0 = ap (λ (c : Answer). c.number) x.called.answer in
      let e : a ≡ x.answer.no * numbers + x.answer.number = x.word in
      omega arith

  -- and the call is the model's run.
  pub run_called : Run t w room (no_in a) r s
  run_called = subst (λ (n : ℕ). Run t w room n r s) (sym run_no) (running_run t w room x.answer r s x.called)

  -- Rule 15.2: it is refused with 1 exactly where a size does not fit, and then nothing has changed; else it is accepted.
  pub run_accepts : (no_in a ≡ refusal.accepted) ↔ Sizes t w room
  run_accepts = (run_sized run_called, run_called.accepted)

  pub run_refuses : (no_in a ≡ refusal.bad_length) ↔ (Sizes t w room → ⊥)
  run_refuses = (λ e z. omega (arith, e, run_called.accepted z), λ n. (run_called.refused n).0)

  pub run_range : no_in a ≤ refusal.bad_length
  run_range = cases (lt_or_le refusal.accepted (no_in a)) (λ h. omega (arith, (run_refused_lem run_called (λ e. omega arith)).0)) (λ h. omega arith)

  pub run_unchanged_lem : no_in a ≢ refusal.accepted → (r ≡ t) × (s ≡ room)
  run_unchanged_lem n = let z = run_refused_lem run_called n in (z.1, z.2)

  module _ (e : no_in a ≡ refusal.accepted) where
    -- the answers that it has put down
    run_answers_lem : Answers t w room r s
    run_answers_lem = run_called.answered (run_sized run_called e)

    module _ {qs : List (List ℕ)} (p : Requests w qs) where
      the_requests : run_answers_lem.requests ≡ qs
      the_requests = requests_are run_answers_lem.parts ∙ sym (requests_are p)

      as_many : length run_answers_lem.answers ≡ length qs
      as_many = through_length run_answers_lem.through ∙ ap length the_requests

      in_front : take (length qs) s ≡ run_answers_lem.answers
      in_front =
          ap (take (length qs)) run_answers_lem.places ∙ take_at run_answers_lem.answers (drop (length run_answers_lem.answers) room) (length qs) as_many

      -- Rule 15.3: its requests one after another, with the answers that stand at the front of the room
      pub run_through : Through t qs (take (length qs) s) r
      run_through = subst (λ (l : List ℕ). Through t qs l r) (sym in_front)
          (subst (λ (l : List (List ℕ)). Through t l run_answers_lem.answers r) the_requests run_answers_lem.through)

      -- and behind them the room is as it was
      pub run_spare : s ≡ take (length qs) s ++ drop (length (take (length qs) s)) room
      run_spare = run_answers_lem.places ∙ ap (λ (l : List ℕ). l ++ drop (length l) room) (sym in_front)

    -- Rule 15.4: tables that the check does not pass stay, and every request is answered with the check's number.
    pub run_unsound_lem : (c : ℕ) → CheckCall t c → no_in c ≢ refusal.accepted
        → (r ≡ t) × ((i : ℕ) → i < request_count w → get_or s i 0 ≡ no_in c) × ((no_in c ≡ refusal.not_well_formed) ⊎ (no_in c ≡ refusal.not_secure))
    run_unsound_lem c y n =
        let z = run_unchecked run_called e (λ h. n (check_no t c y ∙ h)) in
        let g = check_range t in
        let one = check_one t (run_sized run_called e).tables in
        let k = check_no t c y in (
          z.0,
          λ i h. z.1 i h ∙ sym k,
          cases (lt_or_le (no_in c) refusal.not_secure) (λ h. inl (omega arith)) (λ h. inr (omega arith)),
        )

-- Rule 15.3: where there is no request nothing is written, whatever the words of the tables are.
pub run_nothing_lem : {t room r s : List ℕ} {a : ℕ} → RunCall t [] room a r s → length t ≡ word_count → (no_in a ≡ refusal.accepted) × (r ≡ t) × (s ≡ room)
run_nothing_lem {t} {room} {r} {s} {a} x h =
    let z : Sizes t [] room = record { tables = h; multiple = refl; places = omega arith } in
    let e = (run_called x).accepted z in
    let p : Requests [] [] = record { words = refl; sixteen = tt } in
    let u = through_unique (run_through x e p) end in
    (e, u.1, run_spare x e p)
