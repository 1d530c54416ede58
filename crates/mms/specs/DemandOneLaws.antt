-- Demand 1 is met.
use Rattle.std.specs.Prelude.{Bool, false, true, List, [], ◌++◌, ◌≢◌, ◌≡◌, refl, ◌*◌, ◌<◌, ◌≤◌, ℕ, eqb, drop, get_or, length}
use Rattle.std.proofs.Common.{◌∙◌, ap, subst, sym, arith}
use Rattle.mms.specs.AnswerLaws.{list_answers_lem, list_number_lem, list_unchanged_lem, read_answers_lem, read_line_lem, read_number_lem}
use Rattle.mms.specs.AnswerLaws.{read_unchanged_lem, write_answers_lem, write_number_lem, write_unchanged_lem}
use Rattle.mms.specs.CallLaws.{answered_size, check_no, check_number, list_halves, passes_check, read_halves, step_call, step_left, step_no, step_number}
use Rattle.mms.specs.CallLaws.{step_sequence, write_halves}
use Rattle.mms.specs.Calls.{ListCall, MixedCalls, OnlyNotice, Passes, ReadCall, SingleSteps, StepCall, WriteCall}
use Rattle.mms.specs.Calls.{OneAnswer, no_in, requester}
use Rattle.mms.specs.Contract.{Listing, Reading, Writing, checking, exported}
use Rattle.mms.specs.Demands.{DemandOne, OneRun}
use Rattle.mms.specs.MixedLaws.{mixed_through, singly_steps, through_singly}
use Rattle.mms.specs.NoticeWordLaws.{quiet_words}
use Rattle.mms.specs.RunCallLaws.{run_number, run_range, run_unchanged_lem}
use Rattle.mms.specs.TablesCallLaws.{tables_settled}
use Rattle.mms.specs.Unique.{exporting, exported_list_unique, exported_read_unique, exported_run_unique, exported_step_unique}
use Rattle.mms.specs.Unique.{exported_write_unique}
use Rattle.model.specs.Basics.Cases.{cases, lt_or_le}
use Rattle.model.specs.Basics.Choice.{Same, it, other, same}
use Rattle.model.specs.List.Listing.{barred, entries, entry_words}
use Rattle.model.proofs.List.ListingLaws.{lists_refused, lists_short, lists_written}
use Rattle.model.specs.List.Ways.{found}
use Rattle.model.specs.Request.Step.{after_of}
use Rattle.model.specs.Run.Run.{run_answer, run_room, run_tables}
use Rattle.model.specs.Tables.Layout.{tables_of}
use Rattle.model.specs.Tables.Words.{first_noticed}
use Rattle.model.specs.Text.Reading.{read_answer, read_number, words_after}
use Rattle.model.specs.Text.Writing.{bytes_after, write_answer, write_number}
use Rattle.model.specs.Theorem.Definitions.{Quiet}
use Rattle.model.specs.Theorem.Sequence.{Noticed}
use Rattle.model.proofs.Theorem.SequenceLaws.{answer_of_range, sequence_noticed}
use Rattle.model.proofs.Theorem.SequenceStep.{others_noticed}
use Rattle.model.specs.Theorem.Statements.{SameNotice}
use Rattle.model.proofs.Theorem.Steps.{after_of_length, check_range, high_refusal_words, low_refusal_words}
use Rattle.model.specs.Request.Refusals as refusal

-- every user has a list of any words, in any room
list_ends : (t : List ℕ) (u : ℕ) (room : List ℕ) → (a : ℕ) × (r : List ℕ) × ListCall t u room a r
list_ends t u room = go (eqb (barred t u) refusal.accepted) (same (barred t u) refusal.accepted)
  where
    l : List (List ℕ)
    l = found (tables_of t) u

    go : (b : Bool) → Same (barred t u) refusal.accepted b → (a : ℕ) × (r : List ℕ) × ListCall t u room a r
    go true (it e) = cases (lt_or_le (length room) (entry_words * length l))
        (λ h. exporting (Listing t u room) refusal.too_short (length l) room (lists_short t u room e h))
        (λ h. exporting (Listing t u room) refusal.accepted (length l) (entries l ++ drop (length (entries l)) room)
        (lists_written t u room (entries l ++ drop (length (entries l)) room) e h refl))
    go false (other n) = exporting (Listing t u room) (barred t u) refusal.accepted room (lists_refused t u room n)

step_settled_lem : (t q : List ℕ) → OneAnswer (StepCall t q)
step_settled_lem t q = record { ends = (_, after_of t q, step_call t q); once = exported_step_unique t q }

run_settled_lem : (t w room : List ℕ) → OneRun t w room
run_settled_lem t w room = record {
  ends = (
    _,
    run_tables t w room,
    run_room t w room,
    record {
      answer = record { no = run_answer t w room; number = 0 };
      called = record { answer = refl; tables = refl; answers = refl };
      word = refl;
    },
  );
  once = exported_run_unique t w room;
}

list_settled_lem : (t : List ℕ) (u : ℕ) (room : List ℕ) → OneAnswer (ListCall t u room)
list_settled_lem t u room = record { ends = list_ends t u room; once = exported_list_unique t u room }

read_settled_lem : (s w : List ℕ) → OneAnswer (ReadCall s w)
read_settled_lem s w = record {
  ends = exporting (Reading s w) (read_answer s w) (read_number s w) (words_after s w) (record { answer = refl; number = refl; words = refl });
  once = exported_read_unique s w;
}

write_settled_lem : (w room : List ℕ) → OneAnswer (WriteCall w room)
write_settled_lem w room = record {
  ends = exporting (Writing w room) (write_answer w (length room)) (write_number w) (bytes_after (write_answer w (length room)) w room)
      (record { answer = refl; number = refl; bytes = refl });
  once = exported_write_unique w room;
}

module _ {t q : List ℕ} {a : ℕ} {r : List ℕ} (x : StepCall t q a r) where
  step_unchanged_lem : refusal.bad_length ≤ no_in a → no_in a < first_noticed → r ≡ t
  step_unchanged_lem l h = step_left x ∙ low_refusal_words t q (omega (arith, step_no x)) (omega (arith, step_no x))

  step_only_notice : first_noticed ≤ no_in a → OnlyNotice t (requester q) r
  step_only_notice h =
      let e = step_left x in
      let n : length r ≡ length t = ap length e ∙ after_of_length t q in
      let z = answered_size t q (λ y. omega (arith, step_no x)) in
      let c = high_refusal_words t q (omega (arith, step_no x)) in record {
        size = n;
        others = quiet_words t r (requester q) z (n ∙ z)
            (subst (λ (l : List ℕ). Quiet (tables_of t) (requester q) (tables_of l)) (sym e) c);
      }

  step_others : (y : ℕ) → y ≢ requester q → SameNotice (tables_of t) (tables_of r) y
  step_others y n = subst (λ (l : List ℕ). SameNotice (tables_of t) (tables_of l) y) (sym (step_left x)) (others_noticed t q y n)

-- single steps of a mixture leave the notices that a sequence of steps leaves
mixed_noticed : {t u : List ℕ} {qs : List (List ℕ)} {ns : List ℕ} → MixedCalls t qs ns u → Passes t
    → (k : SingleSteps t qs ns u) × ((x i : ℕ) → i ≤ length qs → Noticed k.tables (λ j. get_or qs j []) (λ j. get_or ns j 0) x i)
mixed_noticed {qs = qs} {ns = ns} m p =
    let k = through_singly (mixed_through m) in (
      k,
      λ x i h. sequence_noticed k.tables (λ j. get_or qs j []) (λ j. get_or ns j 0) i (singly_steps k i h)
          (passes_check (k.tables 0) (subst Passes (sym k.starts) p)) x,
    )

pub demand_one : DemandOne
demand_one = record {
  check_settled = λ t. (exported (checking t), refl, λ b e. e);
  step_settled = step_settled_lem;
  run_settled = run_settled_lem;
  list_settled = list_settled_lem;
  read_settled = read_settled_lem;
  write_settled = write_settled_lem;
  check_answers = λ t a x. (omega (arith, check_no t a x, check_range t), check_number t a x);
  step_answers = λ {t} {q} x. (omega (arith, step_no x, answer_of_range t q), step_number x);
  run_answers = λ x. (run_range x, run_number x);
  list_answers = λ x. list_answers_lem (list_halves x);
  number_of_list = λ x. list_number_lem (list_halves x);
  read_answers = λ x. read_answers_lem (read_halves x);
  number_of_read = λ x. read_number_lem (read_halves x);
  line_of_read = λ x. read_line_lem (read_halves x);
  write_answers = λ x. write_answers_lem (write_halves x);
  number_of_write = λ x. write_number_lem (write_halves x);
  step_unchanged = step_unchanged_lem;
  run_unchanged = λ x. run_unchanged_lem x;
  list_unchanged = λ x. list_unchanged_lem (list_halves x);
  read_unchanged = λ x. read_unchanged_lem (read_halves x);
  write_unchanged = λ x. write_unchanged_lem (write_halves x);
  tables_settled = tables_settled;
  step_notice = step_only_notice;
  notice_kept = λ m tables requests answers c p.
      sequence_noticed tables requests (λ i. no_in (answers i)) m (step_sequence m tables requests answers c) (passes_check (tables 0) p);
  notice_mixed = mixed_noticed;
  notice_of_others = step_others;
}
