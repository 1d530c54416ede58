-- Demand 3 is met.
use mathlib.Core.List.{List, Memᴰ, ◌++◌}
use Rattle.std.specs.Prelude.{◌↔◌, ◌≢◌, ◌⊎◌, ◌≡◌, ◌*◌, ◌<◌, ◌≤◌, ℕ, eqb, leb, drop, length}
use Rattle.std.proofs.Common.{inl, inr, ◌∙◌, ap, sym, arith}
use Rattle.mms.specs.CallLaws.{list_halves, step_no}
use Rattle.mms.specs.Calls.{StepCall, no_in, number_in}
use Rattle.mms.specs.Demands.{DemandThree, Disclosed}
use Rattle.model.specs.Basics.Agree.{agrees_eq, agrees_le}
use Rattle.model.specs.Basics.Choice.{pick}
use Rattle.model.specs.Basics.Fails.{fails_agreed, fails_le}
use Rattle.model.specs.Basics.TestLaws.{holds_true, is_true, pick_false, pick_true}
use Rattle.model.specs.List.Admitted.{Admitted}
use Rattle.model.proofs.List.AdmittedLaws.{admitted_barred, barred_admitted}
use Rattle.model.specs.List.CompleteLaws.{complete_once}
use Rattle.model.specs.List.Listing.{Lists, barred, entries, entry_words, opens, showing}
use Rattle.model.proofs.List.ListingLaws.{entries_length}
use Rattle.model.proofs.List.ShowLaws.{barred_answer, opens_agrees}
use Rattle.model.specs.Request.Step.{answer_of}
use Rattle.model.specs.Request.Words.{name_count}
use Rattle.model.specs.Request.Refusals as refusal

module _ {t room r : List ℕ} {u : ℕ} (a : ℕ) (x : Lists t u room (no_in a) (number_in a) r) where
  -- where the list is not barred, the answer says whether the entries fit
  answer_of_lem : barred t u ≡ refusal.accepted
      → no_in a ≡ pick (leb (entry_words * length x.list) (length room)) refusal.accepted refusal.too_short
  answer_of_lem e = x.answer ∙ pick_true (eqb (barred t u) refusal.accepted)
      (pick (leb (entry_words * length x.list) (length room)) refusal.accepted refusal.too_short) (barred t u)
      ((agrees_eq (barred t u) refusal.accepted).from e)

  list_fits : barred t u ≡ refusal.accepted → entry_words * length x.list ≤ length room
      → (no_in a ≡ refusal.accepted) × (r ≡ entries x.list ++ drop (entry_words * length x.list) room)
  list_fits e h =
      let z = answer_of_lem e ∙ pick_true (leb (entry_words * length x.list) (length room)) refusal.accepted refusal.too_short
      ((agrees_le (entry_words * length x.list) (length room)).from h) in (
        z,
        x.words ∙ pick_true (eqb (no_in a) refusal.accepted) (entries x.list ++ drop (length (entries x.list)) room) room
            ((agrees_eq (no_in a) refusal.accepted).from z) ∙ ap (λ (n : ℕ). entries x.list ++ drop n room) (entries_length x.list),
      )

  list_short : barred t u ≡ refusal.accepted → length room < entry_words * length x.list → (no_in a ≡ refusal.too_short) × (r ≡ room)
  list_short e h =
      let z = answer_of_lem e ∙ pick_false (leb (entry_words * length x.list) (length room)) refusal.accepted refusal.too_short
      ((fails_le (entry_words * length x.list) (length room)).from h) in (
        z,
        x.words ∙ pick_false (eqb (no_in a) refusal.accepted) (entries x.list ++ drop (length (entries x.list)) room) room
            ((fails_agreed (agrees_eq (no_in a) refusal.accepted)).from (λ y. omega (arith, z))),
      )

  list_count : barred t u ≡ refusal.accepted → number_in a ≡ length x.list
  list_count e = x.number ∙ pick_true (eqb (barred t u) refusal.accepted) (length x.list) 0 ((agrees_eq (barred t u) refusal.accepted).from e)

  -- a reference is an entry exactly where the step's own answer opens it
  list_exactly : (y : List ℕ) → 1 ≤ length y → length y ≤ name_count → {b : ℕ} {s : List ℕ} → StepCall t (showing u y) b s
      → Memᴰ y x.list ↔ ((no_in b ≡ refusal.accepted) ⊎ (no_in b ≡ refusal.no_room))
  list_exactly y low high {b} c = (
    λ m. back ((opens_agrees t u y).to (is_true (opens t u y) (x.complete.only y m).2)),
    λ z. x.complete.every y low high (holds_true (opens t u y) ((opens_agrees t u y).from (forth z))),
  )
    where
      n : no_in b ≡ answer_of t (showing u y)
      n = step_no c

      back : (answer_of t (showing u y) ≡ refusal.accepted) ⊎ (answer_of t (showing u y) ≡ refusal.no_room)
          → (no_in b ≡ refusal.accepted) ⊎ (no_in b ≡ refusal.no_room)
      back (inl e) = inl (n ∙ e)
      back (inr e) = inr (n ∙ e)

      forth : (no_in b ≡ refusal.accepted) ⊎ (no_in b ≡ refusal.no_room)
          → (answer_of t (showing u y) ≡ refusal.accepted) ⊎ (answer_of t (showing u y) ≡ refusal.no_room)
      forth (inl e) = inl (sym n ∙ e)
      forth (inr e) = inr (sym n ∙ e)

  list_disclosed : Admitted t u → Disclosed t u room a r
  list_disclosed h =
      let e = admitted_barred t u h in record {
        list = x.list;
        lengths = λ y m. let z = x.complete.only y m in (z.0, z.1);
        exactly = list_exactly;
        once = complete_once x.complete;
        ordered = x.complete.sorted;
        count = list_count e;
        fits = list_fits e;
        short = list_short e;
      }

  -- Nobody else is admitted. The list is barred then, and so is every show.
  list_refused : (Admitted t u → ⊥) → (y : List ℕ) → 1 ≤ length y → length y ≤ name_count → {b : ℕ} {s : List ℕ} → StepCall t (showing u y) b s
      → (no_in a ≡ no_in b) × (no_in a ≢ refusal.accepted)
  list_refused f y low high c =
      let k : barred t u ≢ refusal.accepted = λ e. f (barred_admitted t u e) in
      let z = x.answer ∙ pick_false (eqb (barred t u) refusal.accepted)
      (pick (leb (entry_words * length x.list) (length room)) refusal.accepted refusal.too_short) (barred t u)
      ((fails_agreed (agrees_eq (barred t u) refusal.accepted)).from k) in
      (z ∙ sym (step_no c ∙ barred_answer t u y low high k), λ e. k (sym z ∙ e))

pub demand_three : DemandThree
demand_three = record { disclosed = λ {a = a} x. list_disclosed a (list_halves x); refused = λ {a = a} x. list_refused a (list_halves x) }
