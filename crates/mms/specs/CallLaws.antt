-- What the words that C gets say: both halves of each call's answer, and each call as what the model computes.
use Rattle.std.specs.Prelude.{List, ◌≢◌, ◌≡◌, refl, ◌*◌, ◌+◌, ℕ, length}
use Rattle.std.proofs.Common.{ap, arith, eqb→eq}
use Rattle.mms.specs.Calls.{CheckCall, ListCall, Passes, ReadCall, Sound, StepCall, StepCalls, WriteCall, no_in, number_in}
use Rattle.mms.specs.Contract.{numbers}
use Rattle.mms.specs.Unique.{exported_list_parts, exported_read_parts, exported_write_parts}
use Rattle.mms.specs.declared.Answer.{Answer}
use Rattle.model.specs.Basics.Agree.{agrees_eq}
use Rattle.model.specs.Basics.Cases.{cases, true_or_false}
use Rattle.model.specs.Basics.TestLaws.{is_false, is_true}
use Rattle.model.specs.List.Listing.{Lists}
use Rattle.model.specs.Request.Step.{after_of, answer_of, sized}
use Rattle.model.specs.State.AgreeSecure.{check_agrees}
use Rattle.model.specs.State.Check.{check}
use Rattle.model.specs.Text.Reading.{Reads}
use Rattle.model.specs.Text.Writing.{Writes}
use Rattle.model.specs.Tables.Layout.{word_count}
use Rattle.model.specs.Theorem.Sequence.{Steps}
use Rattle.model.proofs.Theorem.Steps.{sized_agrees, unsized}
use Rattle.model.specs.Request.Refusals as refusal

-- The check's word is the model's answer, and nothing goes with it.
pub check_no : (t : List ℕ) (a : ℕ) → CheckCall t a → no_in a ≡ check t
check_no t a e = let w : a ≡ check t * numbers + 0 = e in omega arith

pub check_number : (t : List ℕ) (a : ℕ) → CheckCall t a → number_in a ≡ 0
check_number t a e = let w : a ≡ check t * numbers + 0 = e in omega arith

-- It passes words exactly where the model does, and so where they are sound.
pub passes_check : (t : List ℕ) → Passes t → check t ≡ refusal.accepted
passes_check t e = let w : 0 ≡ check t * numbers + 0 = e in omega arith

pub check_passes : (t : List ℕ) → check t ≡ refusal.accepted → Passes t
check_passes t e = let w : 0 ≡ check t * numbers + 0 = omega arith in w

pub check_sound_lem : (t : List ℕ) → check t ≡ refusal.accepted → Sound t
check_sound_lem t e =
    let z = (check_agrees t).to ((agrees_eq (check t) refusal.accepted).from e) in
    record { size = z.0; well_formed = z.1.0; secure = z.1.1 }

pub sound_check : (t : List ℕ) → Sound t → check t ≡ refusal.accepted
sound_check t s = eqb→eq (check t) refusal.accepted ((check_agrees t).from (s.size, (s.well_formed, s.secure)))

-- A step that does not answer 1 had 2,304 words of tables.
pub answered_size : (t q : List ℕ) → answer_of t q ≢ refusal.bad_length → length t ≡ word_count
answered_size t q n = cases (true_or_false (sized t q)) (λ e. ((sized_agrees t q).to (is_true (sized t q) e)).0)
    (λ e. absurd (n (unsized t q (is_false (sized t q) e)).0))

module _ {t q : List ℕ} {a : ℕ} {r : List ℕ} (x : StepCall t q a r) where
  -- The step's word is the model's answer, nothing goes with it, and what it leaves is the model's.
  pub step_no : no_in a ≡ answer_of t q
  step_no =
      let n : x.answer.no ≡ answer_of t q = ap (λ (c : Answer). c.no) x.called.answer in
      let m : x.answer.number ≡ 0 = ap (λ (c : Answer). c.number) x.called.answer in
      let w : a ≡ x.answer.no * numbers + x.answer.number = x.word in
      omega arith

  pub step_number : number_in a ≡ 0
  step_number =
      let m : x.answer.number ≡ 0 = ap (λ (c : Answer). c.number) x.called.answer in
      let w : a ≡ x.answer.no * numbers + x.answer.number = x.word in
      omega arith

  pub step_left : r ≡ after_of t q
  step_left = x.called.words

-- A call of the step that meets its promise, of any words.
pub step_call : (t q : List ℕ) → StepCall t q (answer_of t q * numbers + 0) (after_of t q)
step_call t q = record { answer = record { no = answer_of t q; number = 0 }; called = record { answer = refl; words = refl }; word = refl }

-- Calls one after another are the model's steps.
pub step_sequence : (m : ℕ) (tables requests : ℕ → List ℕ) (answers : ℕ → ℕ) → StepCalls m tables requests answers
    → Steps m tables requests (λ i. no_in (answers i))
step_sequence m tables requests answers c = record { answered = λ i h. step_no (c.each i h); left = λ i h. step_left (c.each i h) }

-- The other three, of the halves of their words.
pub list_halves : {t room r : List ℕ} {u a : ℕ} → ListCall t u room a r → Lists t u room (no_in a) (number_in a) r
list_halves {t} {room} {r} {u} {a} x =
    let p = exported_list_parts t u room a r x in
    rw (p.0, p.1) x.called

pub read_halves : {s w r : List ℕ} {a : ℕ} → ReadCall s w a r → Reads s w (no_in a) (number_in a) r
read_halves {s} {w} {r} {a} x =
    let p = exported_read_parts s w a r x in
    rw (p.0, p.1) x.called

pub write_halves : {w room r : List ℕ} {a : ℕ} → WriteCall w room a r → Writes w room (no_in a) (number_in a) r
write_halves {w} {room} {r} {a} x =
    let p = exported_write_parts w room a r x in
    rw (p.0, p.1) x.called
