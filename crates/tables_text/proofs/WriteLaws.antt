-- Rule 16.4: what the writer's answers say of the words and of the text.
use Rattle.std.specs.Prelude.{false, true, List, ◌++◌, ◌↔◌, ◌≡◌, ◌<◌, ◌≤◌, ℕ, eqb, leb, drop, length, take}
use Rattle.std.proofs.Common.{◌∙◌, ap, subst, sym, arith, take_at}
use Rattle.model.specs.Basics.Cases.{cases, true_or_false}
use Rattle.model.specs.State.Check.{well_formed_test}
use Rattle.model.specs.State.WellFormed.{WellFormed}
use Rattle.model.specs.Tables.Layout.{tables_of, word_count}
use Rattle.model.specs.Tables.LayoutLaws.{bounded}
use Rattle.model.specs.Text.Given.{Small}
use Rattle.tables_text.specs.Calls.{WritesTables, room_after, text_of_tables}
use Rattle.tables_text.specs.Calls.{write_answer, write_number}
use Rattle.tables_text.specs.Given.{TextOf}
use Rattle.tables_text.proofs.GivenLaws.{formed, test_formed, test_unformed}
use borrow.Author.Tests.{eq-eqb, eqb-true, le-leb, leb-true, lt-leb, ne_eqb}
use Rattle.model.specs.Request.Refusals as refusal

-- Tables that are not well-formed are refused with 2; any others of 2,304 words are written where their text has room, are refused with 17 where it has not,
-- and count its bytes either way.
module _ (t : List ℕ) (h : length t ≡ word_count) where
  write_unformed : (n : ℕ) → well_formed_test (tables_of t) ≡ false → write_answer t n ≡ refusal.not_well_formed
  unfolding write_answer
  write_unformed n w = rw (eq-eqb (length t) word_count h, w)

  module _ (w : well_formed_test (tables_of t) ≡ true) where
    write_fits : (n : ℕ) → length (text_of_tables t) ≤ n → write_answer t n ≡ refusal.accepted
    unfolding write_answer
    write_fits n l = rw (eq-eqb (length t) word_count h, w, le-leb (length (text_of_tables t)) n l)

    write_short : (n : ℕ) → n < length (text_of_tables t) → write_answer t n ≡ refusal.too_short
    unfolding write_answer
    write_short n l = rw (eq-eqb (length t) word_count h, w, lt-leb (length (text_of_tables t)) n l)

    write_counts : write_number t ≡ length (text_of_tables t)
    unfolding write_number
    write_counts = rw (eq-eqb (length t) word_count h, w)

-- what an answer of the writer says
record Put (t : List ℕ) (n : ℕ) : Type 0 where
  size : length t ≡ word_count
  test : well_formed_test (tables_of t) ≡ true
  room : length (text_of_tables t) ≤ n

write_done : (t : List ℕ) (n : ℕ) → refusal.accepted ≡ write_answer t n → Put t n
unfolding write_answer
write_done t n e =
    cases (true_or_false (eqb (length t) word_count))
    (λ a. cases (true_or_false (well_formed_test (tables_of t)))
    (λ b. cases (true_or_false (leb (length (text_of_tables t)) n))
    (λ c. record { size = eqb-true (length t) word_count a; test = b; room = leb-true (length (text_of_tables t)) n c })
    (λ c. let z : refusal.accepted ≡ refusal.too_short = rw (a, b, c) at e in absurd (omega arith)))
    (λ b. let z : refusal.accepted ≡ refusal.not_well_formed = rw (a, b) at e in absurd (omega arith)))
    (λ a. let z : refusal.accepted ≡ refusal.bad_length = rw a at e in absurd (omega arith))

write_two : (t : List ℕ) (n : ℕ) → refusal.not_well_formed ≡ write_answer t n → (length t ≡ word_count) × (well_formed_test (tables_of t) ≡ false)
unfolding write_answer
write_two t n e =
    cases (true_or_false (eqb (length t) word_count))
    (λ a. cases (true_or_false (well_formed_test (tables_of t)))
    (λ b. cases (true_or_false (leb (length (text_of_tables t)) n))
    (λ c. let z : refusal.not_well_formed ≡ refusal.accepted = rw (a, b, c) at e in absurd (omega arith))
    (λ c. let z : refusal.not_well_formed ≡ refusal.too_short = rw (a, b, c) at e in absurd (omega arith)))
    (λ b. (eqb-true (length t) word_count a, b)))
    (λ a. let z : refusal.not_well_formed ≡ refusal.bad_length = rw a at e in absurd (omega arith))

-- Words are written as their text,
pub text_writes : {s t room r : List ℕ} {a k : ℕ} → TextOf s t → WritesTables t room a k r → length s ≤ length room
    → (a ≡ refusal.accepted) × (k ≡ length s) × (r ≡ s ++ drop (length s) room)
text_writes {s} {t} {room} {r} {a} {k} g x l =
    let w : well_formed_test (tables_of t) ≡ true = test_formed (tables_of t) (bounded t) g.well_formed in
    let e : s ≡ text_of_tables t = g.is in
    let f : length (text_of_tables t) ≤ length room = subst (λ (b : List ℕ). length b ≤ length room) e l in
    let z : a ≡ refusal.accepted = x.answer ∙ write_fits t g.size w (length room) f in (
      z,
      x.number ∙ write_counts t g.size w ∙ ap length (sym e),
      x.bytes ∙ ap (λ (b : ℕ). room_after b t room) z ∙ ap (λ (b : List ℕ). b ++ drop (length b) room) (sym e),
    )

-- or not at all where it has no room.
pub text_short : {s t room r : List ℕ} {a k : ℕ} → TextOf s t → WritesTables t room a k r → length room < length s
    → (a ≡ refusal.too_short) × (k ≡ length s) × (r ≡ room)
text_short {s} {t} {room} {r} {a} {k} g x l =
    let w : well_formed_test (tables_of t) ≡ true = test_formed (tables_of t) (bounded t) g.well_formed in
    let e : s ≡ text_of_tables t = g.is in
    let f : length room < length (text_of_tables t) = subst (λ (b : List ℕ). length room < length b) e l in
    let z : a ≡ refusal.too_short = x.answer ∙ write_short t g.size w (length room) f in (
      z,
      x.number ∙ write_counts t g.size w ∙ ap length (sym e),
      x.bytes ∙ ap (λ (b : ℕ). room_after b t room) z,
    )

-- What was written, as many bytes as the number says, is the text of the words.
pub writes_text : {t room r : List ℕ} {k : ℕ} → Small t → WritesTables t room refusal.accepted k r → TextOf (take k r) t
writes_text {t} {room} {r} {k} s x =
    let d : Put t (length room) = write_done t (length room) x.answer in
    let n : length (text_of_tables t) ≡ k = sym (x.number ∙ write_counts t d.size d.test) in
    let e : take k r ≡ text_of_tables t = ap (take k) x.bytes ∙ take_at (text_of_tables t) (drop (length (text_of_tables t)) room) k n in
    record { size = d.size; small = s; well_formed = formed (tables_of t) (bounded t) d.test; is = e }

-- Rule 16.4: the writer's answer is 2 exactly where the words are 2,304 and their tables are not well-formed,
pub write_unformed_exactly : {t room r : List ℕ} {a k : ℕ} → WritesTables t room a k r
    → (a ≡ refusal.not_well_formed) ↔ ((length t ≡ word_count) × ¬ WellFormed (tables_of t))
write_unformed_exactly {t} {room} {r} {a} x = (
  λ e. let p : (length t ≡ word_count) × (well_formed_test (tables_of t) ≡ false) = write_two t (length room) (sym e ∙ x.answer) in
      (p.0, λ w. clash (sym (test_formed (tables_of t) (bounded t) w) ∙ p.1)),
  λ p. x.answer ∙ write_unformed t p.0 (length room) (test_unformed (tables_of t) (bounded t) p.1),
)
  where
    clash : true ≡ false → ⊥
    clash e = let z : ◌≡◌ {A = ℕ} 0 1 = cc in omega arith

-- and a refusal writes nothing.
pub write_refused : {t room r : List ℕ} {a k : ℕ} → WritesTables t room a k r → (a ≡ refusal.accepted → ⊥) → r ≡ room
write_refused {t} {room} {r} {a} x n = x.bytes ∙ rw (ne_eqb a refusal.accepted n)
