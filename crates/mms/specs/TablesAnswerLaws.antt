-- What the writer and the reader of tables can answer, which number goes with it, and that a refusal leaves what was lent.
use Rattle.std.specs.Prelude.{Bool, ◌↔◌, ◌≢◌, ◌≤◌, ℕ, eqb, leb, length}
use Rattle.std.proofs.Math.Bool.{false, true}
use mathlib.Core.List.{List, Memᴰ, [], ◌∷◌}
use Rattle.std.proofs.Common.{◌∙◌, sym}
use Rattle.std.proofs.Math.Path.{◌≡◌, refl, subst}
use native.Mathlib.Omega.{arith}
use Rattle.std.proofs.Math.Dec.{T}
use Rattle.mms.specs.AnswerLaws.{has, has_member}
use Rattle.model.specs.Basics.Choice.{Same, it, other, pick, same}
use Rattle.model.specs.State.Check.{well_formed_test}
use Rattle.model.specs.Tables.Layout.{tables_of, word_count}
use Rattle.tables_text.specs.Calls.{ReadsTables, WritesTables, answer_in, line_in, read_answer, read_number, text_of_tables, write_answer, write_number}
use Rattle.tables_text.proofs.DueCallLaws.{reads_broken}
use Rattle.tables_text.specs.LineMost.{line_most}
use Rattle.tables_text.proofs.LineMostLaws.{first_some, read_number_most}
use Rattle.tables_text.specs.Stages.{Stage, past, reading, stuck}
use Rattle.model.specs.Request.Refusals as refusal

-- ---- the writer

abbrev pub write_tables_answers : List ℕ
write_tables_answers = refusal.accepted ∷ refusal.bad_length ∷ refusal.not_well_formed ∷ refusal.too_short ∷ []

module _ {t room r : List ℕ} {a n : ℕ} (x : WritesTables t room a n r) where
  pub write_tables_answers_lem : Memᴰ a write_tables_answers
  unfolding write_answer has
  write_tables_answers_lem = subst (λ (k : ℕ). Memᴰ k write_tables_answers) (sym x.answer) (has_member (write_answer t (length room)) write_tables_answers
      (go (eqb (length t) word_count) (well_formed_test (tables_of t)) (leb (length (text_of_tables t)) (length room))))
    where
      go : (b c e : Bool) → T (has (pick b (pick c (pick e refusal.accepted refusal.too_short) refusal.not_well_formed) refusal.bad_length)
          write_tables_answers)
      go true true true = tt
      go true true false = tt
      go true false e = tt
      go false c e = tt

  -- a number goes with 0 and 17 only
  pub write_tables_number : a ≢ refusal.accepted → a ≢ refusal.too_short → n ≡ 0
  unfolding write_answer write_number
  write_tables_number f g =
      x.number ∙ go (eqb (length t) word_count) (well_formed_test (tables_of t)) (leb (length (text_of_tables t)) (length room)) x.answer
    where
      go : (b c e : Bool) → a ≡ pick b (pick c (pick e refusal.accepted refusal.too_short) refusal.not_well_formed) refusal.bad_length
          → ◌≡◌ {A = ℕ} (pick b (pick c (length (text_of_tables t)) 0) 0) 0
      go true true true z = absurd (f z)
      go true true false z = absurd (g z)
      go true false e z = refl
      go false c e z = refl

  pub write_tables_length : (a ≡ refusal.bad_length) ↔ (length t ≢ word_count)
  unfolding write_answer
  write_tables_length =
      go (eqb (length t) word_count) (same (length t) word_count) (well_formed_test (tables_of t)) (leb (length (text_of_tables t)) (length room)) x.answer
    where
      go : (b : Bool) → Same (length t) word_count b → (c e : Bool)
          → a ≡ pick b (pick c (pick e refusal.accepted refusal.too_short) refusal.not_well_formed) refusal.bad_length
          → (a ≡ refusal.bad_length) ↔ (length t ≢ word_count)
      go true (it h) true true e = (λ z k. omega arith, λ k. absurd (k h))
      go true (it h) true false e = (λ z k. omega arith, λ k. absurd (k h))
      go true (it h) false f e = (λ z k. omega arith, λ k. absurd (k h))
      go false (other h) c f e = (λ z. h, λ k. e)

-- ---- the reader

abbrev pub read_tables_answers : List ℕ
read_tables_answers = refusal.accepted ∷ refusal.bad_length ∷ refusal.not_well_formed ∷ refusal.not_a_request ∷ []

module _ {s t r : List ℕ} {a n : ℕ} (x : ReadsTables s t a n r) where
  pub read_tables_answers_lem : Memᴰ a read_tables_answers
  unfolding read_answer has
  read_tables_answers_lem = subst (λ (k : ℕ). Memᴰ k read_tables_answers) (sym x.answer) (has_member (read_answer s t) read_tables_answers
      (go (eqb (length t) word_count) (reading s)))
    where
      formed : (b : Bool) → T (has (pick b refusal.accepted refusal.not_well_formed) read_tables_answers)
      formed true = tt
      formed false = tt

      go : (b : Bool) (g : Stage) → T (has (pick b (answer_in g) refusal.bad_length) read_tables_answers)
      go true (past d y) = formed (well_formed_test d)
      go true (stuck y) = tt
      go false g = tt

  -- a number goes with 18 only
  pub read_tables_number : a ≢ refusal.not_a_request → n ≡ 0
  unfolding read_answer read_number
  read_tables_number f = x.number ∙ go (eqb (length t) word_count) (reading s) x.answer
    where
      go : (b : Bool) (g : Stage) → a ≡ pick b (answer_in g) refusal.bad_length → ◌≡◌ {A = ℕ} (pick b (line_in s g) 0) 0
      go true (past d y) e = refl
      go true (stuck y) e = absurd (f e)
      go false g e = refl

  -- and is then a line
  pub read_tables_line : a ≡ refusal.not_a_request → (1 ≤ n) × (n ≤ line_most)
  read_tables_line e = (
    first_some (reads_broken (subst (λ (k : ℕ). ReadsTables s t k n r) e x)).0,
    subst (λ (k : ℕ). k ≤ line_most) (sym x.number) (read_number_most s t),
  )

  pub read_tables_length : (a ≡ refusal.bad_length) ↔ (length t ≢ word_count)
  unfolding read_answer
  read_tables_length = go (eqb (length t) word_count) (same (length t) word_count) (reading s) x.answer
    where
      formed : (b : Bool) → a ≡ pick b refusal.accepted refusal.not_well_formed → a ≢ refusal.bad_length
      formed true e z = omega arith
      formed false e z = omega arith

      go : (b : Bool) → Same (length t) word_count b → (g : Stage) → a ≡ pick b (answer_in g) refusal.bad_length
          → (a ≡ refusal.bad_length) ↔ (length t ≢ word_count)
      go true (it h) (past d y) e = (λ z k. formed (well_formed_test d) e z, λ k. absurd (k h))
      go true (it h) (stuck y) e = (λ z k. omega arith, λ k. absurd (k h))
      go false (other h) g e = (λ z. h, λ k. e)
