-- Rule 16.7 of the writer's answer: no number of bytes that it gives is greater, and a room with so many bytes is never too short; some words need them all.
use Rattle.std.specs.Prelude.{true, List, ◌≡◌, ◌<◌, ◌≤◌, ℕ, eqb, length}
use Rattle.std.proofs.Common.{arith, eq-eqb, le-leb}
use Rattle.model.specs.Basics.Cases.{cases, true_or_false}
use Rattle.model.specs.Basics.TestLaws.{holds_true, is_true}
use Rattle.model.specs.State.Agree.{well_formed_agrees}
use Rattle.model.specs.State.Check.{well_formed_test}
use Rattle.model.specs.Tables.Layout.{tables_of, word_count}
use Rattle.model.specs.Tables.LayoutLaws.{bounded}
use Rattle.tables_text.specs.Calls.{text_of_tables, write_answer, write_number}
use Rattle.tables_text.specs.Longest.{longest_text}
use Rattle.tables_text.proofs.LongestLaws.{text_longest}
use Rattle.tables_text.specs.LongestMetLaws.{longest_formed, longest_length, longest_met_lem}
use Rattle.tables_text.specs.LongestTables.{longest_words}
use Rattle.std.proofs.lemmas.Bool.{lt-leb}
use Rattle.model.specs.Request.Refusals as refusal

pub formed_longest : (t : List ℕ) → well_formed_test (tables_of t) ≡ true → length (text_of_tables t) ≤ longest_text
formed_longest t h = text_longest (tables_of t) ((well_formed_agrees (tables_of t) (bounded t)).to (is_true (well_formed_test (tables_of t)) h))

-- the bytes written or needed are never more,
pub number_longest : (t : List ℕ) → write_number t ≤ longest_text
unfolding write_number
number_longest t = cases (true_or_false (eqb (length t) word_count))
    (λ l. rw l (cases (true_or_false (well_formed_test (tables_of t))) (λ h. rw h (formed_longest t h)) (λ h. rw h (omega arith))))
    (λ l. rw l (omega arith))

-- so in such a room no text is too long,
pub room_enough : (t : List ℕ) (n : ℕ) → longest_text ≤ n → write_answer t n ≡ refusal.too_short → ⊥
unfolding write_answer
room_enough t n m e = cases (true_or_false (eqb (length t) word_count))
    (λ l. cases (true_or_false (well_formed_test (tables_of t)))
    (λ h. omega (arith, rw (l, h, le-leb (length (text_of_tables t)) n (omega (arith, formed_longest t h))) at e))
    (λ h. omega (arith, rw (l, h) at e)))
    (λ l. omega (arith, rw l at e))

-- and with a byte less some are
pub room_needed : (n : ℕ) → n < longest_text → write_answer longest_words n ≡ refusal.too_short
unfolding write_answer
room_needed n h =
    let f : well_formed_test (tables_of longest_words) ≡ true
    = holds_true (well_formed_test (tables_of longest_words)) ((well_formed_agrees (tables_of longest_words) (bounded longest_words)).from longest_formed) in
    rw (eq-eqb (length longest_words) word_count longest_length, f, lt-leb (length (text_of_tables longest_words)) n (omega (arith, longest_met_lem)))
