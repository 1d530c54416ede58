-- Security over a sequence of steps on words: what passes the state check goes on passing it, every step obeys Definitions 5 to 11, and steps that
-- go on for ever are a history of the desk (Definitions 4, 13 and 14). What is refused because of its length changes nothing.
use Rattle.std.specs.Prelude.{Bool, false, true, List, ◌≡◌, refl, ◌<◌, ◌≤◌, suc, zero, ℕ, length}
use Rattle.std.proofs.Common.{◌∙◌, ap, arith}
use Rattle.model.specs.Basics.Agree.{agrees_eq}
use Rattle.model.specs.Basics.TestLaws.{is_false, is_true}
use Rattle.model.specs.Request.After.{after}
use Rattle.model.specs.Request.Step.{after_of, sized}
use Rattle.model.specs.Request.Words.{request_of, request_words}
use Rattle.model.specs.State.AgreeSecure.{check_agrees}
use Rattle.model.specs.State.Check.{check}
use Rattle.model.specs.State.Secure.{Good}
use Rattle.model.specs.Tables.Layout.{tables_of, word_count}
use Rattle.model.specs.Theorem.Definitions.{History, HistorySecure, Obeys, SystemSecure}
use Rattle.model.proofs.Theorem.LawfulNotice.{quiet_obeys, same_quiet}
use Rattle.model.specs.Theorem.Sequence.{Steps}
use Rattle.model.proofs.Theorem.Steps.{after_of_length, after_of_tables, check_kept, sized_agrees, unsized, words_obey}
use Rattle.model.proofs.Theorem.System.{system_secure, transform_secure}
use Rattle.model.specs.Request.Refusals as refusal

-- Words that pass the state check give well-formed, secure tables.
pub checked_good : (t : List ℕ) → check t ≡ refusal.accepted → Good (tables_of t)
checked_good t e = ((check_agrees t).to ((agrees_eq (check t) refusal.accepted).from e)).1

-- Definitions 5 to 11 (rules 9.5 to 9.11) of one step, whatever the words of the tables and of the request, and however many.
pub step_obeys : (t q : List ℕ) → Obeys (tables_of t) (request_of q) (tables_of (after_of t q))
step_obeys t q = go (sized t q) refl
  where
    go : (b : Bool) → sized t q ≡ b → Obeys (tables_of t) (request_of q) (tables_of (after_of t q))
    go true z = words_obey t q (is_true (sized t q) z)
    go false z = rw (unsized t q (is_false (sized t q) z)).1
        (quiet_obeys (tables_of t) (tables_of t) (request_of q) (same_quiet (tables_of t) (request_of q).user))

module _ (tables requests : ℕ → List ℕ) (answers : ℕ → ℕ) where
  -- Well-formed and secure at the start, well-formed and secure after every step.
  pub sequence_good : (m : ℕ) → Steps m tables requests answers → check (tables 0) ≡ refusal.accepted → (i : ℕ) → i ≤ m
      → check (tables i) ≡ refusal.accepted
  sequence_good m s e zero h = e
  sequence_good m s e (suc i) h = ap check (s.left i (omega arith)) ∙ check_kept (tables i) (requests i) (sequence_good m s e i (omega arith))

  -- Definitions 5 to 11 of every step.
  pub sequence_obeys : (m : ℕ) → Steps m tables requests answers → (i : ℕ) → i < m
      → Obeys (tables_of (tables i)) (request_of (requests i)) (tables_of (tables (suc i)))
  sequence_obeys m s i h = rw (s.left i h) (step_obeys (tables i) (requests i))

  module _ (s : (m : ℕ) → Steps m tables requests answers) where
    lengths : length (tables 0) ≡ word_count → (i : ℕ) → length (tables i) ≡ word_count
    lengths e zero = e
    lengths e (suc i) = ap length ((s (suc i)).left i (omega arith)) ∙ after_of_length (tables i) (requests i) ∙ lengths e i

    -- Definition 4 (rule 9.4): steps that go on for ever, on words of the right sizes, are a history of the desk.
    pub sequence_history : length (tables 0) ≡ word_count → ((i : ℕ) → length (requests i) ≡ request_words)
        → History after (tables_of (tables 0)) (λ i. tables_of (tables i)) (λ i. request_of (requests i))
    sequence_history e f = record {
      starts = refl;
      goes_on = λ i. ap tables_of ((s (suc i)).left i (omega arith))
          ∙ after_of_tables (tables i) (requests i) ((sized_agrees (tables i) (requests i)).from (lengths e i, f i));
    }

    -- Definition 13 (rule 9.13), with requests of any length.
    pub sequence_secure : check (tables 0) ≡ refusal.accepted → HistorySecure after (λ i. tables_of (tables i))
    sequence_secure e = record { states = λ i. checked_good (tables i) (sequence_good i (s i) e i (omega arith)); transform = transform_secure }

-- Definition 14 (rule 9.14), of words that pass the state check.
pub checked_system : (t : List ℕ) → check t ≡ refusal.accepted → SystemSecure after (tables_of t)
checked_system t e = system_secure (tables_of t) (checked_good t e)
