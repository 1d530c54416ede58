-- Document 01, "The refusal ladder"; rule 7.1, then the ladder: the step on words. Any two lists of words have an answer, and words that stand
-- afterwards.
use Rattle.std.specs.Prelude.{Bool, ◌&&◌, not, List, ◌≡◌, ℕ, T, eqb, length}
use Rattle.model.specs.Basics.Choice.{pick}
use Rattle.model.specs.Request.After.{after, leaves}
use Rattle.model.specs.Request.Ladder.{IsAnswer, answer}
use Rattle.model.specs.Request.Words.{request_of, request_words}
use Rattle.model.specs.Tables.Layout.{tables_of, word_count}
use Rattle.model.specs.Tables.WordsOf.{words_of}
use Rattle.model.specs.Request.Refusals as refusal

-- Rule 7.1: 2,304 words of tables and sixteen of a request.
unfoldable pub sized : List ℕ → List ℕ → Bool
sized t q = eqb (length t) word_count && eqb (length q) request_words

unfoldable pub answer_of : List ℕ → List ℕ → ℕ
answer_of t q = pick (sized t q) (answer (tables_of t) (request_of q)) refusal.bad_length

unfoldable pub after_of : List ℕ → List ℕ → List ℕ
after_of t q = pick (sized t q) (words_of (after (tables_of t) (request_of q))) t

-- Rules 7.0, 7.1 and 8: what a step is, said of any answer a and any words r afterwards.
pub record Settles (t q : List ℕ) (a : ℕ) (r : List ℕ) : Type 0 where
  pub other_size : T (not (sized t q)) → (a ≡ refusal.bad_length) × (r ≡ t)
  pub answered : T (sized t q) → IsAnswer (tables_of t) (request_of q) a
  pub length_kept : T (sized t q) → length r ≡ word_count
  pub left : T (sized t q) → tables_of r ≡ leaves a (tables_of t) (request_of q)
