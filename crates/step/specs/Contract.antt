-- What the step asks of words that have been checked, and what it promises of any words.
use Rattle.std.specs.Prelude.{List, ◌≡◌, ℕ, length}
use Rattle.model.specs.Request.Step.{after_of, answer_of}
use Rattle.model.specs.Request.Words.{request_words}
use Rattle.model.specs.State.Check.{check}

-- Of the words t the check has said c, and the request q has sixteen words.
pub record Checked (t q : List ℕ) (c : ℕ) : Type 0 where
  pub said : c ≡ check t
  pub request : length q ≡ request_words

-- Rules 7 and 8, of any words t and q: the answer r is the model's, and so are the words n afterwards.
pub record Settled (t q : List ℕ) (r : ℕ) (n : List ℕ) : Type 0 where
  pub answer : r ≡ answer_of t q
  pub words : n ≡ after_of t q
