-- The words of a request that name a triple.
use Rattle.std.specs.Prelude.{List, ◌≡◌, ◌≤◌, ℕ, length}
use Rattle.model.specs.Request.Words.{request_of, request_words}
use Rattle.model.specs.Tables.Words.{operation_count, position_count, triple_of, who_most}

-- its three arguments are no larger than the parts of a triple
pub record Named (q : List ℕ) : Type 0 where
  pub whole : length q ≡ request_words
  pub who : (request_of q).a ≤ who_most
  pub operation : (request_of q).b ≤ operation_count
  pub position : (request_of q).c ≤ position_count

-- the triple that they are
abbrev pub triple_in : List ℕ → ℕ
triple_in q = triple_of (request_of q).a (request_of q).b (request_of q).c
