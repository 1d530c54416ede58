-- What a function of the ladder asks and promises, over the words that it is lent.
use Rattle.std.specs.Prelude.{false, List, ◌≡◌, ◌≤◌, suc, zero, ℕ, length}
use Rattle.std.proofs.Math.Option.{some}
use Rattle.model.specs.Request.After.{after, effect}
use Rattle.model.specs.Request.Asked.{asked}
use Rattle.model.specs.Request.Ladder.{answer, applies}
use Rattle.model.specs.Request.Operations.{Op, op_of}
use Rattle.model.specs.Request.Words.{Request, request_of, request_words}
use Rattle.model.specs.Request.Refusals as refusal
use Rattle.model.specs.State.Secure.{Good}
use Rattle.model.specs.Tables.Layout.{tables_of, word_count}
use Rattle.model.specs.Tables.Words.{Tables, entity_count, user_count}

-- whole tables that are well-formed and secure, and the sixteen words of a request
pub record Ready (t q : List ℕ) : Type 0 where
  pub whole : length t ≡ word_count
  pub request : length q ≡ request_words
  pub good : Good (tables_of t)

-- Rules 6 and 7: the effect of a request that is accepted; a refusal has none.
abbrev pub acted : ℕ → Tables → Request → Tables
acted zero d q = effect d q
acted (suc r) d q = d

-- Rules 6 and 7: an operation judges and acts. The answer is the model's, and the tables have the effect, or are as they were: the notice of a
-- refusal is the step's.
pub record Judged (t q : List ℕ) (r : ℕ) (n : List ℕ) : Type 0 where
  pub answer : r ≡ answer (tables_of t) (request_of q)
  pub tables : tables_of n ≡ acted r (tables_of t) (request_of q)

-- Rules 7 and 8: the answer is the model's, and the tables afterwards are the model's, with the notice.
pub record Stepped (t q : List ℕ) (r : ℕ) (n : List ℕ) : Type 0 where
  pub answer : r ≡ answer (tables_of t) (request_of q)
  pub tables : tables_of n ≡ after (tables_of t) (request_of q)

-- no rung up to n applies
abbrev pub Passed : ℕ → Tables → Request → Type 0
Passed n d q = (k : ℕ) → k ≤ n → applies k d q ≡ false

-- u is the requester, and the ladder is passed up to rung n
pub record Climbed (n : ℕ) (t q : List ℕ) (u : ℕ) : Type 0 where
  pub ready : Ready t q
  pub user : (request_of q).user ≡ u
  pub low : 1 ≤ u
  pub high : u ≤ user_count
  pub passed : Passed n (tables_of t) (request_of q)

-- the requester is there; is logged on where the operation wants it; and every operand is found, permitted and reached by an open way
abbrev pub PastRequester : List ℕ → List ℕ → ℕ → Type 0
PastRequester t q u = Climbed refusal.unknown_requester t q u

abbrev pub PastLogon : List ℕ → List ℕ → ℕ → Type 0
PastLogon t q u = Climbed refusal.not_logged_on t q u

abbrev pub PastMarks : List ℕ → List ℕ → ℕ → Type 0
PastMarks t q u = Climbed refusal.marked t q u

-- the request is for the operation o, and passes up to rung 9
pub record Taking (o : Op) (t q : List ℕ) (u : ℕ) : Type 0 where
  pub climbed : PastMarks t q u
  pub named : op_of (request_of q).operation ≡ some o

-- e is the request's first operand
pub record First (t q : List ℕ) (e : ℕ) : Type 0 where
  pub is : (asked (tables_of t) (request_of q)).first ≡ e
  pub low : 1 ≤ e
  pub high : e ≤ entity_count

-- e is the request's second operand
pub record Second (t q : List ℕ) (e : ℕ) : Type 0 where
  pub is : (asked (tables_of t) (request_of q)).second ≡ e
  pub low : 1 ≤ e
  pub high : e ≤ entity_count
