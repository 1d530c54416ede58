-- Rules 6.15 and 6.16: what is asked of an officer's request about a user, and what is known once rungs 11 and 12 are passed.
use Rattle.std.specs.Prelude.{List, ◌≡◌, ℕ}
use Rattle.ladder.specs.Contract.{Passed, Taking}
use Rattle.ladder.specs.Rungs.{OfOfficers}
use Rattle.model.specs.Request.Operations.{Op}
use Rattle.model.specs.Request.Refusals as refusal
use Rattle.model.specs.Request.Words.{request_of}
use Rattle.model.specs.Tables.Layout.{tables_of}
use Rattle.tables.specs.Singles.{UserIn}

-- the request is for an operation of officers, and the user that it names has a record
pub record OfOfficer (t q : List ℕ) (u : ℕ) : Type 0 where
  pub operation : Op
  pub rungs : OfOfficers operation
  pub taking : Taking operation t q u
  pub named : UserIn t (request_of q).a

-- a is the user that the request names, and rungs 11 and 12 are passed
pub record PastOfficer (t q : List ℕ) (a : ℕ) : Type 0 where
  pub is : a ≡ (request_of q).a
  pub passed : Passed refusal.role_missing (tables_of t) (request_of q)
