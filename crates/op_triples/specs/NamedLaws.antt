-- The triple that a request of operation 8 or 9 names.
use Rattle.std.specs.Prelude.{List, ℕ}
use Rattle.ladder.specs.ArgumentLaws.{arguments_in}
use Rattle.ladder.specs.Contract.{Taking}
use Rattle.model.specs.Request.Operations.{to_grant, to_revoke}
use Rattle.op_triples.specs.Named.{Named}

-- the words of a request to grant name a triple
pub grant_named : (t q : List ℕ) (u : ℕ) → Taking to_grant t q u → Named q
grant_named t q u k =
    let z = arguments_in to_grant t q u k in
    record { whole = k.climbed.ready.request; who = z.0.1; operation = z.1.0.1; position = z.1.1.1 }

-- and those of a request to revoke
pub revoke_named : (t q : List ℕ) (u : ℕ) → Taking to_revoke t q u → Named q
revoke_named t q u k =
    let z = arguments_in to_revoke t q u k in
    record { whole = k.climbed.ready.request; who = z.0.1; operation = z.1.0.1; position = z.1.1.1 }
