use Rattle.std.proofs.Common.{ap, not}
use Rattle.standing.specs.LookLaws.{stands_nowhere, stands_there}
use Rattle.standing.proofs.contains.Goals as goal

pub returns-then-not-holds : goal.returns-then-not-holds
returns-then-not-holds c = stands_nowhere _ c.requires.1 _ _ _ c.requires.2 _ c.holds.ensures (ap not c.if-not-holds.true)

pub returns : goal.returns
returns c =
    stands_there _ c.requires.1 _ _ _ c.requires.2 _ c.holds.ensures (ap not c.if-not-holds.false) _ c.kind.ensures
