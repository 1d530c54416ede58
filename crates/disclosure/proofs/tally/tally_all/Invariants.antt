use Rattle.std.proofs.Common.{length, ◌≡◌, ◌≤◌}
use Rattle.disclosure.specs.Visited.{followed}
use Rattle.model.specs.Tables.Words.{entity_count}
use Rattle.disclosure.proofs.tally.tally_all.Given as goal

abbrev pub invariant-loop-e : goal.invariant-loop-e
invariant-loop-e l = (l.e ≤ entity_count) × (l.s ≡ length (followed l.t l.v l.e))
