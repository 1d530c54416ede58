use Rattle.std.proofs.Common.{[], ◌≤◌}
use Rattle.disclosure.specs.Visited.{Visited, followed}
use Rattle.model.specs.Tables.Words.{entity_count}
use Rattle.disclosure.proofs.walk.visit_all.Given as goal

abbrev pub invariant-loop-e : goal.invariant-loop-e
invariant-loop-e l = (l.e ≤ entity_count) × Visited [] l.initial.room 0 (followed l.g.tables.now l.g.verdicts.now l.e) l.i l.room
