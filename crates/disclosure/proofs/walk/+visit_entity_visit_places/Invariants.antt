use Rattle.std.proofs.Common.{take, ◌+◌, ◌-◌, ◌≤◌}
use Rattle.disclosure.specs.Visited.{Visited, inside}
use Rattle.model.specs.Request.Words.{name_count}
use Rattle.disclosure.proofs.walk.+visit_entity_visit_places.Given as goal

abbrev pub decreases-visit_entity : goal.decreases-visit_entity
decreases-visit_entity l = l.left + l.left + 1

abbrev pub decreases-visit_places : goal.decreases-visit_places
decreases-visit_places l = l.left + l.left

abbrev pub invariant-visit_places-loop-p : goal.invariant-visit_places-loop-p
invariant-visit_places-loop-p l = (l.p ≤ l.n)
    × Visited (take (name_count - l.left) l.names) l.initial.room l.at (inside l.g.tables.now l.g.verdicts.now (l.left - 1) l.e.0 l.p) l.i l.room
