use Rattle.std.proofs.Common.{◌-◌, suc, ◌≡◌, ◌≤◌}
use Rattle.model.specs.State.Climb.{climb}
use Rattle.model.specs.Tables.Layout.{tables_of}
use Rattle.model.specs.Tables.Words.{entity_count}
use Rattle.standing.specs.Standing.{parent_in}
use Rattle.standing.proofs.inside.Given as goal

abbrev pub invariant-loop-i : goal.invariant-loop-i
invariant-loop-i l = (1 ≤ l.y.0) × (climb (parent_in (tables_of l.t)) (suc entity_count - l.i) l.y.0 l.e.0
    ≡ climb (parent_in (tables_of l.t)) (suc entity_count) l.initial.y.0 l.e.0)
