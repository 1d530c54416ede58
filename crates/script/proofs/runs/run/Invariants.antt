use Rattle.std.proofs.Common.{◌-◌, length, ◌≡◌}
use Rattle.model.specs.State.Check.{check}
use Rattle.names.specs.Refusals.{answer_number}
use Rattle.script.specs.Going.{Going}
use Rattle.script.proofs.runs.run.Given as goal

abbrev pub invariant-loop-at : goal.invariant-loop-at
invariant-loop-at l = Going l.initial.tables l.script l.last l.initial.out l.tables l.at l.out l.n × (length l.tables ≡ length l.initial.tables) ×
    (answer_number l.c ≡ check l.tables)

abbrev pub decreases-loop-at : goal.decreases-loop-at
decreases-loop-at l = length l.script - l.at
