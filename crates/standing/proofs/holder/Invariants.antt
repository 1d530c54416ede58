use Rattle.model.specs.Tables.Layout.{tables_of}
use Rattle.standing.specs.Standing.{Unheld}
use Rattle.standing.proofs.holder.Given as goal

abbrev pub invariant-loop-i : goal.invariant-loop-i
invariant-loop-i l = Unheld (tables_of l.t) l.e.0 l.i
