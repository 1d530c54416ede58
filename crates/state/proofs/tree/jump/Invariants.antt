use Rattle.state.specs.Jumps.{Jumped}
use Rattle.state.proofs.tree.jump.Given as goal

abbrev pub invariant-loop-i : goal.invariant-loop-i
invariant-loop-i l = Jumped l.a l.a l.i l.none l.d
