use Rattle.model.specs.Tables.Layout.{tables_of}
use Rattle.state.specs.Judging.{SoundTo}
use Rattle.state.proofs.entities.entities_judged.Given as goal

abbrev pub invariant-loop-i : goal.invariant-loop-i
invariant-loop-i l = SoundTo (tables_of l.t) l.i l.kept l.h
