use Rattle.std.proofs.Common.{arith, length-set}
use Rattle.lines.specs.WritingLaws.{wrote_four}
use Rattle.lines.proofs.writing.write_four.Goals as goal

pub bounds-out-1 : goal.bounds-out-1
bounds-out-1 c = simp length-set (omega (arith, c.requires.1))

pub bounds-out-2 : goal.bounds-out-2
bounds-out-2 c = simp length-set (omega (arith, c.requires.1))

pub returns : goal.returns
returns c = wrote_four c.args.v c.requires.1
