use Rattle.std.proofs.Common.{arith}
use Rattle.state.specs.JumpLaws.{jumped_end, jumped_more, jumped_none}
use Rattle.state.proofs.tree.jump.Goals as goal

pub loop-i-init : goal.loop-i-init
loop-i-init c = jumped_none _ _ _ c.requires.1

pub offset_bounds-a-a : goal.offset_bounds-a-a
offset_bounds-a-a c = omega (arith, c.requires.0.1 c.loop-i.i)

pub bounds-a-a : goal.bounds-a-a
bounds-a-a c = omega (arith, c.requires.0.1 c.loop-i.i)

pub loop-i-preserved : goal.loop-i-preserved
loop-i-preserved c = jumped_more _ _ _ _ _ c.loop-i-test.true c.loop-i.invariant

pub returns : goal.returns
returns c = jumped_end _ _ _ _ _ _ (omega arith) (omega arith) c.loop-i.invariant
