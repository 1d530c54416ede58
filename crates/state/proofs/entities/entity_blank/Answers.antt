use Rattle.std.proofs.Common.{arith, sym}
use Rattle.laws.specs.Loops.{every_gather, every_gathered, every_none}
use Rattle.state.specs.Passes.{entity_blank}
use Rattle.state.proofs.entities.entity_blank.Goals as goal

pub loop-f-init : goal.loop-f-init
loop-f-init c = sym (every_none _)

pub loop-f-preserved : goal.loop-f-preserved
loop-f-preserved c = every_gather _ _ _ _ c.word_zero-blank.ensures c.loop-f.invariant

pub returns : goal.returns
unfolding entity_blank
returns c = every_gathered _ _ _ _ c.loop-f.invariant (omega arith) (omega arith)
