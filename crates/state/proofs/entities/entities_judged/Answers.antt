use Rattle.std.proofs.Common.{arith}
use Rattle.model.specs.Tables.Layout.{tables_of}
use Rattle.state.specs.JudgingLaws.{sound_all, sound_more, sound_none}
use Rattle.state.specs.NotedLaws.{noted_next}
use Rattle.state.proofs.entities.entities_judged.Goals as goal

pub loop-i-init : goal.loop-i-init
loop-i-init c = sound_none (tables_of _) _ c.requires.1

pub entity_judged-requires : goal.entity_judged-requires
entity_judged-requires c = ((c.requires.0, omega arith, omega arith), noted_next _ _ _ c.loop-i.invariant.noted)

pub loop-i-preserved : goal.loop-i-preserved
loop-i-preserved c = sound_more (tables_of _) _ _ _ _ _ c.loop-i.invariant c.in_ok-kept.ensures

pub returns : goal.returns
returns c = sound_all (tables_of _) _ _ _ c.loop-i.invariant (omega arith) (omega arith)
