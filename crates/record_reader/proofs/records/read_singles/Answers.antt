use Rattle.std.proofs.Common.{arith, refl, ◌∙◌}
use Rattle.record_reader.specs.RecordLaws.{entity_next, entity_past, entity_stuck}
use Rattle.record_reader.proofs.records.read_singles.Goals as goal

pub loop-j-init : goal.loop-j-init
loop-j-init c = record { is = refl; within = c.requires.0; most = omega arith; size = c.requires.1.0 }

pub entity_line-requires : goal.entity_line-requires
entity_line-requires c = (c.loop-j.invariant.within, c.loop-j-test.true)

pub returns-in_default : goal.returns-in_default
returns-in_default c = entity_stuck c.loop-j.invariant c.loop-j-test.true c.in_default.ensures

pub set_word_at-requires : goal.set_word_at-requires
set_word_at-requires c =
    ((c.loop-j.invariant.size, c.requires.1.1, c.requires.1.2), omega (arith, c.loop-j-test.true))

pub loop-j-preserved : goal.loop-j-preserved
loop-j-preserved c =
    entity_next c.loop-j.invariant c.loop-j-test.true c.in-Some.ensures c.set_word_at.ensures
    (c.set_word_at.auto.t ∙ c.loop-j.invariant.size)

pub returns : goal.returns
returns c = entity_past c.loop-j.invariant c.loop-j-test.false
