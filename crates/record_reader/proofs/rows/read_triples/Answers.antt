use Rattle.std.proofs.Common.{arith, ◌∙◌}
use Rattle.record_reader.specs.RecordLaws.{triples_next, triples_past, triples_start, triples_stuck}
use Rattle.record_reader.proofs.rows.read_triples.Goals as goal

pub loop-k-init : goal.loop-k-init
loop-k-init c = triples_start _ _ c.requires.0 c.requires.1.0

pub returns-in_default : goal.returns-in_default
returns-in_default c = triples_stuck c.loop-k.invariant c.loop-k-test.true c.in_default.ensures

pub set_triple-requires : goal.set_triple-requires
set_triple-requires c =
    ((c.loop-k.invariant.size, c.requires.1.1, c.requires.1.2), omega (arith, c.loop-k-test.true, c.requires.2))

pub loop-k-preserved : goal.loop-k-preserved
loop-k-preserved c =
    triples_next c.loop-k.invariant c.loop-k-test.true c.in-Some.ensures c.set_triple.ensures (c.set_triple.auto.t ∙ c.loop-k.invariant.size)

pub returns : goal.returns
returns c = triples_past c.loop-k.invariant c.loop-k-test.false
