use Rattle.std.proofs.Common.{arith}
use Rattle.rows.specs.SweepLaws.{sweep_more, sweep_none, swept}
use Rattle.rows.proofs.holds.Goals as goal

pub loop-i-init : goal.loop-i-init
loop-i-init c = sweep_none _ _

pub loop-i-preserved : goal.loop-i-preserved
loop-i-preserved c = rw c.eq-found.ensures (sweep_more _ _ _ _ _ c.place.ensures c.loop-i.invariant)

pub returns : goal.returns
returns c = swept _ _ _ _ _ c.loop-i.invariant c.loop-i.auto.i-end (omega arith)
