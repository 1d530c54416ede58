use Rattle.std.proofs.Common.{arith, sym, ◌∙◌}
use Rattle.laws.specs.Loops.{every_done, every_fails, every_more, every_none}
use Rattle.rows.proofs.all_at_most.Goals as goal

pub loop-i-init : goal.loop-i-init
loop-i-init c = every_none _

pub returns-then-not-place_at_most : goal.returns-then-not-place_at_most
returns-then-not-place_at_most c = every_fails _ _ _ c.loop-i-test.true (sym c.place_at_most.ensures ∙ c.if-not-place_at_most.true)

pub loop-i-preserved : goal.loop-i-preserved
loop-i-preserved c = every_more _ _ c.loop-i.invariant (sym c.place_at_most.ensures ∙ c.if-not-place_at_most.false)

pub returns : goal.returns
returns c = every_done _ _ _ c.loop-i.invariant c.loop-i.auto.i-end (omega arith)
