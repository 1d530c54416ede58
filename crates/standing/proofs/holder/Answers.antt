use Rattle.std.proofs.Common.{arith, sym, ◌∙◌}
use Rattle.model.specs.Tables.Layout.{tables_of}
use Rattle.standing.specs.LookLaws.{parent_here, parent_none, unheld_more}
use Rattle.standing.proofs.holder.Goals as goal

pub returns-then-contains : goal.returns-then-contains
returns-then-contains c =
    parent_here (tables_of c.args.t.now) _ _ c.loop-i-test.true c.loop-i.invariant
    (sym c.contains.ensures ∙ c.if-contains.true)

pub loop-i-preserved : goal.loop-i-preserved
loop-i-preserved c = unheld_more (tables_of c.args.t.now) _ _ c.loop-i.invariant (sym c.contains.ensures ∙ c.if-contains.false)

pub returns : goal.returns
returns c = parent_none (tables_of c.args.t.now) _ c.loop-i.i (omega arith) c.loop-i.invariant
