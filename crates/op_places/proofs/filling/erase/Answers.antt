use Rattle.std.proofs.Common.{arith, ◌∙◌}
use Rattle.model.specs.Tables.LayoutLaws.{bounded}
use Rattle.op_places.specs.BlankLaws.{blank_done, blank_step}
use Rattle.op_places.proofs.filling.erase.Goals as goal

pub loop-f-preserved : goal.loop-f-preserved
loop-f-preserved c = blank_step _ _ (bounded _) _ _ _ c.loop-f-test.true c.loop-f.invariant c.set_word_at.ensures

pub returns : goal.returns
returns c = c.loop-f.invariant ∙ blank_done _ _ (bounded _) c.loop-f.f (omega arith)
