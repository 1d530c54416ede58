use Rattle.std.proofs.Common.{arith, ◌∙◌}
use Rattle.model.specs.Tables.LayoutLaws.{bounded}
use Rattle.op_places.specs.CopyLaws.{copying_done}
use Rattle.op_places.proofs.filling.copy_triples.Goals as goal

pub returns : goal.returns
returns c = c.loop-i.invariant ∙ copying_done _ _ _ (bounded _) c.loop-i.i (omega arith)
