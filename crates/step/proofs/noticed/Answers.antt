use Rattle.std.proofs.Common.{sym, ◌∙◌}
use Rattle.step.specs.FirstLaws.{noticed_as, noticed_none}
use Rattle.step.proofs.noticed.Goals as goal

pub returns-in-Ok : goal.returns-in-Ok
returns-in-Ok c = c.from.ensures ∙ noticed_as _ c.in-Ok.o (sym c.operation.ensures ∙ c.in-Ok.ensures)

pub returns-in-Err : goal.returns-in-Err
returns-in-Err c = noticed_none _ (rw c.operation.ensures at c.in-Err.ensures.1)
