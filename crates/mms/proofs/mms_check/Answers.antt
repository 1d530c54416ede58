use Rattle.std.proofs.Common.{ap, ◌∙◌}
use Rattle.mms.specs.Contract.{exported}
use Rattle.mms.proofs.mms_check.Goals as goal

pub returns : goal.returns
returns c = c.from.ensures ∙ ap exported c.check.ensures
