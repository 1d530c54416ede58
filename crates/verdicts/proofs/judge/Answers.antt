use Rattle.std.proofs.Common.{◌∙◌}
use Rattle.verdicts.specs.VerdictLaws.{verdict_made}
use Rattle.verdicts.proofs.judge.Goals as goal

pub returns : goal.returns
returns c =
    c.verdict_of.ensures ∙ verdict_made _ _ _ _ _ _ _ c.requires.0.clearance c.is_bar-shut.ensures c.used.ensures c.is_showable-shown.ensures
