use Rattle.std.proofs.Common.{◌∙◌}
use Rattle.standing.specs.InsideLaws.{inside_empty}
use Rattle.standing.proofs.is_inside.Goals as goal

pub returns-then-used-eq0 : goal.returns-then-used-eq0
returns-then-used-eq0 c =
    c.eq.ensures ∙ inside_empty _ c.requires.1 _ _ _ c.used.ensures c.if-used-eq0.true
