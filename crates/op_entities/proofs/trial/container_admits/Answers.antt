use Rattle.op_entities.specs.HeldLaws.{container_asked, container_none}
use Rattle.standing.specs.LookLaws.{holder_in}
use Rattle.op_entities.proofs.trial.container_admits.Goals as goal

pub returns-then-h-eq0 : goal.returns-then-h-eq0
returns-then-h-eq0 c = container_none _ _ _ _ c.holder-h.ensures c.if-h-eq0.true

pub level-requires : goal.level-requires
level-requires c =
    let r = holder_in _ c.requires.1 _ _ c.holder-h.ensures c.if-h-eq0.false in
    (c.requires.0, r.0, r.1)

pub returns : goal.returns
returns c =
    container_asked _ _ _ _ c.holder-h.ensures c.if-h-eq0.false _ _ c.level.ensures c.at_most.ensures
