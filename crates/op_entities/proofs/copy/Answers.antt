use Rattle.std.proofs.Common.{◌∙◌}
use Rattle.op_entities.specs.EntityLaws.{copy_10, copy_13, copy_done}
use Rattle.op_entities.proofs.copy.Goals as goal

pub returns-then-not-is_entity : goal.returns-then-not-is_entity
returns-then-not-is_entity c =
    copy_10 _ _ _ _ _ c.requires.0 c.requires.1 c.requires.2 _ _ c.is_entity.ensures c.is_entity-2.ensures
    c.if-not-is_entity.true

pub returns-then-not-at_most : goal.returns-then-not-at_most
returns-then-not-at_most c =
    copy_13 _ _ _ _ _ c.requires.0 c.requires.1 c.requires.2 _ _ c.is_entity.ensures c.is_entity-2.ensures c.if-not-is_entity.false _
    (c.at_most.ensures ∙ rw (c.level.ensures, c.level-2.ensures)) c.if-not-at_most.true

pub returns : goal.returns
returns c =
    copy_done _ _ _ _ _ c.requires.0 c.requires.1 c.requires.2 _ _ c.is_entity.ensures c.is_entity-2.ensures
    c.if-not-is_entity.false _ (c.at_most.ensures ∙ rw (c.level.ensures, c.level-2.ensures)) c.if-not-at_most.false _
    c.value-v.ensures _ c.set_value.ensures
