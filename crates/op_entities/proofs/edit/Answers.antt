use Rattle.op_entities.specs.EntityLaws.{edit_10, edit_done}
use Rattle.op_entities.proofs.edit.Goals as goal

pub returns-then-not-is_entity : goal.returns-then-not-is_entity
returns-then-not-is_entity c =
    edit_10 _ _ _ _ c.requires.0 c.requires.1 _ c.is_entity.ensures c.if-not-is_entity.true

pub returns : goal.returns
returns c =
    edit_done _ _ _ _ c.requires.0 c.requires.1 _ c.is_entity.ensures c.if-not-is_entity.false _ c.a.ensures _
    c.set_value.ensures
