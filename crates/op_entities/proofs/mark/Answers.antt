use Rattle.op_entities.specs.EntityLaws.{mark_10, mark_done}
use Rattle.op_entities.proofs.mark.Goals as goal

pub returns-then-not-is_container : goal.returns-then-not-is_container
returns-then-not-is_container c =
    mark_10 _ _ _ _ c.requires.0 c.requires.1 _ c.is_container.ensures c.if-not-is_container.true

pub returns : goal.returns
returns c =
    mark_done _ _ _ _ c.requires.0 c.requires.1 _ c.is_container.ensures c.if-not-is_container.false _
    c.a.ensures _ c.set_mark.ensures
