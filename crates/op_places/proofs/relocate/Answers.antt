use Rattle.std.proofs.Common.{ap, not}
use Rattle.std.proofs.Common.{◌∙◌}
use Rattle.op_places.specs.MoveLaws.{move_above_lem, move_full_lem, move_inside_lem, move_kinds, move_room, move_unshown, moved}
use Rattle.op_places.proofs.relocate.Goals as goal

pub returns-then-not-is_entity-is_container : goal.returns-then-not-is_entity-is_container
returns-then-not-is_entity-is_container c =
    move_kinds _ _ _ _ _ c.requires.0 c.requires.1 c.requires.2 _ _ c.is_entity.ensures c.is_container.ensures
    (ap not c.if-not-is_entity-is_container.true)

pub returns-then-not-at_most : goal.returns-then-not-at_most
returns-then-not-at_most c =
    move_above_lem _ _ _ _ _ c.requires.0 c.requires.1 c.requires.2 _ _ c.is_entity.ensures c.is_container.ensures
    (ap not c.if-not-is_entity-is_container.false) _ _ _
    c.level.ensures c.level-2.ensures c.at_most.ensures (ap not c.if-not-at_most.true)

pub returns-then-ne-used : goal.returns-then-ne-used
returns-then-ne-used c =
    move_full_lem _ _ _ _ _ c.requires.0 c.requires.1 c.requires.2 _ _ c.is_entity.ensures c.is_container.ensures
    (ap not c.if-not-is_entity-is_container.false) _ _ _
    c.level.ensures c.level-2.ensures c.at_most.ensures (ap not c.if-not-at_most.false) _ _ c.holder-h.ensures c.used.ensures
    (rw c.ne.ensures at c.if-ne-used.true)

pub returns-then-is_inside : goal.returns-then-is_inside
returns-then-is_inside c =
    move_inside_lem _ _ _ _ _ c.requires.0 c.requires.1 c.requires.2 _ _ c.is_entity.ensures c.is_container.ensures
    (ap not c.if-not-is_entity-is_container.false) _ _ _
    c.level.ensures c.level-2.ensures c.at_most.ensures (ap not c.if-not-at_most.false) _ _ c.holder-h.ensures c.used.ensures
    (rw c.ne.ensures at c.if-ne-used.false) _ c.is_inside.ensures c.if-is_inside.true

pub put_last-requires : goal.put_last-requires
put_last-requires c = (
  (c.leave.auto.t ∙ c.requires.0.climbed.ready.whole, c.requires.2.low, c.requires.2.high),
  move_room _ _ _ _ _
      c.requires.0 c.requires.1 c.requires.2 _ _ c.is_entity.ensures c.is_container.ensures (ap not c.if-not-is_entity-is_container.false) _ _ _
      c.level.ensures
      c.level-2.ensures c.at_most.ensures (ap not c.if-not-at_most.false) _ _ c.holder-h.ensures c.used.ensures (rw c.ne.ensures at c.if-ne-used.false) _
      c.is_inside.ensures _ c.leave.ensures,
  move_unshown _ _ _ _ _ c.requires.0 c.requires.1 c.requires.2 _ _
      c.is_entity.ensures c.is_container.ensures (ap not c.if-not-is_entity-is_container.false) _ _ _ c.level.ensures c.level-2.ensures c.at_most.ensures
      (ap not c.if-not-at_most.false) _ _ c.holder-h.ensures c.used.ensures (rw c.ne.ensures at c.if-ne-used.false) _ c.is_inside.ensures _
      c.leave.ensures,
)

pub returns : goal.returns
returns c =
    moved _ _ _ _ _ c.requires.0 c.requires.1 c.requires.2 _ _ c.is_entity.ensures c.is_container.ensures (ap not c.if-not-is_entity-is_container.false) _ _ _
    c.level.ensures c.level-2.ensures c.at_most.ensures (ap not c.if-not-at_most.false) _ _ c.holder-h.ensures c.used.ensures
    (rw c.ne.ensures at c.if-ne-used.false) _ c.is_inside.ensures c.if-is_inside.false _ _ c.leave.ensures c.put_last.ensures
