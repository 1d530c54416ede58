use Rattle.std.proofs.Common.{refl, ◌∙◌}
use Rattle.op_devices.specs.DeviceLaws.{device_in}
use Rattle.op_devices.specs.ShowLaws.{used_in, room_in, show_above_lem, show_bare, show_done, show_full_lem, show_wrong}
use Rattle.op_devices.proofs.screens.show.Goals as goal

pub returns-then-not-is_entity : goal.returns-then-not-is_entity
returns-then-not-is_entity c = show_wrong _ _ _ _ c.requires _ c.is_entity.ensures c.if-not-is_entity.true

pub level-requires : goal.level-requires
level-requires c =
    device_in _ _ _ _ c.requires.0 refl _ c.device-v.ensures

pub returns-then-at_most : goal.returns-then-at_most
returns-then-at_most c =
    show_above_lem _ _ _ _ c.requires _ c.is_entity.ensures c.if-not-is_entity.false _ _ _ _ _ _ c.device-v.ensures c.level-l.ensures
    c.clearance.ensures c.level.ensures c.at_most.ensures c.at_most-2.ensures c.if-at_most.true

pub used-n-requires : goal.used-n-requires
used-n-requires c =
    device_in _ _ _ _ c.requires.0 refl _ c.device-v.ensures

pub place_of-k-requires : goal.place_of-k-requires
place_of-k-requires c =
    (device_in _ _ _ _ c.requires.0 refl _ c.device-v.ensures, used_in _ _ _ c.requires.0 _ _ c.used-n.ensures)

pub returns-then-n-k : goal.returns-then-n-k
returns-then-n-k c =
    show_full_lem _ _ _ _ c.requires _ c.is_entity.ensures c.if-not-is_entity.false _ _ _ _ _ _ c.device-v.ensures c.level-l.ensures
    c.clearance.ensures c.level.ensures c.at_most.ensures c.at_most-2.ensures c.if-at_most.false _ _
    c.used-n.ensures c.place_of-k.ensures c.if-n-k.true

pub returns-then-not-is_labelled : goal.returns-then-not-is_labelled
returns-then-not-is_labelled c =
    show_bare _ _ _ _ c.requires _ c.is_entity.ensures c.if-not-is_entity.false _ _ _ _ _ _ c.device-v.ensures c.level-l.ensures
    c.clearance.ensures c.level.ensures c.at_most.ensures c.at_most-2.ensures c.if-at_most.false _ _ c.used-n.ensures
    c.place_of-k.ensures c.if-n-k.false _ c.a-a.ensures _ c.is_labelled.ensures
    c.if-not-is_labelled.true

pub put_on-requires : goal.put_on-requires
put_on-requires c = (
  device_in _ _ _ _ c.requires.0 refl _ c.device-v.ensures,
  c.used-n.ensures,
  c.place_of-k.ensures ∙ rw c.used-n.ensures,
  room_in _ _ _ _
      (used_in _ _ _ c.requires.0 _ _ c.used-n.ensures) c.place_of-k.ensures c.if-n-k.false,
)

pub returns : goal.returns
returns c =
    show_done _ _ _ _ c.requires _ c.is_entity.ensures c.if-not-is_entity.false _ _ _ _ _ _ c.device-v.ensures c.level-l.ensures
    c.clearance.ensures c.level.ensures c.at_most.ensures c.at_most-2.ensures c.if-at_most.false _ _ c.used-n.ensures
    c.place_of-k.ensures c.if-n-k.false _ c.a-a.ensures _ c.is_labelled.ensures _ c.if-not-is_labelled.false
    c.put_on.ensures
