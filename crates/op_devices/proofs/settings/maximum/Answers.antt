use Rattle.std.proofs.Common.{◌∙◌}
use Rattle.op_devices.specs.SettingLaws.{maximum_10, maximum_12, maximum_13, maximum_done}
use Rattle.op_devices.proofs.settings.maximum.Goals as goal

pub returns-then-not-is_device : goal.returns-then-not-is_device
returns-then-not-is_device c =
    maximum_10 _ _ _ _ c.requires.0 c.requires.1 _ c.is_device.ensures c.if-not-is_device.true

pub returns-then-not-has_role : goal.returns-then-not-has_role
returns-then-not-has_role c =
    maximum_12 _ _ _ _ c.requires.0 c.requires.1 _ c.is_device.ensures c.if-not-is_device.false _
    c.has_role.ensures c.if-not-has_role.true

pub returns-then-not-at_most : goal.returns-then-not-at_most
returns-then-not-at_most c =
    maximum_13 _ _ _ _ c.requires.0 c.requires.1 _ c.is_device.ensures c.if-not-is_device.false _ c.has_role.ensures
    c.if-not-has_role.false _ c.a.ensures _ (c.at_most.ensures ∙ rw c.level.ensures)
    c.if-not-at_most.true

pub returns : goal.returns
returns c =
    maximum_done _ _ _ _ c.requires.0 c.requires.1 _ c.is_device.ensures c.if-not-is_device.false _ c.has_role.ensures
    c.if-not-has_role.false _ c.a.ensures _ (c.at_most.ensures ∙ rw c.level.ensures) c.if-not-at_most.false _
    c.set_maximum.ensures
