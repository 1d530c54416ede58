use Rattle.std.proofs.Common.{sym, ◌∙◌}
use Rattle.model.specs.Basics.TestLaws.{is_true}
use Rattle.model.proofs.Request.ConditionLaws.{device_agrees}
use Rattle.op_devices.specs.SettingLaws.{device_level_10, device_level_12, device_level_tried}
use Rattle.op_devices.proofs.settings.device_level.Goals as goal

pub returns-then-not-is_device : goal.returns-then-not-is_device
returns-then-not-is_device c =
    device_level_10 _ _ _ _ c.requires.0 c.requires.1 _ c.is_device.ensures c.if-not-is_device.true

pub returns-then-device_dropped : goal.returns-then-device_dropped
returns-then-device_dropped c =
    device_level_12 _ _ _ _ c.requires.0 c.requires.1 _ c.is_device.ensures c.if-not-is_device.false _ c.a.ensures _
    (c.device_dropped.ensures ∙ rw c.level.ensures) c.if-device_dropped.true

pub try_device_level-requires : goal.try_device_level-requires
try_device_level-requires c = (
  (c.requires.0.climbed.ready.whole, c.requires.1.low, c.requires.1.high),
  c.requires.0.climbed.ready.good,
  (device_agrees _ _).to
      (is_true _ (sym c.is_device.ensures ∙ c.if-not-is_device.false)),
)

pub returns : goal.returns
returns c =
    device_level_tried _ _ _ _ c.requires.0 c.requires.1 _ c.is_device.ensures c.if-not-is_device.false _ c.a.ensures _
    (c.device_dropped.ensures ∙ rw c.level.ensures) c.if-device_dropped.false _ _ c.try_device_level.ensures
