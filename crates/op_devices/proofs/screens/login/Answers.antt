use Rattle.op_devices.specs.LoginLaws.{login_done, login_taken_lem, login_wrong}
use Rattle.op_devices.proofs.screens.login.Goals as goal

pub returns-then-not-is_device : goal.returns-then-not-is_device
returns-then-not-is_device c = login_wrong _ _ _ _ c.requires _ c.is_device.ensures c.if-not-is_device.true

pub returns-then-device-nobody_on : goal.returns-then-device-nobody_on
returns-then-device-nobody_on c =
    login_taken_lem _ _ _ _ c.requires _ c.is_device.ensures c.if-not-is_device.false _ c.device.ensures _ c.nobody_on.ensures
    c.if-device-nobody_on.true

pub returns : goal.returns
returns c =
    login_done _ _ _ _ c.requires _ c.is_device.ensures c.if-not-is_device.false _ c.device.ensures _ c.nobody_on.ensures _
    c.if-device-nobody_on.false c.set_device.ensures
