use Rattle.std.proofs.Common.{refl}
use Rattle.op_devices.specs.DeviceLaws.{device_in, logout_done}
use Rattle.op_devices.proofs.screens.logout.Goals as goal

pub empty-requires : goal.empty-requires
empty-requires c = device_in _ _ _ _ c.requires refl _ c.device.ensures

pub returns : goal.returns
returns c =
    logout_done _ _ _ _ _ c.requires c.device.ensures _ _ c.empty.ensures c.set_device.ensures
    c.set_current.ensures
