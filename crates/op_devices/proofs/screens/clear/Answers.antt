use Rattle.std.proofs.Common.{refl}
use Rattle.op_devices.specs.DeviceLaws.{clear_done, device_in}
use Rattle.op_devices.proofs.screens.clear.Goals as goal

pub empty-requires : goal.empty-requires
empty-requires c = device_in _ _ _ _ c.requires refl _ c.device.ensures

pub returns : goal.returns
returns c =
    clear_done _ _ _ _ _ c.requires c.device.ensures c.empty.ensures
