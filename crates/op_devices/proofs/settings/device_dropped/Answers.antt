use Rattle.model.specs.Level.{drops}
use Rattle.op_devices.proofs.settings.device_dropped.Goals as goal

pub returns : goal.returns
unfolding drops
returns c = rw (c.at_most.ensures, c.ne.ensures, c.device.ensures, c.has_role.ensures)
