use Rattle.std.proofs.Common.{◌≡◌}
use Rattle.model.specs.Tables.Layout.{tables_of}
use Rattle.op_devices.specs.Wipe.{wiped_to}
use Rattle.op_devices.proofs.screens.empty.Given as goal

abbrev pub invariant-loop-i : goal.invariant-loop-i
invariant-loop-i l = tables_of l.t ≡ wiped_to l.v.0 (tables_of l.initial.t) l.i
