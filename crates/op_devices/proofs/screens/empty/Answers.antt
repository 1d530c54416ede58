use Rattle.std.proofs.Common.{arith, ◌∙◌, ◌≡◌}
use Rattle.model.specs.Tables.Words.{place_count}
use Rattle.op_devices.specs.WipeLaws.{wipe_all}
use Rattle.op_devices.proofs.screens.empty.Goals as goal

pub returns : goal.returns
returns c =
    let z : c.loop-i.i ≡ place_count = omega arith in
    c.set_used.ensures ∙ wipe_all _ _ _ (rw z at c.loop-i.invariant)
