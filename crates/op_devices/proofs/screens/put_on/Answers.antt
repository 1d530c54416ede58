use Rattle.std.proofs.Common.{arith, ◌∙◌}
use Rattle.op_devices.specs.PutLaws.{put_again, put_new}
use Rattle.op_devices.proofs.screens.put_on.Goals as goal

pub returns-then-k-n : goal.returns-then-k-n
returns-then-k-n c =
    c.set_shown.ensures ∙ put_again _ _ _ _ _ _ c.requires.1 c.requires.2 (omega arith)

pub returns : goal.returns
returns c =
    c.set_used.ensures ∙ rw (c.set_place.ensures, c.set_shown.ensures)
    (put_new _ _ _ _ _ _ c.requires.1 c.requires.2 (omega arith))
