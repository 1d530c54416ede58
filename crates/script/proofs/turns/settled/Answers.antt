use Rattle.std.proofs.Common.{refl}
use Rattle.script.proofs.turns.settled.Goals as goal

pub returns : goal.returns
returns c =
    record { turned = rw c.settle-report.ensures.reported refl; left = c.settle-report.ensures.words }
