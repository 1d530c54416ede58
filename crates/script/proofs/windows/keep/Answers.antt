use Rattle.std.proofs.Common.{refl}
use Rattle.script.specs.MoveLaws.{front_kept}
use Rattle.script.proofs.windows.keep.Goals as goal

pub returns : goal.returns
returns c = (refl, rw c.copy_within.ensures.after (front_kept _ _ _ c.requires.0 c.requires.1))
