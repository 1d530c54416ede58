use Rattle.std.proofs.Common.{arith, refl}
use Rattle.lines.specs.PutsLaws.{puts_byte}
use Rattle.lines.proofs.putting.Output.put_byte.Goals as goal

pub returns : goal.returns
returns c = record { same = refl; puts = puts_byte _ _ _ (omega (arith, c.requires)) }
