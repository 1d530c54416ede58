use Rattle.std.proofs.Common.{refl}
use Rattle.lines.specs.OntoLaws.{puts}
use Rattle.lines.proofs.putting.Output.put_line.Goals as goal

pub returns : goal.returns
returns c = record { same = refl; puts = puts c.write_line-n.ensures }
