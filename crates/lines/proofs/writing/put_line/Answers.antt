use Rattle.lines.specs.OntoLaws.{puts}
use Rattle.lines.proofs.writing.put_line.Goals as goal

pub returns : goal.returns
returns c = puts c.write_line-n.ensures
