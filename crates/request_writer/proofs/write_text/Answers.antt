use Rattle.std.proofs.Common.{arith, rules}
use Rattle.lines.specs.PutsLaws.{puts_wrote_front}
use Rattle.request_writer.proofs.write_text.Goals as goal

pub put_text-requires : goal.put_text-requires
put_text-requires c = (c.requires.0, omega (arith, c.requires.1))

pub returns : goal.returns
returns c = search (rules, puts_wrote_front)
