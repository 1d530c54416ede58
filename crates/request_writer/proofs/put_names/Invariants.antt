use Rattle.std.proofs.Common.{◌+◌, take}
use Rattle.lines.specs.Adds.{Adds}
use Rattle.model.specs.Text.References.{joined}
use Rattle.request_writer.proofs.put_names.Given as goal

-- the first name and as many of the others are written
abbrev pub invariant-loop-name : goal.invariant-loop-name
invariant-loop-name l = Adds (joined (take (l.name-index + 1) l.names)) l.fn.out l.out
