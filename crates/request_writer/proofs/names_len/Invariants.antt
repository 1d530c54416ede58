use Rattle.std.proofs.Common.{length, take, ◌≡◌}
use Rattle.model.specs.Text.References.{dotted}
use Rattle.request_writer.proofs.names_len.Given as goal

abbrev pub invariant-loop-name : goal.invariant-loop-name
invariant-loop-name l = l.n ≡ length (dotted (take l.name-index l.names))
