use Rattle.std.proofs.Common.{length, take, ◌≡◌}
use Rattle.lines.specs.Onto.{onto}
use Rattle.lines.proofs.writing.write_bytes.Given as goal

abbrev pub invariant-loop-i : goal.invariant-loop-i
invariant-loop-i l = (length l.out ≡ length l.initial.out) × (l.out ≡ onto (take l.i l.src) l.initial.out)
