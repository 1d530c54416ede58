use Rattle.std.proofs.Common.{◌+◌, drop, ◌≡◌}
use Rattle.model.specs.Basics.Choice.{pick}
use Rattle.model.specs.Text.Lines.{behind}
use Rattle.model.specs.Text.Numbers.{bad}
use Rattle.lines.proofs.reading.read_key.Given as goal

abbrev pub invariant-loop-i : goal.invariant-loop-i
invariant-loop-i l = behind l.key (drop l.at l.s) ≡ pick l.same (behind (drop l.i l.key) (drop (l.at + l.i) l.s)) bad
