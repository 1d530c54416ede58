use Rattle.std.proofs.Common.{drop, ◌≡◌, ◌≤◌}
use Rattle.model.specs.Text.Numbers.{more, most}
use Rattle.lines.proofs.reading.read_digits.Given as goal

abbrev pub invariant-loop-i : goal.invariant-loop-i
invariant-loop-i l = record {
  fits : l.v ≤ most;
  so_far : more l.begun (drop l.at l.s) ≡ more l.v (drop l.i l.s);
}
