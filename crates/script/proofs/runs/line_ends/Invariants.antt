use Rattle.std.proofs.Common.{◌+◌, ◌-◌, drop, length, ◌≡◌, ◌≤◌}
use Rattle.model.specs.Text.Unfinished.{ends}
use Rattle.script.proofs.runs.line_ends.Given as goal

abbrev pub invariant-loop-i : goal.invariant-loop-i
invariant-loop-i l = (l.i ≤ length l.s) × (l.n + ends (drop l.i l.s) ≡ ends (drop l.at l.s)) × (l.n ≤ l.i)

abbrev pub decreases-loop-i : goal.decreases-loop-i
decreases-loop-i l = length l.s - l.i
