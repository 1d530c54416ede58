use Rattle.std.proofs.Common.{suc, take, ◌≡◌, ◌≤◌}
use Rattle.model.specs.Text.Unfinished.{ends}
use Rattle.tables_reader.proofs.line_at.Given as goal

abbrev pub invariant-loop-i : goal.invariant-loop-i
invariant-loop-i l = (l.i ≤ l.at) × (l.n ≡ suc (ends (take l.i l.s)))
