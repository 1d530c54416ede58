use Rattle.std.proofs.Common.{◌*◌, ◌+◌, ◌≤◌}
use Rattle.disclosure.specs.Tallied.{Tallied, row_words}
use Rattle.model.specs.Tables.Words.{entity_count}
use Rattle.disclosure.proofs.tally.tally_row.Given as goal

abbrev pub invariant-loop-i : goal.invariant-loop-i
invariant-loop-i l = (l.i ≤ entity_count) × Tallied l.t l.v (l.k * row_words + (l.i + 1)) l.b
