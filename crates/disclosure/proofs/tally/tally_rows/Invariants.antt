use Rattle.std.proofs.Common.{◌*◌, ◌≤◌}
use Rattle.disclosure.specs.Tallied.{Tallied, row_words}
use Rattle.model.specs.Request.Words.{name_count}
use Rattle.disclosure.proofs.tally.tally_rows.Given as goal

abbrev pub invariant-loop-k : goal.invariant-loop-k
invariant-loop-k l = (l.k ≤ name_count) × Tallied l.t l.v (l.k * row_words) l.b
