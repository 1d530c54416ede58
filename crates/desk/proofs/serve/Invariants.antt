use Rattle.std.proofs.Common.{true, ◌≡◌, ◌<◌, ◌≤◌, length}
use Rattle.model.specs.State.Check.{check}
use Rattle.names.specs.Refusals.{answer_number}
use Rattle.desk.proofs.serve.Given as goal

abbrev pub invariant-loop : goal.invariant-loop
invariant-loop g l = (l.len ≤ length l.window) × (l.wanted ≡ true → l.len < length l.window) × (answer_number l.c ≡ check l.tables)
