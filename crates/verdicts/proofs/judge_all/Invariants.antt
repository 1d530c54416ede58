use Rattle.std.proofs.Common.{◌≤◌}
use Rattle.verdicts.specs.Verdicts.{Judged}
use Rattle.model.specs.Tables.Layout.{tables_of}
use Rattle.model.specs.Tables.Words.{entity_count}
use Rattle.verdicts.proofs.judge_all.Given as goal

abbrev pub invariant-loop-i : goal.invariant-loop-i
invariant-loop-i l = (l.i ≤ entity_count) × Judged (tables_of l.t) l.u.0 l.i l.v
