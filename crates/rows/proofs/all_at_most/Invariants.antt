use Rattle.std.proofs.Common.{true, ◌≡◌}
use Rattle.model.specs.Basics.Tests.{every}
use Rattle.model.specs.Tables.Layout.{tables_of}
use Rattle.rows.specs.Rows.{place_at_most}
use Rattle.rows.proofs.all_at_most.Given as goal

abbrev pub invariant-loop-i : goal.invariant-loop-i
invariant-loop-i l = every l.i (place_at_most (tables_of l.t) l.v.0 l.a.0) ≡ true
