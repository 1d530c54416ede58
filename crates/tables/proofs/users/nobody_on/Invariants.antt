use Rattle.std.proofs.Common.{eqb, not, suc, true, ◌≡◌}
use Rattle.model.specs.Basics.Tests.{every}
use Rattle.model.specs.Tables.Layout.{tables_of}
use Rattle.model.specs.Tables.Words.{devices}
use Rattle.tables.proofs.users.nobody_on.Given as goal

abbrev pub invariant-loop-i : goal.invariant-loop-i
invariant-loop-i l = every l.i (λ k. not (eqb (devices (tables_of l.t) (suc k)) l.e.0)) ≡ true
