use Rattle.std.proofs.Common.{eqb, ◌≡◌}
use Rattle.model.specs.Tables.Layout.{tables_of}
use Rattle.model.specs.Basics.Tests.{every}
use Rattle.model.specs.Tables.Words.{spare}
use Rattle.state.proofs.users.spares_zero.Given as goal

abbrev pub invariant-loop-f : goal.invariant-loop-f
invariant-loop-f l = l.blank ≡ every l.f (λ i. eqb ((tables_of l.t).user l.u.0 (spare i)) 0)
