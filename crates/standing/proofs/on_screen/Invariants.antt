use Rattle.std.proofs.Common.{not, suc, true, ◌≡◌}
use Rattle.model.specs.Basics.Tests.{every}
use Rattle.model.specs.Tables.Layout.{tables_of}
use Rattle.standing.specs.Standing.{seeing}
use Rattle.standing.proofs.on_screen.Given as goal

abbrev pub invariant-loop-i : goal.invariant-loop-i
invariant-loop-i l = every l.i (λ u. not (seeing (tables_of l.t) l.e.0 (suc u))) ≡ true
