use Rattle.std.proofs.Common.{suc, true, ◌≡◌}
use Rattle.model.specs.Basics.Tests.{every}
use Rattle.model.specs.Tables.Layout.{tables_of}
use Rattle.op_entities.specs.Held.{screen_admits}
use Rattle.op_entities.proofs.trial.screens_admit.Given as goal

abbrev pub invariant-loop-i : goal.invariant-loop-i
invariant-loop-i l = every l.i (λ u. screen_admits (tables_of l.t) l.e.0 l.a.0 (suc u)) ≡ true
