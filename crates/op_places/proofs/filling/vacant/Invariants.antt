use Rattle.std.proofs.Common.{◌<◌, suc, ℕ, ◌≢◌}
use Rattle.model.specs.Tables.Layout.{tables_of}
use Rattle.model.specs.Tables.Words.{kinds}
use Rattle.op_places.proofs.filling.vacant.Given as goal

abbrev pub invariant-loop-i : goal.invariant-loop-i
invariant-loop-i l = (j : ℕ) → j < l.i → kinds (tables_of l.t) (suc j) ≢ 0
