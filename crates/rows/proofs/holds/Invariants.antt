use Rattle.std.proofs.Common.{ltb, ◌≡◌}
use Rattle.model.specs.Tables.Layout.{tables_of}
use Rattle.model.specs.Tables.Rows.{seek}
use Rattle.model.specs.Tables.Words.{places}
use Rattle.rows.proofs.holds.Given as goal

abbrev pub invariant-loop-i : goal.invariant-loop-i
invariant-loop-i l = l.found ≡ ltb (seek l.e.0 (places (tables_of l.t) l.v.0) l.i) l.i
