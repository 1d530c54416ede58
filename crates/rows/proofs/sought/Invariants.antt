use Rattle.std.proofs.Common.{◌<◌, ℕ, ◌≢◌}
use Rattle.model.specs.Tables.Layout.{tables_of}
use Rattle.rows.specs.Rows.{row_in}
use Rattle.tables.specs.Singles.{row_word}
use Rattle.rows.proofs.sought.Given as goal

abbrev pub invariant-loop-i : goal.invariant-loop-i
invariant-loop-i l = (j : ℕ) → j < l.i → row_in (row_word l.r) (tables_of l.t) l.e.0 j ≢ l.x
