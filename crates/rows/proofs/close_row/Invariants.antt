use Rattle.std.proofs.Common.{◌≡◌}
use Rattle.model.specs.Tables.Layout.{tables_of}
use Rattle.rows.specs.Rows.{closed_to}
use Rattle.tables.specs.Singles.{row_word}
use Rattle.rows.proofs.close_row.Given as goal

abbrev pub invariant-loop-i : goal.invariant-loop-i
invariant-loop-i l = tables_of l.t ≡ closed_to (row_word l.r) l.e.0 l.k (tables_of l.initial.t) l.i
