use Rattle.std.proofs.Common.{◌*◌, ◌+◌, ◌-◌, ◌≤◌}
use Rattle.model.specs.Tables.Layout.{tables_of}
use Rattle.model.specs.Tables.Words.{place_count}
use Rattle.state.specs.Holders.{Noted}
use Rattle.state.proofs.tree.note_row.Given as goal

abbrev pub invariant-loop-i : goal.invariant-loop-i
invariant-loop-i l = (l.n ≤ place_count) × Noted (tables_of l.t) ((l.c.0 - 1) * place_count + l.i) l.h
