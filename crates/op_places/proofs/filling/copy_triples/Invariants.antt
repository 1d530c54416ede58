use Rattle.std.proofs.Common.{◌≡◌}
use Rattle.model.specs.Tables.Layout.{tables_of}
use Rattle.op_places.specs.Stored.{copied_to}
use Rattle.op_places.proofs.filling.copy_triples.Given as goal

abbrev pub invariant-loop-i : goal.invariant-loop-i
invariant-loop-i l = tables_of l.t ≡ copied_to l.e.0 l.c.0 (tables_of l.initial.t) l.i
