use Rattle.std.proofs.Common.{◌≡◌}
use Rattle.model.specs.Tables.Edits.{on_entity}
use Rattle.model.specs.Tables.Layout.{tables_of}
use Rattle.op_places.specs.Stored.{blank_to}
use Rattle.op_places.proofs.filling.erase.Given as goal

abbrev pub invariant-loop-f : goal.invariant-loop-f
invariant-loop-f l = tables_of l.t ≡ on_entity l.e.0 (blank_to l.f) (tables_of l.initial.t)
