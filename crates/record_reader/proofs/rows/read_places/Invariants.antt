use Rattle.std.proofs.Common.{drop}
use Rattle.model.specs.Tables.Layout.{tables_of}
use Rattle.record_reader.specs.RecordLaws.{PlacesTo}
use Rattle.tables_text.specs.Stages.{places_stage}
use Rattle.record_reader.proofs.rows.read_places.Given as goal

abbrev pub invariant-loop-k : goal.invariant-loop-k
invariant-loop-k l = PlacesTo (places_stage l.e.0 l.n 0 (tables_of l.initial.t) (drop l.at l.s)) l.e.0 l.n l.s l.i l.k l.t
