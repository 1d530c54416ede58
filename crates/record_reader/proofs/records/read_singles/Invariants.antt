use Rattle.std.proofs.Common.{drop}
use Rattle.model.specs.Tables.Layout.{tables_of}
use Rattle.record_reader.specs.RecordLaws.{EntityTo}
use Rattle.tables_text.specs.Keys.{single_fields}
use Rattle.tables_text.specs.Stages.{entity_stage}
use Rattle.record_reader.proofs.records.read_singles.Given as goal

abbrev pub invariant-loop-j : goal.invariant-loop-j
invariant-loop-j l = EntityTo (entity_stage l.e.0 single_fields 0 (tables_of l.initial.t) (drop l.at l.s)) l.e.0 l.s l.i l.j l.t
