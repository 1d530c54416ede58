use Rattle.std.proofs.Common.{◌-◌, drop}
use Rattle.model.specs.Tables.Layout.{tables_of}
use Rattle.model.specs.Tables.Words.{entity_count}
use Rattle.tables_text.specs.Keys.{entity_key}
use Rattle.record_reader.specs.NumberedLaws.{RecordsTo}
use Rattle.tables_text.specs.Stages.{entities_stage, entity_record}
use Rattle.record_reader.proofs.records.read_entities.Given as goal

abbrev pub invariant-loop-last : goal.invariant-loop-last
invariant-loop-last l = RecordsTo entity_key entity_record entity_count (entities_stage entity_count 1 (tables_of l.initial.t) (drop l.at l.s)) l.s l.i l.last
    l.t

abbrev pub decreases-loop-last : goal.decreases-loop-last
decreases-loop-last l = entity_count - l.last
