use Rattle.lines.specs.Adds.{Adds}
use Rattle.model.specs.Tables.Layout.{tables_of}
use Rattle.tables_text.specs.TextOf.{entity_text, series}
use Rattle.record_writer.proofs.entities.put_entities.Given as goal

abbrev pub invariant-loop-k : goal.invariant-loop-k
invariant-loop-k l = Adds (series l.k 1 (entity_text (tables_of l.tables))) l.fn.out l.out
