use Rattle.lines.specs.Adds.{Adds}
use Rattle.model.specs.Tables.Layout.{tables_of}
use Rattle.tables_text.specs.TextOf.{series}
use Rattle.record_writer.specs.FieldAt.{entity_line_at}
use Rattle.record_writer.proofs.entities.put_entity_lines.Given as goal

abbrev pub invariant-loop-j : goal.invariant-loop-j
invariant-loop-j l = Adds (series l.j 0 (entity_line_at (tables_of l.tables) l.e.0)) l.fn.out l.out
