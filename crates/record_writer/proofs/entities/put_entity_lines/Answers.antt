use Rattle.std.proofs.Common.{arith, ◌≡◌}
use Rattle.model.specs.Tables.Layout.{tables_of}
use Rattle.record_writer.specs.SeriesLaws.{series_adds, series_room, series_start}
use Rattle.tables.specs.Singles.{single_count}
use Rattle.record_writer.specs.FieldAt.{entity_line_at}
use Rattle.record_writer.specs.LineLaws.{entity_fields_lem}
use Rattle.record_writer.proofs.entities.put_entity_lines.Goals as goal

pub loop-j-init : goal.loop-j-init
loop-j-init c = series_start 0 _ _

pub word_at-requires : goal.word_at-requires
word_at-requires c = (c.requires.0, omega arith)

pub put_entity_line-requires : goal.put_entity_line-requires
put_entity_line-requires c = (
  c.loop-j-test.true,
  rw c.word_at.ensures (series_room single_count c.loop-j.j 0
      (entity_line_at (tables_of c.args.tables.now) c.args.e.0) (omega arith) c.loop-j-test.true
      (rw (entity_fields_lem (tables_of c.args.tables.now) c.args.e.0) at c.requires.1) c.loop-j.invariant),
)

pub loop-j-preserved : goal.loop-j-preserved
loop-j-preserved c =
    series_adds c.loop-j.j 0 (entity_line_at (tables_of c.args.tables.now) c.args.e.0) (omega arith)
    (omega (arith, c.requires.1)) c.loop-j.invariant (rw c.word_at.ensures at
    c.put_entity_line.ensures)

pub returns : goal.returns
returns c =
    let e : c.loop-j.j ≡ single_count = omega arith in
    rw (entity_fields_lem (tables_of c.args.tables.now) c.args.e.0) (rw e at c.loop-j.invariant)
