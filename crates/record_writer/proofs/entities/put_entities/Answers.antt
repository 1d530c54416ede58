use Rattle.std.proofs.Common.{◌+◌, arith, ◌≡◌}
use Rattle.model.specs.Tables.Layout.{tables_of}
use Rattle.record_writer.specs.SeriesLaws.{series_adds, series_room, series_start}
use Rattle.model.specs.Tables.Words.{entity_count}
use Rattle.tables_text.specs.TextOf.{entity_text}
use Rattle.record_writer.proofs.entities.put_entities.Goals as goal

pub loop-k-init : goal.loop-k-init
loop-k-init c = series_start 1 _ _

pub put_entity-requires : goal.put_entity-requires
put_entity-requires c = (
  (c.requires.0.long, omega arith, omega arith),
  c.requires.0.room (c.loop-k.k + 1),
  series_room entity_count
      c.loop-k.k 1 (entity_text (tables_of c.args.tables.now)) (omega arith) c.loop-k-test.true c.requires.1
      c.loop-k.invariant,
)

pub loop-k-preserved : goal.loop-k-preserved
loop-k-preserved c =
    series_adds c.loop-k.k 1 (entity_text (tables_of c.args.tables.now)) (omega arith) (omega (arith, c.requires.1))
    c.loop-k.invariant c.put_entity.ensures

pub returns : goal.returns
returns c = let q : c.loop-k.k ≡ entity_count = omega arith in rw q at c.loop-k.invariant
