use Rattle.std.proofs.Common.{arith, ◌≡◌}
use Rattle.model.specs.Tables.Layout.{tables_of}
use Rattle.record_writer.specs.SeriesLaws.{series_adds, series_room, series_start}
use Rattle.tables_text.specs.TextOf.{place_at}
use Rattle.record_writer.proofs.entities.put_places.Goals as goal

pub loop-k-init : goal.loop-k-init
loop-k-init c = series_start 0 _ _

pub place-requires : goal.place-requires
place-requires c = (c.requires.0, omega (arith, c.requires.1))

pub shown-requires : goal.shown-requires
shown-requires c = (c.requires.0, omega (arith, c.requires.1))

pub put_place-requires : goal.put_place-requires
put_place-requires c =
    rw (c.place.ensures, c.shown.ensures) (series_room c.args.n c.loop-k.k 0
    (place_at (tables_of c.args.tables.now) c.args.e.0) (omega arith) c.loop-k-test.true c.requires.2
    c.loop-k.invariant)

pub loop-k-preserved : goal.loop-k-preserved
loop-k-preserved c =
    series_adds c.loop-k.k 0 (place_at (tables_of c.args.tables.now) c.args.e.0) (omega arith)
    (omega (arith, c.requires.2)) c.loop-k.invariant (rw (c.place.ensures, c.shown.ensures) at
    c.put_place.ensures)

pub returns : goal.returns
returns c = let q : c.loop-k.k ≡ c.args.n = omega arith in rw q at c.loop-k.invariant
