use Rattle.std.proofs.Common.{arith, ◌≡◌}
use Rattle.model.specs.Tables.Layout.{tables_of}
use Rattle.record_writer.specs.SeriesLaws.{series_adds, series_room, series_start}
use Rattle.tables_text.specs.TextOf.{triple_at}
use Rattle.record_writer.proofs.entities.put_triples.Goals as goal

pub loop-k-init : goal.loop-k-init
loop-k-init c = series_start 0 _ _

pub triple-requires : goal.triple-requires
triple-requires c = (c.requires.0, omega (arith, c.requires.1))

pub put_triple-requires : goal.put_triple-requires
put_triple-requires c =
    rw c.triple.ensures (series_room c.args.n c.loop-k.k 0
    (triple_at (tables_of c.args.tables.now) c.args.e.0) (omega arith) c.loop-k-test.true c.requires.2
    c.loop-k.invariant)

pub loop-k-preserved : goal.loop-k-preserved
loop-k-preserved c =
    series_adds c.loop-k.k 0 (triple_at (tables_of c.args.tables.now) c.args.e.0) (omega arith)
    (omega (arith, c.requires.2)) c.loop-k.invariant (rw c.triple.ensures at c.put_triple.ensures)

pub returns : goal.returns
returns c = let q : c.loop-k.k ≡ c.args.n = omega arith in rw q at c.loop-k.invariant
