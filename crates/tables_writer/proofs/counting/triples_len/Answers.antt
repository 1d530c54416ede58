use Rattle.std.proofs.Common.{arith, length, rules, tests}
use Rattle.std.proofs.lemmas.Iterator.{YieldsList-from_map, YieldsList-from_range}
use Rattle.model.specs.Tables.Layout.{tables_of}
use Rattle.tables_text.specs.TextOf.{triple_at}
use Rattle.tables_writer.specs.LengthLaws.{triples_most}
use Rattle.tables_writer.specs.SumLaws.{sum_fits, sum_is}
use Rattle.tables_writer.proofs.counting.triples_len.Goals as goal

pub sum-requires-clause-fits : goal.sum-requires-clause-fits
sum-requires-clause-fits c =
    sum_fits c.args.k 0 (triple_at (tables_of c.args.tables.now) c.args.e.0) c.map.result
    (YieldsList-from_map _ (λ j. length ((triple_at (tables_of c.args.tables.now) c.args.e.0) j))
    (YieldsList-from_range 0 c.args.k c.args.k c.map.ensures.source (omega arith))
    c.map.ensures.closure (λ x r q k. search (rules, tests)))
    (omega (arith, c.requires.1, triples_most (tables_of c.args.tables.now) c.args.e.0 c.args.k))

pub returns : goal.returns
returns c =
    sum_is c.args.k 0 (triple_at (tables_of c.args.tables.now) c.args.e.0) c.map.result
    (YieldsList-from_map _ (λ j. length ((triple_at (tables_of c.args.tables.now) c.args.e.0) j))
    (YieldsList-from_range 0 c.args.k c.args.k c.map.ensures.source (omega arith))
    c.map.ensures.closure (λ x r q k. search (rules, tests)))
    c.sum.ensures.ran
