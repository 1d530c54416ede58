use Rattle.std.proofs.Common.{ap, arith, length, rules, tests, ◌+◌, ◌∙◌}
use Rattle.std.proofs.lemmas.Iterator.{YieldsList-from_map, YieldsList-from_range}
use Rattle.model.specs.Tables.Layout.{tables_of}
use Rattle.model.specs.Tables.Words.{entity_count}
use Rattle.tables_text.specs.TextOf.{entity_text}
use Rattle.tables_writer.specs.LengthLaws.{entities_most}
use Rattle.tables_writer.specs.SumLaws.{series_after, sum_fits, sum_is}
use Rattle.tables_writer.proofs.counting.entities_len.Goals as goal

pub sum-requires-clause-fits : goal.sum-requires-clause-fits
sum-requires-clause-fits c =
    sum_fits entity_count 0 (λ j. entity_text (tables_of c.args.tables.now) (j + 1)) c.map.result
    (YieldsList-from_map _ (λ j. length (entity_text (tables_of c.args.tables.now) (j + 1)))
    (YieldsList-from_range 0 entity_count entity_count c.map.ensures.source (omega arith))
    c.map.ensures.closure (λ x r q k. search (rules, tests)))
    (rw (series_after entity_count 0 (entity_text (tables_of c.args.tables.now)))
    (omega (arith, entities_most (tables_of c.args.tables.now) entity_count c.requires.room)))

pub returns : goal.returns
returns c =
    sum_is entity_count 0 (λ j. entity_text (tables_of c.args.tables.now) (j + 1)) c.map.result
    (YieldsList-from_map _ (λ j. length (entity_text (tables_of c.args.tables.now) (j + 1)))
    (YieldsList-from_range 0 entity_count entity_count c.map.ensures.source (omega arith))
    c.map.ensures.closure (λ x r q k. search (rules, tests)))
    c.sum.ensures.ran
    ∙ ap length (series_after entity_count 0 (entity_text (tables_of c.args.tables.now)))
