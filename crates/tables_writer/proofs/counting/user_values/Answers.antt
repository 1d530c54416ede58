use Rattle.std.proofs.Common.{arith, length, rules, tests}
use Rattle.std.proofs.lemmas.Iterator.{YieldsList-from_map, YieldsList-from_range}
use Rattle.model.specs.Tables.Layout.{tables_of}
use Rattle.record_writer.specs.FieldAt.{digits_at, user_field_count}
use Rattle.tables.specs.Singles.{single_count}
use Rattle.tables_text.specs.TextOf.{user_words}
use Rattle.tables_writer.specs.LengthLaws.{values_most}
use Rattle.tables_writer.specs.SumLaws.{sum_fits, sum_is}
use Rattle.tables_writer.proofs.counting.user_values.Goals as goal

pub sum-requires-clause-fits : goal.sum-requires-clause-fits
sum-requires-clause-fits c =
    sum_fits user_field_count 1 (digits_at (user_words (tables_of c.args.tables.now) c.args.u.0)) c.map.result
    (YieldsList-from_map _ (λ j. length ((digits_at (user_words (tables_of c.args.tables.now) c.args.u.0)) j))
    (YieldsList-from_range 1 single_count user_field_count c.map.ensures.source (omega arith))
    c.map.ensures.closure (λ x r q k. search (rules, tests)))
    (omega (arith, values_most user_field_count 1 (user_words (tables_of c.args.tables.now) c.args.u.0)))

pub returns : goal.returns
returns c =
    sum_is user_field_count 1 (digits_at (user_words (tables_of c.args.tables.now) c.args.u.0)) c.map.result
    (YieldsList-from_map _ (λ j. length ((digits_at (user_words (tables_of c.args.tables.now) c.args.u.0)) j))
    (YieldsList-from_range 1 single_count user_field_count c.map.ensures.source (omega arith))
    c.map.ensures.closure (λ x r q k. search (rules, tests)))
    c.sum.ensures.ran
