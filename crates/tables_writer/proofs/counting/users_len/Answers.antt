use Rattle.std.proofs.Common.{ap, arith, length, rules, tests, ◌+◌, ◌∙◌}
use Rattle.std.proofs.lemmas.Iterator.{YieldsList-from_map, YieldsList-from_range}
use Rattle.model.specs.Tables.Layout.{tables_of}
use Rattle.model.specs.Tables.Words.{user_count}
use Rattle.tables_text.specs.TextOf.{user_text}
use Rattle.tables_writer.specs.LengthLaws.{users_most}
use Rattle.tables_writer.specs.SumLaws.{series_after, sum_fits, sum_is}
use Rattle.tables_writer.proofs.counting.users_len.Goals as goal

pub sum-requires-clause-fits : goal.sum-requires-clause-fits
sum-requires-clause-fits c =
    sum_fits user_count 0 (λ j. user_text (tables_of c.args.tables.now) (j + 1)) c.map.result
    (YieldsList-from_map _ (λ j. length (user_text (tables_of c.args.tables.now) (j + 1)))
    (YieldsList-from_range 0 user_count user_count c.map.ensures.source (omega arith))
    c.map.ensures.closure (λ x r q k. search (rules, tests)))
    (rw (series_after user_count 0 (user_text (tables_of c.args.tables.now))) (omega (arith, users_most (tables_of c.args.tables.now) user_count)))

pub returns : goal.returns
returns c =
    sum_is user_count 0 (λ j. user_text (tables_of c.args.tables.now) (j + 1)) c.map.result
    (YieldsList-from_map _ (λ j. length (user_text (tables_of c.args.tables.now) (j + 1)))
    (YieldsList-from_range 0 user_count user_count c.map.ensures.source (omega arith))
    c.map.ensures.closure (λ x r q k. search (rules, tests)))
    c.sum.ensures.ran
    ∙ ap length (series_after user_count 0 (user_text (tables_of c.args.tables.now)))
