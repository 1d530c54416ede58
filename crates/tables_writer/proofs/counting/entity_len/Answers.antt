use Rattle.std.proofs.Common.{arith, refl, sym, ◌∙◌}
use Rattle.model.specs.Tables.Layout.{tables_of}
use Rattle.model.specs.Tables.Words.{triples}
use Rattle.tables.specs.Singles.{single_count}
use Rattle.tables_text.proofs.EntityLaws.{count_most}
use Rattle.tables_text.specs.TextOf.{entity_words}
use Rattle.tables_text.proofs.ToldLaws.{entity_absent}
use Rattle.tables_writer.specs.LengthLaws.{digits_bound, entity_length, places_most, triples_most, values_most}
use Rattle.tables_writer.proofs.counting.entity_len.Goals as goal

pub returns-then-kind-eq-ABSENT : goal.returns-then-kind-eq-ABSENT
returns-then-kind-eq-ABSENT c =
    rw (entity_absent (tables_of c.args.tables.now) c.args.e.0
    (sym c.kind.ensures ∙ c.if-kind-eq-ABSENT.true)) refl

pub overflow_add-single : goal.overflow_add-single
overflow_add-single c =
    omega (
      arith,
      digits_bound _ c.number_len.ensures,
      c.entity_values.ensures,
      values_most single_count 0
          (entity_words (tables_of c.args.tables.now) c.args.e.0),
    )

pub triples_len-requires : goal.triples_len-requires
triples_len-requires c =
    (c.requires.0, rw c.triple_place-k.ensures (count_most (triples (tables_of c.args.tables.now) c.args.e.0)))

pub overflow_add-triples : goal.overflow_add-triples
overflow_add-triples c =
    omega (
      arith,
      digits_bound _ c.number_len-2.ensures,
      c.triples_len.ensures,
      c.triple_place-k.ensures,
      count_most (triples (tables_of c.args.tables.now) c.args.e.0),
      triples_most (tables_of c.args.tables.now) c.args.e.0
          c.triple_place-k.result,
    )

pub overflow_add-result : goal.overflow_add-result
overflow_add-result c =
    omega (
      arith,
      digits_bound _ c.number_len-2.ensures,
      c.triples_len.ensures,
      c.triple_place-k.ensures,
      count_most (triples (tables_of c.args.tables.now) c.args.e.0),
      triples_most (tables_of c.args.tables.now) c.args.e.0
          c.triple_place-k.result,
      c.places_len-places.ensures,
      c.used.ensures,
      c.requires.1,
      places_most
          (tables_of c.args.tables.now) c.args.e.0 c.used.result,
    )

pub overflow_add-result-2 : goal.overflow_add-result-2
overflow_add-result-2 c =
    omega (
      arith,
      digits_bound _ c.number_len-2.ensures,
      c.triples_len.ensures,
      c.triple_place-k.ensures,
      count_most (triples (tables_of c.args.tables.now) c.args.e.0),
      triples_most (tables_of c.args.tables.now) c.args.e.0
          c.triple_place-k.result,
      c.places_len-places.ensures,
      c.used.ensures,
      c.requires.1,
      places_most
          (tables_of c.args.tables.now) c.args.e.0 c.used.result,
      digits_bound _ c.number_len.ensures,
      c.entity_values.ensures,
      values_most single_count 0 (entity_words (tables_of c.args.tables.now) c.args.e.0),
    )

pub overflow_add-result-3 : goal.overflow_add-result-3
overflow_add-result-3 c =
    omega (
      arith,
      digits_bound _ c.number_len-2.ensures,
      c.triples_len.ensures,
      c.triple_place-k.ensures,
      count_most (triples (tables_of c.args.tables.now) c.args.e.0),
      triples_most (tables_of c.args.tables.now) c.args.e.0
          c.triple_place-k.result,
      c.places_len-places.ensures,
      c.used.ensures,
      c.requires.1,
      places_most
          (tables_of c.args.tables.now) c.args.e.0 c.used.result,
      digits_bound _ c.number_len.ensures,
      c.entity_values.ensures,
      values_most single_count 0 (entity_words (tables_of c.args.tables.now) c.args.e.0),
    )

pub returns : goal.returns
returns c =
    omega (
      arith,
      c.number_len.ensures,
      c.entity_values.ensures,
      rw c.used.ensures at
          c.places_len-places.ensures,
      rw c.triple_place-k.ensures at c.number_len-2.ensures,
      rw
          c.triple_place-k.ensures at c.triples_len.ensures,
      entity_length (tables_of c.args.tables.now) c.args.e.0 (λ q. c.if-kind-eq-ABSENT.false (c.kind.ensures ∙ q)),
    )
