use Rattle.std.proofs.Common.{arith, refl, sym, ◌∙◌}
use Rattle.model.specs.Tables.Layout.{tables_of}
use Rattle.tables_text.specs.TextOf.{user_words}
use Rattle.tables_text.proofs.ToldLaws.{user_absent_lem}
use Rattle.record_writer.specs.FieldAt.{user_field_count}
use Rattle.tables_writer.specs.LengthLaws.{digits_bound, user_length, values_most}
use Rattle.tables_writer.proofs.counting.user_len.Goals as goal

pub returns-then-present-eq0 : goal.returns-then-present-eq0
returns-then-present-eq0 c =
    rw (user_absent_lem (tables_of c.args.tables.now) c.args.u.0
    (sym c.present.ensures ∙ c.if-present-eq0.true)) refl

pub overflow_add-result : goal.overflow_add-result
overflow_add-result c =
    omega (
      arith,
      digits_bound _ c.number_len.ensures,
      c.user_values.ensures,
      values_most user_field_count 1
          (user_words (tables_of c.args.tables.now) c.args.u.0),
    )

pub overflow_add-result-2 : goal.overflow_add-result-2
overflow_add-result-2 c =
    omega (
      arith,
      digits_bound _ c.number_len.ensures,
      c.user_values.ensures,
      values_most user_field_count 1
          (user_words (tables_of c.args.tables.now) c.args.u.0),
    )

pub returns : goal.returns
returns c =
    omega (
      arith,
      c.number_len.ensures,
      c.user_values.ensures,
      user_length (tables_of c.args.tables.now) c.args.u.0 (λ q. c.if-present-eq0.false
          (c.present.ensures ∙ q)),
    )
