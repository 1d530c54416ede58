use Rattle.std.proofs.Common.{arith}
use Rattle.tables_writer.specs.LengthLaws.{digits_bound}
use Rattle.record_writer.specs.LineLaws.{triple_length}
use Rattle.tables_writer.proofs.counting.triple_len.Goals as goal

pub overflow_add-result : goal.overflow_add-result
overflow_add-result c =
    omega (
      arith,
      digits_bound _ c.number_len-who.ensures,
      digits_bound _ c.number_len-operation.ensures,
      digits_bound _
          c.number_len-position.ensures,
    )

pub overflow_add-result-2 : goal.overflow_add-result-2
overflow_add-result-2 c =
    omega (
      arith,
      digits_bound _ c.number_len-who.ensures,
      digits_bound _ c.number_len-operation.ensures,
      digits_bound _
          c.number_len-position.ensures,
    )

pub overflow_add-result-3 : goal.overflow_add-result-3
overflow_add-result-3 c =
    omega (
      arith,
      digits_bound _ c.number_len-who.ensures,
      digits_bound _ c.number_len-operation.ensures,
      digits_bound _
          c.number_len-position.ensures,
    )

pub returns : goal.returns
returns c =
    omega (
      arith,
      c.number_len-who.ensures,
      c.number_len-operation.ensures,
      c.number_len-position.ensures,
      triple_length
          c.args.x,
    )
