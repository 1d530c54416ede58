use Rattle.std.proofs.Common.{arith}
use Rattle.model.specs.Tables.Layout.{tables_of}
use Rattle.model.specs.Tables.Words.{places, sums}
use Rattle.record_writer.specs.LineLaws.{place_length}
use Rattle.tables_writer.specs.LengthLaws.{digits_bound}
use Rattle.tables_writer.proofs.counting.place_len.Goals as goal

pub overflow_add-result : goal.overflow_add-result
overflow_add-result c = omega (arith, digits_bound _ c.number_len-standing.ensures, digits_bound _ c.number_len-sum.ensures)

pub overflow_add-result-2 : goal.overflow_add-result-2
overflow_add-result-2 c = omega (arith, digits_bound _ c.number_len-standing.ensures, digits_bound _ c.number_len-sum.ensures)

pub returns : goal.returns
returns c =
    omega (
      arith,
      rw c.place.ensures at c.number_len-standing.ensures,
      rw c.shown.ensures at c.number_len-sum.ensures,
      place_length (places (tables_of c.args.tables.now) c.args.e.0 c.args.i) (sums (tables_of c.args.tables.now) c.args.e.0 c.args.i),
    )
