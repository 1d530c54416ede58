use Rattle.std.proofs.Common.{◌*◌, ◌+◌, ◌<◌, arith, ◌≤◌}
use Rattle.model.specs.Request.Words.{request_of}
use Rattle.model.proofs.Text.GivenLaws.{names_few}
use Rattle.model.specs.Text.Numbers.{digit_count}
use Rattle.model.specs.Text.Wording.{wording_of}
use Rattle.request_writer.specs.NameLaws.{dotted_most}
use Rattle.request_writer.specs.NeedLaws.{digits_bound, names_bound, need_values}
use Rattle.request_writer.proofs.need.Goals.{After-names_len-2, After-number_len-5}
use Rattle.request_writer.proofs.need.Goals as goal

-- how long the names can be at most
names-most : (c : After-names_len-2) → c.names_len.result + c.names_len-2.result < 2 * dotted_most
names-most c =
    omega (
      arith,
      names_bound _ c.names_len.ensures c.first_names.ensures c.requires.first,
      names_bound
          _ c.names_len-2.ensures c.second_names.ensures c.requires.second,
    )

-- how long the numbers can be at most
first-most : (c : After-number_len-5) → c.number_len.result
    + c.number_len-2.result ≤ 2 * digit_count
first-most c =
    omega (arith, digits_bound _ c.number_len.ensures, digits_bound _ c.number_len-2.ensures)

last-most : (c : After-number_len-5) → c.number_len-3.result
    + (c.number_len-4.result + c.number_len-5.result) ≤ 3 * digit_count
last-most c =
    omega (
      arith,
      digits_bound _ c.number_len-3.ensures,
      digits_bound _ c.number_len-4.ensures,
      digits_bound _
          c.number_len-5.ensures,
    )

pub names_len-requires : goal.names_len-requires
names_len-requires c = rw c.first_names.ensures (names_few _ c.requires.first)

pub names_len-requires-2 : goal.names_len-requires-2
names_len-requires-2 c = rw c.second_names.ensures (names_few _ c.requires.second)

pub overflow_add-names : goal.overflow_add-names
overflow_add-names c = omega (arith, names-most c)

pub overflow_add-first : goal.overflow_add-first
overflow_add-first c = omega (arith, digits_bound _ c.number_len.ensures, digits_bound _ c.number_len-2.ensures)

pub overflow_add-last : goal.overflow_add-last
overflow_add-last c = omega (arith, digits_bound _ c.number_len-4.ensures, digits_bound _ c.number_len-5.ensures)

pub overflow_add-last-2 : goal.overflow_add-last-2
overflow_add-last-2 c = omega (arith, last-most c)

pub overflow_add-result : goal.overflow_add-result
overflow_add-result c = omega (arith, last-most c, first-most c)

pub overflow_add-result-2 : goal.overflow_add-result-2
overflow_add-result-2 c =
    omega (arith, last-most c, first-most c, names-most (goal.at.overflow_add-result-2 c).After-names_len-2)

pub overflow_add-result-3 : goal.overflow_add-result-3
overflow_add-result-3 c =
    omega (arith, last-most c, first-most c, names-most (goal.at.overflow_add-result-3 c).After-names_len-2)

pub returns : goal.returns
returns c =
    omega (
      arith,
      rw c.first_names.ensures at c.names_len.ensures,
      rw c.second_names.ensures at c.names_len-2.ensures,
      rw c.requester.ensures at c.number_len.ensures,
      rw c.operation.ensures at c.number_len-2.ensures,
      rw c.a.ensures
          at c.number_len-3.ensures,
      rw c.b.ensures at c.number_len-4.ensures,
      rw
          c.c.ensures at c.number_len-5.ensures,
      need_values (wording_of (request_of c.args.words.now)),
    )
