use Rattle.std.proofs.Common.{◌/◌, arith}
use Rattle.lines.specs.WritingLaws.{length_four, length_more, length_three, length_two}
use Rattle.model.specs.Text.NumberLaws.{length_most, length_small}
use Rattle.lines.proofs.writing.+number_len.Goals as goal

pub returns-then-v-lt10 : goal.returns-then-v-lt10
returns-then-v-lt10 t c = length_small c.args.v c.if-v-lt10.true

pub returns-then-v-lt100 : goal.returns-then-v-lt100
returns-then-v-lt100 t c = length_two c.args.v c.if-v-lt10.false c.if-v-lt100.true

pub returns-then-v-lt1000 : goal.returns-then-v-lt1000
returns-then-v-lt1000 t c = length_three c.args.v c.if-v-lt100.false c.if-v-lt1000.true

pub returns-then-v-lt10000 : goal.returns-then-v-lt10000
returns-then-v-lt10000 t c = length_four c.args.v c.if-v-lt1000.false c.if-v-lt10000.true

pub overflow_add-result : goal.overflow_add-result
overflow_add-result t c = omega (arith, c.number_len.ensures, length_most (c.args.v / 10000))

pub returns : goal.returns
returns t c = rw c.number_len.ensures (length_more c.args.v c.if-v-lt10000.false (omega arith))
