use Rattle.std.proofs.Common.{arith, length-set}
use Rattle.lines.specs.WritingLaws.{digits_four, length_four, length_three, length_two, wrote_one, wrote_three, wrote_two}
use Rattle.model.specs.Text.NumberLaws.{length_small}
use Rattle.lines.proofs.writing.write_short.Goals as goal

pub bounds-out-0 : goal.bounds-out-0
bounds-out-0 c = omega (arith, c.requires.1, length_small c.args.v c.if-v-lt10.true)

pub returns-then-v-lt10 : goal.returns-then-v-lt10
returns-then-v-lt10 c = wrote_one c.args.v c.if-v-lt10.true c.requires.1

pub bounds-out-0-then-v-lt100 : goal.bounds-out-0-then-v-lt100
bounds-out-0-then-v-lt100 c =
    omega (arith, c.requires.1, length_two c.args.v c.if-v-lt10.false c.if-v-lt100.true)

pub bounds-out-1 : goal.bounds-out-1
bounds-out-1 c =
    simp length-set (omega (arith, c.requires.1, length_two c.args.v c.if-v-lt10.false c.if-v-lt100.true))

pub returns-then-v-lt100 : goal.returns-then-v-lt100
returns-then-v-lt100 c = wrote_two c.args.v c.if-v-lt10.false c.if-v-lt100.true c.requires.1

pub bounds-out-0-then-v-lt1000 : goal.bounds-out-0-then-v-lt1000
bounds-out-0-then-v-lt1000 c =
    omega (arith, c.requires.1, length_three c.args.v c.if-v-lt100.false c.if-v-lt1000.true)

pub bounds-out-1-then-v-lt1000 : goal.bounds-out-1-then-v-lt1000
bounds-out-1-then-v-lt1000 c =
    simp length-set (omega (arith, c.requires.1, length_three c.args.v c.if-v-lt100.false c.if-v-lt1000.true))

pub bounds-out-2 : goal.bounds-out-2
bounds-out-2 c =
    simp length-set (omega (arith, c.requires.1, length_three c.args.v c.if-v-lt100.false c.if-v-lt1000.true))

pub returns-then-v-lt1000 : goal.returns-then-v-lt1000
returns-then-v-lt1000 c = wrote_three c.args.v c.if-v-lt100.false c.if-v-lt1000.true c.requires.1

pub write_four-requires : goal.write_four-requires
write_four-requires c =
    (c.requires.0, omega (arith, c.requires.1, length_four c.args.v c.if-v-lt1000.false c.requires.0))

pub returns : goal.returns
returns c =
    rw (digits_four c.args.v c.if-v-lt1000.false c.requires.0) c.write_four.ensures
