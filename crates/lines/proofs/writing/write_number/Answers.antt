use Rattle.std.proofs.Common.{◌%◌, ◌/◌, arith}
use Rattle.lines.specs.OntoLaws.{length_part}
use Rattle.lines.specs.WritingLaws.{four_long, length_more, more_room, wrote_more, wrote_one}
use Rattle.model.specs.Text.NumberLaws.{length_most, length_small}
use Rattle.lines.proofs.writing.write_number.Goals as goal

pub bounds-out-0 : goal.bounds-out-0
bounds-out-0 c = omega (arith, c.requires, length_small c.args.v c.if-v-lt10.true)

pub returns-then-v-lt10 : goal.returns-then-v-lt10
returns-then-v-lt10 c = wrote_one c.args.v c.if-v-lt10.true c.requires

pub write_middle-n-requires : goal.write_middle-n-requires
write_middle-n-requires c =
    (omega (arith, c.ranges.v), omega (arith, c.requires, length_more c.args.v c.if-v-lt10000.false (omega (arith, c.ranges.v))))

pub slice_bounds-write_four-count : goal.slice_bounds-write_four-count
slice_bounds-write_four-count c = omega (arith, more_room c.args.v c.if-v-lt10000.false (omega (arith, c.ranges.v)) c.requires c.write_middle-n.ensures)

pub slice_bounds-write_four-start : goal.slice_bounds-write_four-start
slice_bounds-write_four-start c = omega (arith, more_room c.args.v c.if-v-lt10000.false (omega (arith, c.ranges.v)) c.requires c.write_middle-n.ensures)

pub write_four-m-requires : goal.write_four-m-requires
write_four-m-requires c = (
  omega arith,
  omega (
    arith,
    more_room c.args.v c.if-v-lt10000.false (omega (arith, c.ranges.v)) c.requires c.write_middle-n.ensures,
    length_part c.write_middle-n.new.out
        c.write_middle-n.result,
  ),
)

pub overflow_add-result : goal.overflow_add-result
overflow_add-result c =
    omega (
      arith,
      c.write_middle-n.ensures.many,
      length_most (c.args.v / 10000),
      c.write_four-m.ensures.many,
      four_long
          (c.args.v % 10000),
    )

pub returns : goal.returns
returns c =
    wrote_more c.args.v c.if-v-lt10000.false (omega (arith, c.ranges.v)) c.write_middle-n.ensures
    c.write_four-m.ensures
