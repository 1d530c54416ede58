use Rattle.std.proofs.Common.{◌%◌, ◌/◌, arith}
use Rattle.lines.specs.OntoLaws.{length_part}
use Rattle.lines.specs.WritingLaws.{four_long, length_more, more_room, wrote_more}
use Rattle.model.specs.Text.NumberLaws.{length_most}
use Rattle.lines.proofs.writing.write_middle.Goals as goal

pub write_short-n-requires : goal.write_short-n-requires
write_short-n-requires c = (
  omega (arith, c.requires.0),
  omega (
    arith,
    c.requires.1,
    length_more c.args.v c.if-v-lt10000.false
        (omega (arith, c.requires.0)),
  ),
)

pub slice_bounds-write_four-count : goal.slice_bounds-write_four-count
slice_bounds-write_four-count c = omega (arith, more_room c.args.v c.if-v-lt10000.false (omega (arith, c.requires.0)) c.requires.1 c.write_short-n.ensures)

pub slice_bounds-write_four-start : goal.slice_bounds-write_four-start
slice_bounds-write_four-start c = omega (arith, more_room c.args.v c.if-v-lt10000.false (omega (arith, c.requires.0)) c.requires.1 c.write_short-n.ensures)

pub write_four-m-requires : goal.write_four-m-requires
write_four-m-requires c = (
  omega arith,
  omega (
    arith,
    more_room c.args.v c.if-v-lt10000.false (omega (arith, c.requires.0)) c.requires.1 c.write_short-n.ensures,
    length_part c.write_short-n.new.out
        c.write_short-n.result,
  ),
)

pub overflow_add-result : goal.overflow_add-result
overflow_add-result c =
    omega (
      arith,
      c.write_short-n.ensures.many,
      length_most (c.args.v / 10000),
      c.write_four-m.ensures.many,
      four_long
          (c.args.v % 10000),
    )

pub returns : goal.returns
returns c =
    wrote_more c.args.v c.if-v-lt10000.false (omega (arith, c.requires.0)) c.write_short-n.ensures
    c.write_four-m.ensures
