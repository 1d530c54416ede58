use Rattle.std.proofs.Common.{arith}
use Rattle.lines.specs.OntoLaws.{length_part}
use Rattle.lines.specs.WritingLaws.{line_wrote}
use Rattle.model.specs.Text.LineLaws.{length_line}
use Rattle.model.specs.Text.Numbers.{digits}
use Rattle.lines.proofs.writing.write_line.Goals as goal

pub write_bytes-k-requires : goal.write_bytes-k-requires
write_bytes-k-requires c =
    omega (arith, c.requires, length_line c.args.key.now (digits c.args.v))

pub slice_bounds-write_number-count : goal.slice_bounds-write_number-count
slice_bounds-write_number-count c =
    omega (
      arith,
      c.requires,
      c.write_bytes-k.ensures.many,
      c.write_bytes-k.auto.out,
      length_line
          c.args.key.now (digits c.args.v),
    )

pub slice_bounds-write_number-start : goal.slice_bounds-write_number-start
slice_bounds-write_number-start c =
    omega (arith, c.requires, c.write_bytes-k.ensures.many, c.write_bytes-k.auto.out, length_line c.args.key.now (digits c.args.v))

pub write_number-n-requires : goal.write_number-n-requires
write_number-n-requires c =
    omega (
      arith,
      c.requires,
      c.write_bytes-k.ensures.many,
      c.write_bytes-k.auto.out,
      length_line c.args.key.now (digits c.args.v),
      length_part
          c.write_bytes-k.new.out c.write_bytes-k.result,
    )

pub overflow_add-end : goal.overflow_add-end
overflow_add-end c = omega (arith, (line_wrote c.requires c.write_bytes-k.ensures c.write_number-n.ensures).room)

pub bounds-out-end : goal.bounds-out-end
bounds-out-end c = omega (
  arith,
  (line_wrote c.requires c.write_bytes-k.ensures c.write_number-n.ensures).room,
  (line_wrote c.requires c.write_bytes-k.ensures c.write_number-n.ensures).whole,
)

pub overflow_add-result : goal.overflow_add-result
overflow_add-result c = omega (arith, (line_wrote c.requires c.write_bytes-k.ensures c.write_number-n.ensures).room)

pub returns : goal.returns
returns c = (line_wrote c.requires c.write_bytes-k.ensures c.write_number-n.ensures).line_is
