use Rattle.std.proofs.Common.{arith, get_or, rules}
use Rattle.script.specs.EndsLaws.{ends_line_one, ends_more, ends_none}
use Rattle.script.proofs.runs.line_ends.Goals as goal

pub loop-i-init : goal.loop-i-init
loop-i-init c = (c.requires, omega arith, omega arith)

pub overflow_add-n : goal.overflow_add-n
overflow_add-n c =
    let l = ends_line_one (get_or c.args.s.now c.loop-i.i 0) in
    let e = c.ends_line-n.ensures in
    let k = c.loop-i.invariant.2 in
    search rules

pub loop-i-preserved : goal.loop-i-preserved
loop-i-preserved c =
    let s = c.args.s.now in (
      omega arith,
      omega (arith, ends_more s c.loop-i.i c.loop-i-test.true, c.ends_line-n.ensures, c.loop-i.invariant.1),
      omega
          (arith, ends_line_one (get_or s c.loop-i.i 0), c.ends_line-n.ensures, c.loop-i.invariant.2),
    )

pub returns : goal.returns
returns c =
    omega (arith, ends_none c.args.s.now c.loop-i.i (omega (arith, c.loop-i-test.false)), c.loop-i.invariant.1)
