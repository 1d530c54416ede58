use Rattle.std.proofs.Common.{arith, sym}
use Rattle.script.specs.EndsLaws.{unfinished_long, unfinished_short}
use Rattle.script.proofs.runs.is_unfinished.Goals as goal

pub returns-then-s-at-ge-TEXT_MOST : goal.returns-then-s-at-ge-TEXT_MOST
returns-then-s-at-ge-TEXT_MOST c = sym (unfinished_long c.args.s.now c.args.at c.if-s-at-ge-TEXT_MOST.true)

pub returns : goal.returns
returns c =
    rw c.line_ends.ensures (unfinished_short c.args.s.now c.args.at
    (omega (arith, c.if-s-at-ge-TEXT_MOST.false)))
