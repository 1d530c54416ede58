use Rattle.std.proofs.Common.{arith}
use Rattle.state.specs.TripleLaws.{named_bits, unnamed, who_high, who_low}
use Rattle.state.proofs.access.named.Goals as goal

pub returns-then-x : goal.returns-then-x
returns-then-x c = unnamed _ c.if-x.true

pub overflow_add-more : goal.overflow_add-more
overflow_add-more c = omega (arith, who_high c.args.x c.if-x.false)

pub overflow_sub-less : goal.overflow_sub-less
overflow_sub-less c = omega (arith, who_low c.args.x c.if-x.false)

pub returns : goal.returns
returns c = named_bits _ c.if-x.false
