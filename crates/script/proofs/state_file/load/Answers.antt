use Rattle.std.proofs.Common.{arith, length-set}
use Rattle.script.specs.LoadLaws.{filled_all, filled_more, filled_none, filled_other}
use Rattle.script.proofs.state_file.load.Goals as goal

pub returns-then-bytes-ne-STATE_BYTES : goal.returns-then-bytes-ne-STATE_BYTES
returns-then-bytes-ne-STATE_BYTES c = (filled_other c.args.bytes.now (λ e. omega (arith, c.if-bytes-ne-STATE_BYTES.true)), omega arith)

pub loop-i-init : goal.loop-i-init
loop-i-init c = (omega arith, c.requires, omega (arith, c.if-bytes-ne-STATE_BYTES.false), filled_none _)

pub word_in-requires : goal.word_in-requires
word_in-requires c = (omega (arith, c.loop-i.invariant.2), c.loop-i-test.true)

pub bounds-room-i : goal.bounds-room-i
bounds-room-i c = omega (arith, c.loop-i.invariant.1)

pub loop-i-preserved : goal.loop-i-preserved
loop-i-preserved c = (
  omega arith,
  rw (length-set) c.loop-i.invariant.1,
  c.loop-i.invariant.2,
  filled_more _ _ _ _ (omega (arith, c.loop-i.invariant.1)) c.loop-i.invariant.3 c.word_in.ensures,
)

pub returns : goal.returns
returns c = (filled_all _ _ c.loop-i.i c.loop-i.invariant.2 (omega arith) c.loop-i.invariant.3, omega arith)
