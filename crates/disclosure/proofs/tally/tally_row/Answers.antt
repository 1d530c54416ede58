use Rattle.std.proofs.Common.{arith}
use Rattle.disclosure.specs.TallyLaws.{tallied_first, tallied_less, tallied_more}
use Rattle.disclosure.proofs.tally.tally_row.Goals as goal

pub loop-i-init : goal.loop-i-init
loop-i-init c = (
  omega arith,
  tallied_first c.args.t.now c.args.v.now c.args.b.now c.args.k c.requires.1,
)

pub tally-requires : goal.tally-requires
tally-requires c = (
  c.requires.0,
  tallied_less c.args.t.now c.args.v.now c.loop-i.b _ _ (omega arith)
      c.loop-i.invariant.1,
  c.requires.2,
  omega arith,
  omega (arith, c.loop-i-test.true),
)

pub loop-i-preserved : goal.loop-i-preserved
loop-i-preserved c = (
  omega (arith, c.loop-i-test.true),
  tallied_more c.args.t.now c.args.v.now c.loop-i.b
      c.args.k c.loop-i.i _ c.requires.2 c.loop-i-test.true
      c.loop-i.invariant.1 c.tally.ensures,
)

pub returns : goal.returns
returns c =
    tallied_less c.args.t.now c.args.v.now c.loop-i.b _ _
    (omega (arith, c.loop-i.invariant.0, c.loop-i-test.false)) c.loop-i.invariant.1
