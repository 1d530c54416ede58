use Rattle.std.proofs.Common.{arith, refl, ◌∙◌}
use Rattle.script.specs.GoingLaws.{going_end, going_full, going_halt, going_length, going_start, going_turn, turn_further}
use Rattle.script.proofs.StaysLaws.{turn_stays}
use Rattle.script.proofs.runs.run.Goals as goal

pub loop-at-init : goal.loop-at-init
loop-at-init c = (going_start _ _ _ _, refl, c.requires)

pub overflow_sub-out : goal.overflow_sub-out
overflow_sub-out c = omega (arith, going_length c.loop-at.invariant.0, c.loop-at.invariant.0.fits)

pub returns-then-out-n-lt-REPORT_MOST : goal.returns-then-out-n-lt-REPORT_MOST
returns-then-out-n-lt-REPORT_MOST c = going_full c.loop-at.invariant.0 (omega (arith, going_length c.loop-at.invariant.0, c.if-out-n-lt-REPORT_MOST.true))

pub one_turn-t-requires : goal.one_turn-t-requires
one_turn-t-requires c =
    record { within = c.loop-at.invariant.0.within; said = c.loop-at.invariant.2 }

pub halt-requires : goal.halt-requires
halt-requires c =
    (c.loop-at.invariant.0.within, omega (arith, going_length c.loop-at.invariant.0, c.loop-at.invariant.0.fits, c.if-out-n-lt-REPORT_MOST.false))

pub returns-then-next-ne0 : goal.returns-then-next-ne0
returns-then-next-ne0 c =
    going_halt c.loop-at.invariant.0 _ _ _ _ c.loop-at-test.true (omega (arith, going_length c.loop-at.invariant.0, c.if-out-n-lt-REPORT_MOST.false))
    c.one_turn-t.ensures (λ e. omega (arith, c.if-next-ne0.true)) c.halt.ensures

pub put_report-n-requires : goal.put_report-n-requires
put_report-n-requires c =
    omega (arith, going_length c.loop-at.invariant.0, c.loop-at.invariant.0.fits, c.if-out-n-lt-REPORT_MOST.false)

pub loop-at-smaller : goal.loop-at-smaller
loop-at-smaller c =
    let f = turn_further c.loop-at.invariant.0 _ c.one_turn-t.ensures.turned (omega (arith, c.if-next-ne0.false)) in
    omega (arith, f.0, f.1)

pub loop-at-preserved : goal.loop-at-preserved
loop-at-preserved c = (
  going_turn c.loop-at.invariant.0 _ _ _ _ c.loop-at-test.true (omega (arith, going_length c.loop-at.invariant.0, c.if-out-n-lt-REPORT_MOST.false))
      c.one_turn-t.ensures (omega (arith, c.if-next-ne0.false)) c.put_report-n.ensures,
  c.one_turn-t.auto.tables ∙ c.loop-at.invariant.1,
  turn_stays c.one_turn-t.ensures c.loop-at.invariant.2,
)

pub returns : goal.returns
returns c = going_end c.loop-at.invariant.0 (omega (arith, c.loop-at-test.false))
