use Rattle.std.proofs.Common.{ap, arith, subst, ℕ, ◌∙◌, ◌≡◌}
use Rattle.verdicts.specs.Verdicts.{Judged}
use Rattle.verdicts.specs.VerdictLaws.{judged_more}
use Rattle.model.specs.State.Agree.{device_range}
use Rattle.model.specs.Tables.Layout.{tables_of}
use Rattle.model.specs.Request.Conditions.{level_of}
use Rattle.model.specs.Tables.Words.{entity_count}
use Rattle.verdicts.proofs.judge_all.Goals as goal

pub clearance-clearance-requires : goal.clearance-clearance-requires
clearance-clearance-requires c = (c.requires.0.whole, c.requires.0.low, c.requires.0.high)

pub level-screen-requires : goal.level-screen-requires
level-screen-requires c = (
  c.requires.0.whole,
  omega (
    arith,
    c.device.ensures,
    device_range _ c.requires.0.good.0 _
        c.requires.0.on,
  ),
  omega (
    arith,
    c.device.ensures,
    device_range _ c.requires.0.good.0 _
        c.requires.0.on,
  ),
)

pub judge-requires : goal.judge-requires
judge-requires c = (
  record {
    admitted = c.requires.0;
    clearance = c.clearance-clearance.ensures;
    screen = c.level-screen.ensures ∙ ap
        (level_of (tables_of c.args.t.now)) c.device.ensures;
  },
  omega arith,
  omega arith,
)

pub loop-i-preserved : goal.loop-i-preserved
loop-i-preserved c = (omega arith, judged_more _ _ _ _ _ c.loop-i-test.true c.loop-i.invariant.1 c.judge.ensures)

pub returns : goal.returns
returns c =
    let e : c.loop-i.i ≡ entity_count = omega arith in
    subst (λ (n : ℕ). Judged (tables_of c.args.t.now) c.args.u.0 n c.loop-i.v) e c.loop-i.invariant.1
