use Rattle.std.proofs.Common.{arith, refl}
use Rattle.disclosure.specs.EndLaws.{end_fits, end_none, end_short, end_written}
use Rattle.disclosure.specs.TallyLaws.{tallied_none}
use Rattle.verdicts.specs.VerdictLaws.{judged_guided, judged_none}
use Rattle.model.proofs.List.AdmittedLaws.{barred_admitted}
use Rattle.disclosure.proofs.disclose.Goals as goal

pub judge_all-requires : goal.judge_all-requires
judge_all-requires c = (barred_admitted _ _ c.requires, judged_none _ _ _ refl refl)

pub tally_all-n-requires : goal.tally_all-n-requires
tally_all-n-requires c =
    (judged_guided _ _ _ (barred_admitted _ _ c.requires) c.judge_all.ensures, tallied_none _ _)

pub returns-then-n-eq0 : goal.returns-then-n-eq0
returns-then-n-eq0 c =
    end_none _ _ _ c.requires c.judge_all.ensures _ c.tally_all-n.ensures.0 _ (omega (arith, c.if-n-eq0.true))

pub returns-then-room-need : goal.returns-then-room-need
returns-then-room-need c =
    end_short _ _ _ c.requires c.judge_all.ensures _ c.tally_all-n.ensures.0 _ (omega (arith, c.if-room-need.true))

pub visit_all-requires : goal.visit_all-requires
visit_all-requires c = (
  judged_guided _ _ _ (barred_admitted _ _ c.requires) c.judge_all.ensures,
  c.tally_all-n.ensures.1,
  end_fits _ _ _ c.requires
      c.judge_all.ensures _ c.tally_all-n.ensures.0 c.args.room.now (omega (arith, c.if-room-need.false)),
)

pub returns : goal.returns
returns c =
    end_written _ _ _ c.requires c.judge_all.ensures _ c.tally_all-n.ensures.0 _ _ (omega (arith, c.if-room-need.false))
    c.visit_all.ensures
