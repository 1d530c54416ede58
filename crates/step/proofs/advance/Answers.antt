use Rattle.std.proofs.Common.{arith, refl, rules, sym, ◌∙◌}
use Rattle.names.specs.RefusalLaws.{refusal_some}
use Rattle.step.specs.FirstLaws.{known_climbed, unknown}
use Rattle.step.specs.NoticeLaws.{judged_done, judged_refused}
use Rattle.step.proofs.advance.Goals as goal

pub returns-then-not-is_known : goal.returns-then-not-is_known
returns-then-not-is_known c =
    unknown _ _ c.requires _ c.requester-n.ensures (sym c.is_known.ensures ∙ c.if-not-is_known.true)

pub attend-answer-requires : goal.attend-answer-requires
attend-answer-requires c =
    known_climbed _ _ c.requires _ c.requester-n.ensures (sym c.is_known.ensures ∙ c.if-not-is_known.false)

pub leave-requires : goal.leave-requires
leave-requires c =
    let k = known_climbed _ _ c.requires _ c.requester-n.ensures (sym c.is_known.ensures ∙ c.if-not-is_known.false) in
    (search rules, k.low, k.high)

pub returns-in-Err : goal.returns-in-Err
returns-in-Err c =
    judged_refused c.in-Err.ensures (known_climbed _ _ c.requires _ c.requester-n.ensures
    (sym c.is_known.ensures ∙ c.if-not-is_known.false)) c.noticed.ensures
    (λ z. omega (arith, refusal_some c.in-Err.refusal)) (rw c.from.ensures at c.leave.ensures)

pub returns-in_default : goal.returns-in_default
returns-in_default c = rw c.in_default.is (judged_done c.in_default.ensures refl)
