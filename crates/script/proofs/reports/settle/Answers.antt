use Rattle.std.proofs.Common.{arith, inl, inr}
use Rattle.script.specs.ReportLaws.{settled_bare, settled_full, settled_known}
use Rattle.script.proofs.reports.settle.Goals as goal

pub requester-requires : goal.requester-requires
requester-requires c = c.requires.request

pub full-requires : goal.full-requires
full-requires c =
    rw c.requester.ensures (settled_known (rw (← c.number-answer.ensures) at c.on_checked.ensures) (inl c.if-answer-eq-ACCEPTED.true))

pub returns-then-answer-eq-ACCEPTED : goal.returns-then-answer-eq-ACCEPTED
returns-then-answer-eq-ACCEPTED c =
    settled_full (rw (← c.number-answer.ensures) at c.on_checked.ensures) _ (inl c.if-answer-eq-ACCEPTED.true) (rw c.requester.ensures at c.full.ensures)

pub returns-then-answer-lt-FIRST_NOTICED : goal.returns-then-answer-lt-FIRST_NOTICED
returns-then-answer-lt-FIRST_NOTICED c =
    settled_bare (rw (← c.number-answer.ensures) at c.on_checked.ensures) _ (omega (arith, c.if-answer-eq-ACCEPTED.false))
    (omega (arith, c.if-answer-lt-FIRST_NOTICED.true)) c.bare.ensures

pub requester-requires-2 : goal.requester-requires-2
requester-requires-2 c = c.requires.request

pub full-requires-2 : goal.full-requires-2
full-requires-2 c =
    rw c.requester-2.ensures (settled_known (rw (← c.number-answer.ensures) at c.on_checked.ensures) (inr (omega (arith, c.if-answer-lt-FIRST_NOTICED.false))))

pub returns : goal.returns
returns c =
    let e = rw c.requester-2.ensures at c.full-2.ensures in
    settled_full (rw (← c.number-answer.ensures) at c.on_checked.ensures) _ (inr (omega (arith, c.if-answer-lt-FIRST_NOTICED.false))) e
