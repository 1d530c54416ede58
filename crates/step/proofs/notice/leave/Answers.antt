use Rattle.std.proofs.Common.{arith, ◌∙◌}
use Rattle.step.specs.NoticeLaws.{notice_kept_lem, notice_new}
use Rattle.step.proofs.notice.leave.Goals as goal

pub returns-then-h-gt0 : goal.returns-then-h-gt0
returns-then-h-gt0 c =
    c.set_missed.ensures ∙ notice_kept_lem _ _ _ _ _ (c.one_more-m.ensures ∙ rw c.missed.ensures)
    (λ z. omega (arith, c.if-h-gt0.true, c.held-h.ensures ∙ z))

pub returns : goal.returns
returns c =
    c.set_held.ensures ∙ rw (c.set_held_op.ensures, c.set_missed.ensures)
    (notice_new _ _ _ _ _ (c.one_more-m.ensures ∙ rw c.missed.ensures) (omega (arith, c.held-h.ensures, c.if-h-gt0.false)))
