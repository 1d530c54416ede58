use Rattle.std.proofs.Common.{sym, ◌∙◌}
use Rattle.model.specs.Tables.Layout.{tables_of}
use Rattle.model.specs.Tables.LayoutLaws.{bounded}
use Rattle.state.specs.UserLaws.{user_absent_lem, user_head_fails, user_notice_fails, user_spares}
use Rattle.state.proofs.users.user_fine.Goals as goal

pub returns-then-p-eq0 : goal.returns-then-p-eq0
returns-then-p-eq0 c = c.user_blank.ensures ∙ user_absent_lem _ (bounded _) _ (sym c.present-p.ensures ∙ c.if-p-eq0.true)

pub returns-then-not-user_head : goal.returns-then-not-user_head
returns-then-not-user_head c =
    user_head_fails ((tables_of c.args.t.now).user c.args.u.0) _ _ _ _ _ c.present-p.ensures c.clearance.ensures
    c.authorised.ensures c.current.ensures c.device.ensures c.if-p-eq0.false _
    c.user_head.ensures c.if-not-user_head.true

pub returns-then-not-notice_fine : goal.returns-then-not-notice_fine
returns-then-not-notice_fine c =
    user_notice_fails ((tables_of c.args.t.now).user c.args.u.0) _ _ _ _ _ c.present-p.ensures c.clearance.ensures
    c.authorised.ensures c.current.ensures c.device.ensures c.if-p-eq0.false _ c.user_head.ensures c.if-not-user_head.false _
    _ _ c.held.ensures c.held_op.ensures c.missed.ensures _ c.notice_fine.ensures
    c.if-not-notice_fine.true

pub returns : goal.returns
returns c =
    user_spares ((tables_of c.args.t.now).user c.args.u.0) _ _ _ _ _ c.present-p.ensures c.clearance.ensures
    c.authorised.ensures c.current.ensures c.device.ensures c.if-p-eq0.false _ c.user_head.ensures c.if-not-user_head.false
    _ _ _ c.held.ensures c.held_op.ensures c.missed.ensures _ c.notice_fine.ensures
    c.if-not-notice_fine.false _ c.spares_zero.ensures
