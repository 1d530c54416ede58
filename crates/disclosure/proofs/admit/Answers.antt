use Rattle.std.proofs.Common.{arith, sym, ◌∙◌}
use Rattle.std.proofs.lemmas.Result.{err_from_is_err_and}
use Rattle.disclosure.specs.AdmitLaws.{barred_condemned, barred_none, barred_off, barred_unknown, checked_whole, known_no, known_yes}
use Rattle.names.specs.RefusalLaws.{refusal_some}
use Rattle.disclosure.proofs.admit.Goals as goal

pub returns-in_err-checked : goal.returns-in_err-checked
returns-in_err-checked c =
    let p = err_from_is_err_and c.from_residual.result c.from_residual.ensures.1 in
    let some = refusal_some c.in_err-checked.field-0.0 in
    rw (p.1, p.2) (c.in_err-checked.ensures ∙ barred_condemned _ _ (λ q. omega (arith, c.in_err-checked.ensures)))

pub is_known-requires : goal.is_known-requires
is_known-requires c = checked_whole _ c.args.user (sym c.in_ok-checked.ensures)

pub returns-then-not-is_known : goal.returns-then-not-is_known
returns-then-not-is_known c =
    barred_unknown _ _ (sym c.in_ok-checked.ensures)
    (known_no _ _ _ c.is_known.ensures c.if-not-is_known.true)

pub device-requires : goal.device-requires
device-requires c =
    let k = known_yes _ _ _ c.is_known.ensures c.if-not-is_known.false in
    (checked_whole _ c.args.user (sym c.in_ok-checked.ensures), k.low, k.high)

pub returns-then-device-eq0 : goal.returns-then-device-eq0
returns-then-device-eq0 c =
    barred_off _ _ (sym c.in_ok-checked.ensures) (known_yes _ _ _ c.is_known.ensures c.if-not-is_known.false)
    (sym c.device.ensures ∙ c.if-device-eq0.true)

pub returns : goal.returns
returns c =
    barred_none _ _ (sym c.in_ok-checked.ensures) (known_yes _ _ _ c.is_known.ensures c.if-not-is_known.false)
    (λ q. c.if-device-eq0.false (c.device.ensures ∙ q))
