use Rattle.std.proofs.Common.{arith}
use Rattle.std.proofs.lemmas.Result.{err_from_is_err_and}
use Rattle.disclosure.specs.EndLaws.{end_refused}
use Rattle.names.specs.RefusalLaws.{refusal_some}
use Rattle.disclosure.proofs.list.Goals as goal

pub returns-in_err-admit : goal.returns-in_err-admit
returns-in_err-admit c =
    let p = err_from_is_err_and c.from_residual.result c.from_residual.ensures.1 in
    rw (p.1, p.2) (end_refused _ _ _ _ c.in_err-admit.ensures (λ q. omega (arith, refusal_some c.in_err-admit.field-0.0)))
