use Rattle.std.proofs.Common.{refl}
use Rattle.std.proofs.lemmas.Result.{err_from_is_err_and}
use Rattle.step.specs.FirstLaws.{checked_ready, checked_refused, stepped_settled}
use Rattle.step.proofs.on_checked.Goals as goal

pub returns-in_err-c : goal.returns-in_err-c
returns-in_err-c c =
    let p = err_from_is_err_and c.from_residual.result c.from_residual.ensures.1 in
    rw (p.1, p.2) (checked_refused _ _ _ (rw c.in_err-c.was at c.requires))

pub advance-requires : goal.advance-requires
advance-requires c = checked_ready _ _ _ (rw c.in_ok-c.was at c.requires) refl

pub returns : goal.returns
returns c =
    stepped_settled _ _ _ (rw c.in_ok-c.was at c.requires) refl _ _ c.advance.auto.t c.advance.ensures
