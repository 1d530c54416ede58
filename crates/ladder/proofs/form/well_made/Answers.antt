use Rattle.std.proofs.Common.{sym, ◌∙◌}
use Rattle.ladder.specs.DispatchLaws.{fits_named, none_meant}
use Rattle.model.specs.Request.Ladder.{fits}
use Rattle.model.specs.Request.Words.{request_of}
use Rattle.ladder.proofs.form.well_made.Goals as goal

pub returns-in_default : goal.returns-in_default
returns-in_default c =
    sym (none_meant (λ o. fits o (request_of c.args.q.now)) (request_of c.args.q.now) (rw c.operation.ensures at c.in_default.ensures.1))

pub returns-then-not-fits : goal.returns-then-not-fits
returns-then-not-fits c =
    sym (fits_named _ _ (sym c.operation.ensures ∙ c.in-Ok.ensures)) ∙ sym c.fits.ensures ∙ c.if-not-fits.true
