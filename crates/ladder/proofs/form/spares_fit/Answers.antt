use Rattle.ladder.specs.Shape.{spare_form}
use Rattle.model.specs.Request.Words.{request_of}
use Rattle.ladder.proofs.form.spares_fit.Goals as goal

pub returns : goal.returns
unfolding spare_form request_of
returns c = rw (c.names_fit.ensures, c.names_fit-2.ensures, c.spare.ensures)
