use Rattle.ladder.specs.Shape.{one_form}
use Rattle.ladder.proofs.form.takes_one.Goals as goal

pub returns : goal.returns
unfolding one_form
returns c = rw (c.first_length-n.ensures, c.second_length.ensures, c.spares_fit.ensures)
