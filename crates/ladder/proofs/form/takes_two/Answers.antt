use Rattle.ladder.specs.Shape.{two_form}
use Rattle.ladder.proofs.form.takes_two.Goals as goal

pub returns : goal.returns
unfolding two_form
returns c = rw (c.first_length-n.ensures, c.second_length-m.ensures, c.spares_fit.ensures)
