use Rattle.ladder.specs.Shape.{none_form}
use Rattle.ladder.proofs.form.takes_none.Goals as goal

pub returns : goal.returns
unfolding none_form
returns c = rw (c.first_length.ensures, c.second_length.ensures, c.spares_fit.ensures)
