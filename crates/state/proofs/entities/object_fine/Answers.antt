use Rattle.state.specs.Passes.{object_test}
use Rattle.state.proofs.entities.object_fine.Goals as goal

pub returns : goal.returns
unfolding object_test
returns c = rw (c.level.ensures, c.type_of.ensures, c.mark.ensures, c.is_bare.ensures)
