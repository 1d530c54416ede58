use Rattle.state.specs.EntityLaws.{shape_form}
use Rattle.state.proofs.entities.shape_fine.Goals as goal

pub returns : goal.returns
returns c = shape_form _ _ _ _ _ _ _ _ c.is_screen-shows.ensures
