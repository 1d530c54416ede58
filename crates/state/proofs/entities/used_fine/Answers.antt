use Rattle.state.specs.EntityLaws.{used_form}
use Rattle.state.proofs.entities.used_fine.Goals as goal

pub returns : goal.returns
returns c = used_form _ _
