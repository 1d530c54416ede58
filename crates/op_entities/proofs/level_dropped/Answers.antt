use Rattle.model.specs.Level.{drops}
use Rattle.op_entities.proofs.level_dropped.Goals as goal

pub returns : goal.returns
unfolding drops
returns c = rw (c.at_most.ensures, c.has_role.ensures)
