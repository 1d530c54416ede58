use Rattle.levels.specs.MaskLaws.{whole}
use Rattle.model.specs.Level.{at_most, compartment_count}
use Rattle.levels.proofs.at_most.Goals as goal

pub returns : goal.returns
unfolding at_most
returns c = rw c.compartments_within.ensures (whole compartment_count _ _)
