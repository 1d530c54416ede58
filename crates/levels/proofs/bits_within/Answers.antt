use Rattle.levels.specs.MaskLaws.{masked, weight}
use Rattle.levels.proofs.bits_within.Goals as goal

pub returns : goal.returns
returns c = rw (weight _ c.requires) (masked _ _ _)
