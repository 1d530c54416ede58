use Rattle.std.proofs.Common.{refl}
use Rattle.model.specs.Level.{bit}
use Rattle.levels.proofs.has_bit.Goals as goal

pub returns : goal.returns
unfolding bit
returns c = refl
