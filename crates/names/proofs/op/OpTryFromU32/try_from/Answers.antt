use Rattle.std.proofs.Common.{arith, refl}
use Rattle.names.specs.OperationLaws.{read_as_none}
use Rattle.names.proofs.op.OpTryFromU32.try_from.Goals as goal

pub returns-in_default : goal.returns-in_default
returns-in_default c = (refl, read_as_none _ (λ low high. omega arith))
