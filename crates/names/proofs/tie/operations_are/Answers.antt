use Rattle.std.proofs.Common.{refl}
use Rattle.model.specs.Request.Operations.{operations}
use Rattle.names.proofs.tie.operations_are.Goals as goal

pub returns : goal.returns
unfolding operations
returns c = refl
