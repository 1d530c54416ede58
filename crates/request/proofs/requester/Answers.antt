use Rattle.std.proofs.Common.{refl}
use Rattle.model.specs.Request.Words.{request_of}
use Rattle.request.proofs.requester.Goals as goal

pub returns : goal.returns
unfolding request_of
returns c = refl
