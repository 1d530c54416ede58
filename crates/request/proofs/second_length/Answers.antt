use Rattle.std.proofs.Common.{refl}
use Rattle.model.specs.Request.Words.{reference_at, request_of}
use Rattle.request.proofs.second_length.Goals as goal

pub returns : goal.returns
unfolding request_of reference_at
returns c = refl
