use Rattle.std.proofs.Common.{arith}
use Rattle.model.specs.Request.Words.{reference_at, request_of}
use Rattle.request.specs.NameLaws.{second_part_lem}
use Rattle.request.proofs.second_names.Goals as goal

pub overflow_add-end : goal.overflow_add-end
unfolding request_of reference_at
overflow_add-end c = omega arith

pub slice_bounds-result-end : goal.slice_bounds-result-end
unfolding request_of reference_at
slice_bounds-result-end c = omega arith

pub returns : goal.returns
returns c = second_part_lem _ c.requires.0 c.requires.1
