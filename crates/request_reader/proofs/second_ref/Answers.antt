use Rattle.request_reader.specs.RefAtLaws.{ref_behind, ref_no_key}
use Rattle.request_reader.proofs.second_ref.Goals as goal

pub returns-in_err-i : goal.returns-in_err-i
returns-in_err-i c = rw c.from_residual.ensures (ref_no_key c.in_err-i.ensures)

pub returns : goal.returns
returns c = ref_behind c.in_ok-i.ensures c.read_ref.ensures
