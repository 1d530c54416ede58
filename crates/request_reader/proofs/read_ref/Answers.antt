use Rattle.lines.specs.LineAtLaws.{key_none}
use Rattle.request_reader.specs.RefAtLaws.{ref_no_end, ref_read, ref_wrong}
use Rattle.request_reader.proofs.read_ref.Goals as goal

pub returns-in_err-n : goal.returns-in_err-n
returns-in_err-n c = rw c.from_residual.ensures (ref_wrong (key_none c.requires.0) c.in_err-n.ensures)

pub returns-in_err-end : goal.returns-in_err-end
returns-in_err-end c =
    rw c.from_residual-in_err-end.ensures (ref_no_end (key_none c.requires.0) c.in_ok-n.ensures c.in_err-end.ensures)

pub returns : goal.returns
returns c = ref_read (key_none c.requires.0) c.in_ok-n.ensures c.in_ok-end.ensures
