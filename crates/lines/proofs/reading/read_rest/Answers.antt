use Rattle.lines.specs.LineAtLaws.{key_none, line_no_end, line_no_number, line_read}
use Rattle.lines.proofs.reading.read_rest.Goals as goal

pub returns-in_err-v : goal.returns-in_err-v
returns-in_err-v c = rw c.from_residual.ensures (line_no_number (key_none c.requires) c.in_err-v.ensures)

pub returns-in_err-next : goal.returns-in_err-next
returns-in_err-next c =
    rw c.from_residual-in_err-next.ensures (line_no_end (key_none c.requires) c.in_ok-v.ensures c.in_err-next.ensures)

pub returns : goal.returns
returns c = line_read (key_none c.requires) c.in_ok-v.ensures c.in_ok-next.ensures
