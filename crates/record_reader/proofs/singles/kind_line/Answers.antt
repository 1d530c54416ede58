use Rattle.std.proofs.Common.{arith}
use Rattle.record_reader.specs.FieldLaws.{field_bad, field_under, field_value, line_fits}
use Rattle.tables_text.specs.Keys.{kind_field}
use Rattle.record_reader.proofs.singles.kind_line.Goals as goal

pub returns-in_err-n : goal.returns-in_err-n
returns-in_err-n c = rw c.from_residual.ensures (field_bad kind_field c.in_err-n.ensures)

pub returns-then-n-eq-ABSENT : goal.returns-then-n-eq-ABSENT
returns-then-n-eq-ABSENT c = field_under kind_field c.in_ok-n.ensures (omega arith)

pub returns : goal.returns
returns c = field_value kind_field c.in_ok-n.ensures (omega arith) (line_fits c.in_ok-n.ensures)
