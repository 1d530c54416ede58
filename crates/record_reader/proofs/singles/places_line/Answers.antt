use Rattle.std.proofs.Common.{arith}
use Rattle.record_reader.specs.FieldLaws.{field_bad, field_over, field_value}
use Rattle.tables_text.specs.Keys.{places_field}
use Rattle.record_reader.proofs.singles.places_line.Goals as goal

pub returns-in_err-n : goal.returns-in_err-n
returns-in_err-n c = rw c.from_residual.ensures (field_bad places_field c.in_err-n.ensures)

pub returns-then-n-gt-PLACES : goal.returns-then-n-gt-PLACES
returns-then-n-gt-PLACES c = field_over places_field c.in_ok-n.ensures (omega arith) c.if-n-gt-PLACES.true

pub returns : goal.returns
returns c = field_value places_field c.in_ok-n.ensures (omega arith) c.if-n-gt-PLACES.false
