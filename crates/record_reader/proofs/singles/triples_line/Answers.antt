use Rattle.std.proofs.Common.{arith}
use Rattle.record_reader.specs.FieldLaws.{field_bad, field_over, field_value}
use Rattle.tables_text.specs.Keys.{triples_field}
use Rattle.record_reader.proofs.singles.triples_line.Goals as goal

pub returns-in_err-n : goal.returns-in_err-n
returns-in_err-n c = rw c.from_residual.ensures (field_bad triples_field c.in_err-n.ensures)

pub returns-then-n-gt-TRIPLES : goal.returns-then-n-gt-TRIPLES
returns-then-n-gt-TRIPLES c = field_over triples_field c.in_ok-n.ensures (omega arith) c.if-n-gt-TRIPLES.true

pub returns : goal.returns
returns c = field_value triples_field c.in_ok-n.ensures (omega arith) c.if-n-gt-TRIPLES.false
