use Rattle.std.proofs.Common.{eq-eqb, ne_eqb, refl}
use Rattle.model.specs.Text.Lines.{line_end}
use Rattle.script.proofs.runs.ends_line.Goals as goal

pub returns-then-b-eq-LINE_END : goal.returns-then-b-eq-LINE_END
returns-then-b-eq-LINE_END c = rw (eq-eqb _ line_end c.if-b-eq-LINE_END.true) refl

pub returns : goal.returns
returns c = rw (ne_eqb _ line_end c.if-b-eq-LINE_END.false) refl
