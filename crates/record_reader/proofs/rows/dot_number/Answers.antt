use Rattle.std.proofs.Common.{sym, ◌∙◌}
use Rattle.record_reader.specs.RowLaws.{dot_number_lem}
use Rattle.record_reader.proofs.rows.dot_number.Goals as goal

pub returns : goal.returns
returns c =
    let l = c.in_ok-b.ensures.lookup.3 in
    dot_number_lem l.0 (sym (l.1 0) ∙ c.if-b-ne-DOT.false) c.read_number.ensures
