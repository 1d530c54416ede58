use Rattle.tables.specs.Laws.{row_at}
use Rattle.tables.proofs.entities.in_row.Goals as goal

pub returns-clause-word : goal.returns-clause-word
returns-clause-word c = rw c.from.ensures (row_at _ _ c.requires)
