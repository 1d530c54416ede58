use Rattle.tables.specs.Singles.{known}
use Rattle.tables.proofs.users.is_known.Goals as goal

pub returns-then-has_record : goal.returns-then-has_record
unfolding known
returns-then-has_record c = rw (← c.has_record.ensures, c.if-has_record.true, c.present.ensures)

pub returns-else-has_record : goal.returns-else-has_record
unfolding known
returns-else-has_record c = rw (← c.has_record.ensures, c.if-has_record.false)
