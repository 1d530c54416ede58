use Rattle.std.proofs.Common.{sym, ◌∙◌}
use Rattle.tables.specs.Laws.{entity_absent}
use Rattle.tables.proofs.entities.kind_or_zero.Goals as goal

pub returns-then-not-has_record : goal.returns-then-not-has_record
returns-then-not-has_record c = entity_absent _ _ _ (sym c.has_record.ensures ∙ c.if-not-has_record.true)
