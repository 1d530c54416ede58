use Rattle.std.proofs.Common.{sym, ◌∙◌}
use Rattle.model.specs.Tables.LayoutLaws.{bounded}
use Rattle.state.specs.EntityLaws.{own_absent}
use Rattle.state.proofs.entities.entity_fine.Goals as goal

pub returns-then-k-eq-ABSENT : goal.returns-then-k-eq-ABSENT
returns-then-k-eq-ABSENT c = c.entity_blank.ensures ∙ own_absent _ (bounded _) _ (sym c.kind-k.ensures ∙ c.if-k-eq-ABSENT.true)
