use Rattle.std.proofs.Common.{arith, refl, sym, true, ◌∙◌}
use Rattle.model.specs.Tables.Layout.{tables_of}
use Rattle.model.specs.Tables.LayoutLaws.{bounded}
use Rattle.state.specs.JudgingLaws.{absent_secure, judged_sound}
use Rattle.state.specs.NotedLaws.{amiss_own, noted_skip}
use Rattle.state.proofs.entities.entity_judged.Goals as goal

pub returns-then-not-entity_fine : goal.returns-then-not-entity_fine
returns-then-not-entity_fine c =
    (refl, amiss_own (tables_of _) (bounded _) _ c.requires.0.1 c.requires.0.2 _ c.entity_fine.ensures c.if-not-entity_fine.true)

pub returns-then-kind-eq-ABSENT : goal.returns-then-kind-eq-ABSENT
returns-then-kind-eq-ABSENT c =
    judged_sound (tables_of _) _ _ _ true c.entity_fine.ensures c.if-not-entity_fine.false
    (noted_skip (tables_of _) (bounded _) _ _ _ c.requires.0.1 c.kind.ensures (λ q. omega (arith, c.if-kind-eq-ABSENT.true, q)) c.requires.1)
    (absent_secure (tables_of _) _ (bounded _) _ c.entity_fine.ensures c.if-not-entity_fine.false
    (sym c.kind.ensures ∙ c.if-kind-eq-ABSENT.true))

pub note_row-requires : goal.note_row-requires
note_row-requires c =
    (c.requires.0, sym c.entity_fine.ensures ∙ c.if-not-entity_fine.false, c.requires.1)

pub returns-then-not-note_row : goal.returns-then-not-note_row
returns-then-not-note_row c = (refl, c.note_row.ensures.refused c.if-not-note_row.true)

pub returns : goal.returns
returns c =
    judged_sound (tables_of _) _ _ _ _ c.entity_fine.ensures c.if-not-entity_fine.false
    (c.note_row.ensures.noted c.if-not-note_row.false) c.entity_secure.ensures
