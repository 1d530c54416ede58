use Rattle.std.proofs.Common.{ap, arith, eqb, ℕ, ◌∙◌}
use Rattle.secure.specs.SecureLaws.{capped_min, entity_device, entity_fails, entity_plain}
use Rattle.model.specs.Tables.Words.{device_kind}
use Rattle.secure.proofs.entity_secure.Goals as goal

pub places_secure-requires : goal.places_secure-requires
places_secure-requires c = (
  c.requires,
  (c.level-l.ensures, c.is_screen-shows.ensures ∙ ap (λ (k : ℕ). eqb k device_kind) c.kind.ensures),
  omega
      (arith, c.min-n.ensures),
)

pub returns-then-not-places_secure : goal.returns-then-not-places_secure
returns-then-not-places_secure c =
    entity_fails _ _ _ _ _ _ c.used.ensures (c.min-n.ensures ∙ capped_min _) (c.is_screen-shows.ensures ∙ ap (λ (k : ℕ). eqb k device_kind)
    c.kind.ensures) c.places_secure.ensures c.if-not-places_secure.true

pub returns-then-not-shows : goal.returns-then-not-shows
returns-then-not-shows c =
    entity_plain _ _ _ _ _ _ c.used.ensures (c.min-n.ensures ∙ capped_min _) (c.is_screen-shows.ensures ∙ ap
    (λ (k : ℕ). eqb k device_kind) c.kind.ensures) c.places_secure.ensures c.if-not-places_secure.false
    c.if-not-shows.true

pub returns : goal.returns
returns c =
    entity_device _ _ _ _ _ _ c.used.ensures (c.min-n.ensures ∙ capped_min _) (c.is_screen-shows.ensures ∙ ap (λ (k : ℕ). eqb k device_kind)
    c.kind.ensures) c.places_secure.ensures c.if-not-places_secure.false
    c.if-not-shows.false _ _ _ c.level-l.ensures c.maximum.ensures c.at_most.ensures
