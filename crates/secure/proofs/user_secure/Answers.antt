use Rattle.std.proofs.Common.{arith, ◌∙◌}
use Rattle.model.specs.Tables.LayoutLaws.{bounded}
use Rattle.secure.specs.SecureLaws.{capped_min, user_below, user_beyond, user_fails, user_off, user_on_lem}
use Rattle.secure.proofs.user_secure.Goals as goal

pub returns-then-not-roles_within : goal.returns-then-not-roles_within
returns-then-not-roles_within c =
    user_fails _ _ _ _ _ c.current.ensures c.authorised.ensures c.roles_within.ensures
    c.if-not-roles_within.true

pub returns-then-n-lt1 : goal.returns-then-n-lt1
returns-then-n-lt1 c =
    user_off _ _ _ _ _ c.current.ensures c.authorised.ensures c.roles_within.ensures
    c.if-not-roles_within.false _ c.device-v.ensures c.if-n-lt1.true

pub returns-then-n-gt-ENTITIES : goal.returns-then-n-gt-ENTITIES
returns-then-n-gt-ENTITIES c =
    user_beyond _ _ _ _ _ c.current.ensures c.authorised.ensures c.roles_within.ensures
    c.if-not-roles_within.false _ c.device-v.ensures (bounded _) c.if-n-gt-ENTITIES.true

pub returns-then-at_most : goal.returns-then-at_most
returns-then-at_most c =
    user_below _ _ _ _ _ c.current.ensures c.authorised.ensures c.roles_within.ensures c.if-not-roles_within.false _
    c.device-v.ensures c.if-n-lt1.false c.if-n-gt-ENTITIES.false c.requires.1 _ _ _ c.level.ensures
    c.clearance-c.ensures c.at_most.ensures c.if-at_most.true

pub places_below-requires : goal.places_below-requires
places_below-requires c =
    ((c.requires.0.0, omega arith, omega arith), omega (arith, c.min.ensures))

pub returns : goal.returns
returns c =
    user_on_lem _ _ _ _ _ c.current.ensures c.authorised.ensures c.roles_within.ensures c.if-not-roles_within.false _
    c.device-v.ensures (omega arith) _ _ _ _ c.clearance-c.ensures c.used.ensures (c.min.ensures ∙ capped_min _)
    c.places_below.ensures
