use Rattle.std.proofs.Common.{arith, ◌∙◌}
use Rattle.op_entities.specs.HeldLaws.{screen_off, screen_other, screen_shows}
use Rattle.secure.specs.ReachLaws.{device_there}
use Rattle.op_entities.proofs.trial.screen_admits.Goals as goal

pub returns-then-v-eq0 : goal.returns-then-v-eq0
returns-then-v-eq0 c =
    screen_off _ c.requires.1 _ _ _ c.requires.2 _ c.device-v.ensures c.if-v-eq0.true

pub returns-then-not-holds : goal.returns-then-not-holds
returns-then-not-holds c =
    screen_other _ c.requires.1 _ _ _ c.requires.2 _ c.device-v.ensures c.if-v-eq0.false _ c.holds.ensures
    c.if-not-holds.true

pub level-requires : goal.level-requires
level-requires c =
    let r = device_there _ c.requires.1 _ (λ q. c.if-v-eq0.false (c.device-v.ensures ∙ q)) in
    (c.requires.0.0, omega (arith, c.device-v.ensures, r.0), omega (arith, c.device-v.ensures, r.1))

pub returns : goal.returns
returns c =
    screen_shows _ c.requires.1 _ _ _ c.requires.2 _ c.device-v.ensures c.if-v-eq0.false _ c.holds.ensures c.if-not-holds.false _ _
    _ _ c.level.ensures c.clearance.ensures c.at_most.ensures c.at_most-2.ensures
