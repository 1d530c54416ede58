use Rattle.op_entities.specs.HeldLaws.{holders_container, holders_screens}
use Rattle.op_entities.specs.LevelChangeLaws.{holders_kept}
use Rattle.op_entities.proofs.trial.holders_stay.Goals as goal

pub returns-then-at_most : goal.returns-then-at_most
returns-then-at_most c = holders_kept _ c.requires.1 _ _ _ c.requires.2 _ c.at_most.ensures c.if-at_most.true

pub returns-then-not-screens_admit : goal.returns-then-not-screens_admit
returns-then-not-screens_admit c = holders_screens _ _ _ _ c.screens_admit.ensures c.if-not-screens_admit.true

pub returns : goal.returns
returns c = holders_container _ _ _ _ c.screens_admit.ensures c.if-not-screens_admit.false _ c.container_admits.ensures
