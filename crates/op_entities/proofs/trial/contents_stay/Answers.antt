use Rattle.op_entities.specs.HeldLaws.{contents_asked}
use Rattle.op_entities.specs.LevelChangeLaws.{contents_kept}
use Rattle.op_entities.proofs.trial.contents_stay.Goals as goal

pub returns-then-at_most : goal.returns-then-at_most
returns-then-at_most c = contents_kept _ c.requires.1 _ _ _ c.requires.2 _ c.at_most.ensures c.if-at_most.true

pub returns : goal.returns
returns c = contents_asked _ _ _ _ _ c.used.ensures c.all_at_most.ensures
