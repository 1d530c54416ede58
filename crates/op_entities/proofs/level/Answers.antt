use Rattle.std.proofs.Common.{sym, ◌∙◌}
use Rattle.model.specs.Basics.TestLaws.{is_true}
use Rattle.model.proofs.Request.ConditionLaws.{thing_agrees}
use Rattle.op_entities.specs.EntityLaws.{level_10, level_12, level_tried}
use Rattle.op_entities.proofs.level.Goals as goal

pub returns-then-not-is_entity : goal.returns-then-not-is_entity
returns-then-not-is_entity c =
    level_10 _ _ _ _ c.requires.0 c.requires.1 _ c.is_entity.ensures c.if-not-is_entity.true

pub returns-then-level_dropped : goal.returns-then-level_dropped
returns-then-level_dropped c =
    level_12 _ _ _ _ c.requires.0 c.requires.1 _ c.is_entity.ensures c.if-not-is_entity.false _ c.a.ensures _
    (c.level_dropped.ensures ∙ rw c.level.ensures) c.if-level_dropped.true

pub try_level-requires : goal.try_level-requires
try_level-requires c = (
  (c.requires.0.climbed.ready.whole, c.requires.1.low, c.requires.1.high),
  c.requires.0.climbed.ready.good,
  (thing_agrees _ _).to
      (is_true _ (sym c.is_entity.ensures ∙ c.if-not-is_entity.false)),
)

pub returns : goal.returns
returns c =
    level_tried _ _ _ _ c.requires.0 c.requires.1 _ c.is_entity.ensures c.if-not-is_entity.false _ c.a.ensures _
    (c.level_dropped.ensures ∙ rw c.level.ensures) c.if-level_dropped.false _ _ c.try_level.ensures
