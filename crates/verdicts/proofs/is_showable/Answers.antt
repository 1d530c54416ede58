use Rattle.model.specs.List.Ways.{showable}
use Rattle.verdicts.proofs.is_showable.Goals as goal

pub returns-then-not-is_entity : goal.returns-then-not-is_entity
unfolding showable
returns-then-not-is_entity c = rw (← c.is_entity.ensures, c.if-not-is_entity.true)

pub returns-then-not-at_most : goal.returns-then-not-at_most
unfolding showable
returns-then-not-at_most c =
    rw (
      ← c.is_entity.ensures,
      c.if-not-is_entity.false,
      ← c.requires.0.clearance,
      ←
          c.level-l.ensures,
      ← c.at_most.ensures,
      c.if-not-at_most.true,
    )

pub returns-then-not-at_most-2 : goal.returns-then-not-at_most-2
unfolding showable
returns-then-not-at_most-2 c =
    rw (
      ← c.is_entity.ensures,
      c.if-not-is_entity.false,
      ← c.requires.0.clearance,
      ← c.requires.0.screen,
      ←
          c.level-l.ensures,
      ← c.at_most.ensures,
      c.if-not-at_most.false,
      ← c.at_most-2.ensures,
      c.if-not-at_most-2.true,
    )

pub returns : goal.returns
unfolding showable
returns c =
    rw (
      ← c.is_entity.ensures,
      c.if-not-is_entity.false,
      ← c.requires.0.clearance,
      ← c.requires.0.screen,
      ←
          c.level-l.ensures,
      ← c.at_most.ensures,
      c.if-not-at_most.false,
      ←
          c.at_most-2.ensures,
      c.if-not-at_most-2.false,
      ← c.is_permitted.ensures,
    )
