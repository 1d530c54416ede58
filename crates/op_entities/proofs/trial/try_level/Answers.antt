use Rattle.std.proofs.Common.{refl, sym, ◌∙◌}
use Rattle.ladder.specs.TrialLaws.{tried_left, tried_set}
use Rattle.op_entities.specs.LevelChangeLaws.{level_contents, level_holders}
use Rattle.op_entities.proofs.trial.try_level.Goals as goal

pub returns-then-not-contents_stay : goal.returns-then-not-contents_stay
returns-then-not-contents_stay c =
    tried_left _ _ _ (level_contents _ c.requires.1 _ _ c.requires.2 _ c.contents_stay.ensures c.if-not-contents_stay.true) refl

pub returns-then-not-holders_stay : goal.returns-then-not-holders_stay
returns-then-not-holders_stay c =
    tried_left _ _ _ (sym c.if-not-holders_stay.true ∙ level_holders _ c.requires.1 _ _ c.requires.2 _ c.contents_stay.ensures
    c.if-not-contents_stay.false _ c.holders_stay.ensures) refl

pub returns : goal.returns
returns c =
    tried_set _ _ _ (sym c.if-not-holders_stay.false ∙ level_holders _ c.requires.1 _ _ c.requires.2 _ c.contents_stay.ensures
    c.if-not-contents_stay.false _ c.holders_stay.ensures) c.set_level.ensures
