use Rattle.std.proofs.Common.{refl, sym, ◌∙◌}
use Rattle.op_devices.specs.DeviceLevelLaws.{device_above_lem, device_shows}
use Rattle.ladder.specs.TrialLaws.{tried_left, tried_set}
use Rattle.op_devices.proofs.trial.try_device_level.Goals as goal

pub returns-then-not-at_most : goal.returns-then-not-at_most
returns-then-not-at_most c =
    tried_left _ _ _ (device_above_lem _ c.requires.1 _ _ c.requires.2 c.requires.0.1 c.requires.0.2 _ c.maximum.ensures _
    c.at_most.ensures c.if-not-at_most.true) refl

pub returns-then-not-all_at_most : goal.returns-then-not-all_at_most
returns-then-not-all_at_most c =
    tried_left _ _ _ (sym c.if-not-all_at_most.true ∙ device_shows _ c.requires.1 _ _ c.requires.2 c.requires.0.1 c.requires.0.2 _
    c.maximum.ensures _ c.at_most.ensures c.if-not-at_most.false _ _ c.used.ensures
    c.all_at_most.ensures) refl

pub returns : goal.returns
returns c =
    tried_set _ _ _ (sym c.if-not-all_at_most.false ∙ device_shows _ c.requires.1 _ _ c.requires.2 c.requires.0.1 c.requires.0.2 _
    c.maximum.ensures _ c.at_most.ensures c.if-not-at_most.false _ _ c.used.ensures c.all_at_most.ensures)
    c.set_level.ensures
