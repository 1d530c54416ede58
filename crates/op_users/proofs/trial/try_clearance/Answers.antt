use Rattle.std.proofs.Common.{refl, sym, ◌∙◌}
use Rattle.op_users.specs.ClearanceLaws.{clearance_off, clearance_on}
use Rattle.ladder.specs.TrialLaws.{tried_left, tried_set}
use Rattle.op_users.proofs.trial.try_clearance.Goals as goal

pub returns-then-v-eq0 : goal.returns-then-v-eq0
returns-then-v-eq0 c =
    tried_set _ _ _ (clearance_off _ c.requires.1 _ _ c.requires.0.1 c.requires.0.2 _ c.device-v.ensures c.if-v-eq0.true)
    c.set_clearance.ensures

pub returns-then-not-all_at_most : goal.returns-then-not-all_at_most
returns-then-not-all_at_most c =
    tried_left _ _ _ (sym c.if-not-all_at_most.true ∙ clearance_on _ c.requires.1 _ _ c.requires.0.1 c.requires.0.2 _ _ _ c.device-v.ensures
    c.if-v-eq0.false c.used.ensures c.all_at_most.ensures) refl

pub returns : goal.returns
returns c =
    tried_set _ _ _ (sym c.if-not-all_at_most.false ∙ clearance_on _ c.requires.1 _ _ c.requires.0.1 c.requires.0.2 _ _ _
    c.device-v.ensures c.if-v-eq0.false c.used.ensures c.all_at_most.ensures) c.set_clearance-2.ensures
