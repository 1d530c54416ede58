use Rattle.std.proofs.Common.{sym, ◌∙◌}
use Rattle.std.proofs.lemmas.Bool.{eqb-false, eqb-true}
use Rattle.standing.specs.SeenLaws.{device_in, sees_nothing, sees_shown}
use Rattle.standing.proofs.sees.Goals as goal

pub returns-then-eq : goal.returns-then-eq
returns-then-eq c = sees_nothing _ c.requires.1 _ _ c.device-v.ensures _ (eqb-true _ _ (sym c.eq.ensures ∙ c.if-eq.true))

pub holds-requires : goal.holds-requires
holds-requires c =
    let n = device_in _ c.requires.1 _ _ c.device-v.ensures (eqb-false _ _ (sym c.eq.ensures ∙ c.if-eq.false)) in
    (c.requires.0.0, n.0, n.1)

pub returns : goal.returns
returns c =
    let n = eqb-false _ _ (sym c.eq.ensures ∙ c.if-eq.false) in
    sees_shown _ c.requires.1 _ _ c.device-v.ensures _ n c.requires.2 _ c.holds.ensures
