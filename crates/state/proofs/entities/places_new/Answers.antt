use Rattle.std.proofs.Common.{refl, rules, sym, ◌∙◌}
use Rattle.laws.specs.Ranges.{every_all}
use Rattle.model.specs.Tables.LayoutLaws.{bounded}
use Rattle.state.specs.UnlikeLaws.{places_unlike, unlike_few}
use Rattle.state.proofs.entities.places_new.Goals as goal

pub returns-then-n-le1 : goal.returns-then-n-le1
returns-then-n-le1 c = unlike_few _ _ c.if-n-le1.true

pub returns : goal.returns
returns c =
    every_all _ _ _ _ _ _ c.all.ensures.ran refl (λ x b q k. search rules) ∙ sym
    (places_unlike _ (bounded _) _ _ c.requires.1 c.requires.2 c.requires.3)
