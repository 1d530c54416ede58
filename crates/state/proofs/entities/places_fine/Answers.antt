use Rattle.std.proofs.Common.{refl, rules}
use Rattle.laws.specs.Ranges.{every_all}
use Rattle.state.proofs.entities.places_fine.Goals as goal

pub returns : goal.returns
returns c = every_all _ _ _ _ _ _ c.all.ensures.ran refl (λ x b q k. search rules)
