use Rattle.std.proofs.Common.{refl, rules}
use Rattle.laws.specs.Ranges.{every_all}
use Rattle.state.specs.RowLaws.{new_of, new_zero}
use Rattle.state.proofs.entities.place_new.Goals as goal

pub returns-then-x-eq0 : goal.returns-then-x-eq0
returns-then-x-eq0 c = new_zero _ _ _ c.place-x.ensures c.if-x-eq0.true

pub returns : goal.returns
returns c = new_of _ _ _ c.place-x.ensures c.if-x-eq0.false _ (every_all _ _ _ _ _ _ c.all.ensures.ran refl (λ x b q k. search rules))
