use Rattle.std.proofs.Common.{arith}
use Rattle.model.specs.Tables.LayoutLaws.{bounded}
use Rattle.state.specs.OwnLaws.{own_holding, own_triples}
use Rattle.state.proofs.entities.present_fine.Goals as goal

pub returns-then-not-holding_fine : goal.returns-then-not-holding_fine
returns-then-not-holding_fine c =
    own_holding _ (bounded _) _ (omega (arith, c.requires.1, c.requires.2)) _
    c.holding_fine.ensures c.if-not-holding_fine.true

pub returns : goal.returns
returns c =
    own_triples _ (bounded _) _ (omega (arith, c.requires.1, c.requires.2)) _ c.holding_fine.ensures
    c.if-not-holding_fine.false _ c.triples_fine.ensures
