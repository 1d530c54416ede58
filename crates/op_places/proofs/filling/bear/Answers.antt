use Rattle.model.specs.Tables.Layout.{tables_of}
use Rattle.op_places.specs.FillLaws.{bear_stores}
use Rattle.op_places.proofs.filling.bear.Goals as goal

pub returns : goal.returns
returns c =
    bear_stores (tables_of c.args.t.now) _ _ _ _ _ _ _ c.sort_kind.ensures c.sort_type.ensures _ _ _ _ c.set_kind.ensures
    c.set_type.ensures c.set_level.ensures c.copy_triples.ensures
