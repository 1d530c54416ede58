use Rattle.state.specs.RowLaws.{place_beyond, place_within}
use Rattle.state.proofs.entities.place_fine.Goals as goal

pub returns-then-n-i : goal.returns-then-n-i
returns-then-n-i c =
    place_beyond _ _ _ _ _ _ c.requires.1.0 c.place-c.ensures c.shown-v.ensures c.if-n-i.true

pub returns : goal.returns
returns c =
    place_within _ _ _ _ _ _ c.requires.1.0 c.place-c.ensures c.shown-v.ensures c.if-n-i.false _
    _ c.kind_or_zero-k.ensures c.requires.1.1
