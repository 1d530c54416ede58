use Rattle.std.proofs.Common.{arith}
use Rattle.model.specs.State.ParentLaws.{row_room}
use Rattle.rows.specs.Rows.{place_at_most}
use Rattle.rows.specs.NameLaws.{place_inside}
use Rattle.rows.proofs.place_at_most.Goals as goal

pub place-requires : goal.place-requires
place-requires c = (c.requires.0, omega (arith, c.requires.2, row_room _ c.requires.1 c.args.v.0))

pub level-requires : goal.level-requires
level-requires c =
    let p = c.requires in
    let r = place_inside _ p.1 _ _ p.2 in
    (p.0.0, omega (arith, c.place.ensures, r.0), omega (arith, c.place.ensures, r.1))

pub returns : goal.returns
unfolding place_at_most
returns c = rw (c.at_most.ensures, c.level.ensures, c.place.ensures)
