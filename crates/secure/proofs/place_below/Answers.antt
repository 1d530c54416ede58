use Rattle.secure.proofs.place_below.Goals as goal

pub returns : goal.returns
returns c = rw (c.at_most.ensures, c.level_or_zero.ensures, c.place.ensures)
