use Rattle.state.proofs.entities.place_other.Goals as goal

pub returns : goal.returns
returns c = rw c.place.ensures
