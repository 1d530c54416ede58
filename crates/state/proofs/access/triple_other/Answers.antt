use Rattle.state.proofs.access.triple_other.Goals as goal

pub returns : goal.returns
returns c = rw c.triple.ensures
