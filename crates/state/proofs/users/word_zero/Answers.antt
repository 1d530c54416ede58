use Rattle.state.proofs.users.word_zero.Goals as goal

pub returns : goal.returns
returns c = rw c.word_at.ensures
