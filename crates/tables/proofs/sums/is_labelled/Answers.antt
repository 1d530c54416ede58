use Rattle.laws.specs.Bools.{or_imp}
use Rattle.model.specs.State.Secure.{labelled}
use Rattle.tables.proofs.sums.is_labelled.Goals as goal

pub returns : goal.returns
unfolding labelled
returns c = rw (c.has_bit.ensures, c.has_bit-2.ensures) (or_imp _ _)
