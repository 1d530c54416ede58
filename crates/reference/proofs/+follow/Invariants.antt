use Rattle.std.proofs.Common.{length}
use Rattle.reference.proofs.+follow.Given as goal

abbrev pub decreases-follow : goal.decreases-follow
decreases-follow l = length l.names.now
