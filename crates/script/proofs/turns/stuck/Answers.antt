use Rattle.std.proofs.Common.{refl}
use Rattle.script.proofs.turns.stuck.Goals as goal

pub returns : goal.returns
returns c = rw (c.bare.ensures, c.from.ensures) refl
