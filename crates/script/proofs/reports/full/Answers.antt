use Rattle.std.proofs.Common.{refl}
use Rattle.script.proofs.reports.full.Goals as goal

pub returns : goal.returns
returns c = rw (c.held.ensures, c.missed.ensures) refl
