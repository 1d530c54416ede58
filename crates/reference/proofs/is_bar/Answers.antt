use Rattle.std.proofs.Common.{eq-eqb, ne_eqb}
use Rattle.reference.specs.Ways.{bar}
use Rattle.reference.proofs.is_bar.Goals as goal

pub returns-then-mark-eq0 : goal.returns-then-mark-eq0
unfolding bar
returns-then-mark-eq0 c = rw (← c.mark.ensures, eq-eqb c.mark.result 0 c.if-mark-eq0.true)

pub returns : goal.returns
unfolding bar
returns c =
    rw (
      c.at_most.ensures,
      c.level.ensures,
      ← c.mark.ensures,
      ne_eqb c.mark.result 0
          c.if-mark-eq0.false,
    )
