use Rattle.std.proofs.Common.{arith, sym, ◌∙◌}
use Rattle.laws.specs.Loops.{every_none}
use Rattle.standing.specs.SeenLaws.{seen_here, seen_nowhere, unseen_more}
use Rattle.standing.proofs.on_screen.Goals as goal

pub loop-i-init : goal.loop-i-init
loop-i-init c = every_none _

pub returns-then-sees : goal.returns-then-sees
returns-then-sees c =
    seen_here _ c.requires.1 _ _ c.loop-i-test.true (sym c.sees.ensures ∙ c.if-sees.true)

pub loop-i-preserved : goal.loop-i-preserved
loop-i-preserved c = unseen_more _ c.requires.1 _ _ c.loop-i.invariant (sym c.sees.ensures ∙ c.if-sees.false)

pub returns : goal.returns
returns c = seen_nowhere _ c.requires.1 _ _ c.loop-i.auto.i-end (omega arith) c.loop-i.invariant
