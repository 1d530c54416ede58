use Rattle.std.proofs.Common.{arith, sym, ◌∙◌}
use Rattle.laws.specs.Loops.{every_done, every_fails, every_more, every_none}
use Rattle.secure.proofs.places_secure.Goals as goal

pub loop-i-init : goal.loop-i-init
loop-i-init c = every_none _

pub returns-then-not-place_secure : goal.returns-then-not-place_secure
returns-then-not-place_secure c = every_fails _ _ _ c.loop-i-test.true (sym c.place_secure.ensures ∙ c.if-not-place_secure.true)

pub loop-i-preserved : goal.loop-i-preserved
loop-i-preserved c = every_more _ _ c.loop-i.invariant (sym c.place_secure.ensures ∙ c.if-not-place_secure.false)

pub returns : goal.returns
returns c = every_done _ _ _ c.loop-i.invariant (omega arith) (omega arith)
