use Rattle.std.proofs.Common.{arith, sym, ◌∙◌, ◌≢◌}
use Rattle.std.proofs.lemmas.Bool.{eqb-false, eqb-true}
use Rattle.standing.specs.InsideLaws.{climb_end, climb_met, climb_on, climb_top}
use Rattle.standing.proofs.inside.Goals as goal

pub returns-then-eq : goal.returns-then-eq
returns-then-eq c =
    climb_met _ _ _ _ (omega arith)
    (eqb-true _ _ (sym c.eq.ensures ∙ c.if-eq.true)) ∙ c.loop-i.invariant.1

pub returns-then-eq-2 : goal.returns-then-eq-2
returns-then-eq-2 c =
    climb_top _ _ _ _ (eqb-false _ _ (sym c.eq.ensures ∙ c.if-eq.false))
    (sym c.holder-y.ensures ∙ eqb-true _ _ (sym c.eq-in-loop-i.ensures ∙ c.if-eq-2.true)) ∙ c.loop-i.invariant.1

pub loop-i-preserved : goal.loop-i-preserved
loop-i-preserved c =
    let n : c.holder-y.result.0 ≢ 0 = eqb-false _ _ (sym c.eq-in-loop-i.ensures ∙ c.if-eq-2.false) in (
      omega (arith, n),
      climb_on _ _ _ _ _ _ (omega arith)
          c.holder-y.ensures (eqb-false _ _ (sym c.eq.ensures ∙ c.if-eq.false)) n ∙ c.loop-i.invariant.1,
    )

pub returns : goal.returns
returns c = climb_end _ _ _ _ (omega arith) ∙ c.loop-i.invariant.1
