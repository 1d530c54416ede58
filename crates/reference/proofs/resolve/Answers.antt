use Rattle.std.proofs.Common.{arith, refl, sym, ◌∙◌}
use Rattle.std.proofs.lemmas.Grind.{common_steps}
use Rattle.reference.specs.WayLaws.{resolve_on, resolve_one, resolve_stop}
use Rattle.reference.proofs.resolve.Goals as goal

pub returns-then-not-contains : goal.returns-then-not-contains
returns-then-not-contains c =
    resolve_stop _ c.args.l.0 _ c.requires.2 (λ z. let a = z.low in let b = z.high in grind (arith, common_steps, c.contains.ensures.cases))

pub returns-then-kind-eq-ABSENT : goal.returns-then-kind-eq-ABSENT
returns-then-kind-eq-ABSENT c =
    resolve_stop _ c.args.l.0 _ c.requires.2 (λ z. z.there (sym c.kind.ensures ∙ c.if-kind-eq-ABSENT.true))

pub returns-then-names-eq1 : goal.returns-then-names-eq1
returns-then-names-eq1 c =
    resolve_one _ c.args.l.0 _ _ refl c.if-names-eq1.true (record
    { low = grind (arith, common_steps); high = grind (arith, common_steps); there = λ z. c.if-kind-eq-ABSENT.false (c.kind.ensures ∙ z) })

pub returns : goal.returns
returns c =
    c.follow.ensures ∙ resolve_on _ c.args.l.0 _ _ refl c.requires.2 (record
    { low = grind (arith, common_steps); high = grind (arith, common_steps); there = λ z. c.if-kind-eq-ABSENT.false (c.kind.ensures ∙ z) })
