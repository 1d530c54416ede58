use Rattle.std.proofs.Common.{arith, ◌∙◌}
use Rattle.std.proofs.lemmas.Grind.{common_steps}
use Rattle.reference.specs.WayLaws.{follow_end, follow_on, follow_stop}
use Rattle.reference.proofs.+follow.Goals as goal

pub returns-in_default : goal.returns-in_default
returns-in_default t c =
    follow_end _ c.args.l.0 c.args.e c.args.clear _ c.requires.0.1 (omega arith)

pub returns-then-not-contains : goal.returns-then-not-contains
returns-then-not-contains t c =
    follow_stop _ c.args.l.0 c.args.e.0 c.args.clear _ (omega arith) (λ z. grind (arith, common_steps, c.contains.ensures.cases))

pub returns : goal.returns
returns t c =
    c.follow.ensures ∙ rw c.is_bar.ensures (follow_on _ c.args.l.0 c.args.e.0
    c.place-c.result.0 c.args.clear _ (omega arith) (grind (arith, common_steps)) (grind (arith, common_steps)) c.place-c.ensures)
