use Rattle.disclosure.specs.VisitLaws.{here_no, here_yes}
use Rattle.disclosure.proofs.walk.visit_last.Goals as goal

pub returns-then-not-shown : goal.returns-then-not-shown
returns-then-not-shown c = here_no c.args.shown _ _ _ c.if-not-shown.true

pub returns : goal.returns
returns c =
    here_yes c.args.shown _ _ _ _ c.if-not-shown.false c.put_last.ensures
