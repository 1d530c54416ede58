use Rattle.std.proofs.Common.{Bool, false, refl, sym, true, ◌≡◌, ◌∙◌}
use Rattle.std.proofs.lemmas.Result.{err_from_is_err_and}
use Rattle.model.specs.State.Check.{secure_test, well_formed_test}
use Rattle.model.specs.Tables.Layout.{tables_of}
use Rattle.model.specs.Tables.LayoutLaws.{bounded}
use Rattle.state.specs.JudgingLaws.{all_low, all_secure_lem, judge_graded, judge_unformed, not_secure_lem, ways_left}
use Rattle.state.specs.NotedLaws.{noted_none}
use Rattle.state.specs.PassLaws.{amiss_fails, devices_fail, users_fail}
use Rattle.secure.specs.SecureLaws.{secure_rest}
use Rattle.state.proofs.judged.Goals.{After-all_end, After-users_secure}
use Rattle.state.proofs.judged.Goals as goal

-- the ways up decide whether the tables are well-formed
formed : (c : After-all_end) → c.all_end.result ≡ well_formed_test (tables_of c.args.t.now)
formed c =
    ways_left (tables_of _) _ _ c.in_ok-kept.ensures (bounded _) _ c.users_fine.ensures c.if-not-users_fine.false _
    c.devices_fine.ensures c.if-not-devices_fine.false _ c.all_end.ensures

-- and the users then, whether they are secure
graded : {b : Bool} (c : After-users_secure) → c.users_secure.result ≡ b → b ≡ secure_test (tables_of c.args.t.now)
graded c e =
    sym e ∙ secure_rest (tables_of _) _ refl (all_secure_lem (tables_of _) _ _ c.in_ok-kept.ensures c.if-not-kept.false) _
    c.users_secure.ensures

pub returns-then-not-users_fine : goal.returns-then-not-users_fine
returns-then-not-users_fine c = judge_unformed _ (users_fail (tables_of _) (bounded _) _ c.users_fine.ensures c.if-not-users_fine.true)

pub returns-then-not-devices_fine : goal.returns-then-not-devices_fine
returns-then-not-devices_fine c =
    judge_unformed _ (devices_fail (tables_of _) (bounded _) _ c.users_fine.ensures
    c.if-not-users_fine.false _ c.devices_fine.ensures c.if-not-devices_fine.true)

pub entities_judged-requires : goal.entities_judged-requires
entities_judged-requires c = (c.requires, noted_none _ _ refl)

pub returns-in_err-kept : goal.returns-in_err-kept
returns-in_err-kept c =
    let p = err_from_is_err_and c.from_residual.result c.from_residual.ensures.1 in
    rw (p.1, p.2, c.in_err-kept.ensures.0) (judge_unformed _ (amiss_fails (tables_of _) (bounded _) _
    c.users_fine.ensures c.if-not-users_fine.false _ c.devices_fine.ensures c.if-not-devices_fine.false c.in_err-kept.ensures.1))

pub all_end-requires : goal.all_end-requires
all_end-requires c = all_low (tables_of _) _ _ c.in_ok-kept.ensures (bounded _)

pub returns-then-not-all_end : goal.returns-then-not-all_end
returns-then-not-all_end c = judge_unformed _ (sym c.if-not-all_end.true ∙ formed (goal.at.returns-then-not-all_end c).After-all_end)

pub returns-then-not-kept : goal.returns-then-not-kept
returns-then-not-kept c =
    not_secure_lem (tables_of _) _ _ c.in_ok-kept.ensures
    (sym c.if-not-all_end.false ∙ formed (goal.at.returns-then-not-kept c).After-all_end) c.if-not-kept.true

pub users_secure-requires : goal.users_secure-requires
users_secure-requires c =
    (c.requires, all_secure_lem (tables_of _) _ _ c.in_ok-kept.ensures c.if-not-kept.false)

pub returns-then-not-users_secure : goal.returns-then-not-users_secure
returns-then-not-users_secure c =
    judge_graded (tables_of _) false
    (sym c.if-not-all_end.false ∙ formed (goal.at.returns-then-not-users_secure c).After-all_end)
    (graded (goal.at.returns-then-not-users_secure c).After-users_secure c.if-not-users_secure.true)

pub returns : goal.returns
returns c =
    judge_graded (tables_of _) true (sym c.if-not-all_end.false ∙ formed (goal.at.returns c).After-all_end)
    (graded (goal.at.returns c).After-users_secure c.if-not-users_secure.false)
