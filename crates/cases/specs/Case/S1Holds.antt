-- Case state S1 is well-formed and secure, and its cases hold: each table by one computation.
use Rattle.std.specs.Prelude.{true, ◌≡◌, refl}
use Rattle.cases.specs.Case.Cases.{all_pass}
use Rattle.cases.specs.Case.Opened.{opened}
use Rattle.cases.specs.Case.S1.{s1, s1_sheet, starred, unstarred}
use Rattle.model.specs.Request.After.{after}
use Rattle.model.specs.State.AgreeSecure.{judge_good}
use Rattle.model.specs.State.Check.{judge}
use Rattle.model.specs.State.Secure.{Good}
use Rattle.model.specs.Tables.Sheet.{sheet_tables}
use Rattle.model.specs.Tables.SheetLaws.{sheet_bounded}
use Rattle.model.specs.Theorem.Definitions.{SystemSecure}
use Rattle.model.proofs.Theorem.System.{system_secure}

pub s1_judged : judge s1 ≡ 0
unfolding opened s1 s1_sheet
s1_judged = refl

pub starred_hold : all_pass s1 starred ≡ true
unfolding opened s1 s1_sheet starred
starred_hold = refl

pub unstarred_hold : all_pass s1 unstarred ≡ true
unfolding opened s1 s1_sheet unstarred
unstarred_hold = refl

-- so S1 is well-formed and secure, as statements, and so is what every history of requests makes of it
pub s1_good : Good s1
unfolding s1
s1_good = judge_good (sheet_tables s1_sheet) (sheet_bounded s1_sheet) s1_judged

pub s1_system : SystemSecure after s1
s1_system = system_secure s1 s1_good
