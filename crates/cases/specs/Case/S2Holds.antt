-- Case state S2 is well-formed and secure, and its cases hold: one table, by one computation.
use Rattle.std.specs.Prelude.{true, List, ◌++◌, ◌≡◌, refl}
use Rattle.cases.specs.Case.Cases.{Case, all_pass}
use Rattle.cases.specs.Case.Opened.{opened}
use Rattle.cases.specs.Case.S2.{s2, s2_sheet}
use Rattle.cases.specs.Case.S2Cases14to20.{acknowledge_cases, authorised_cases, clearance_cases, current_cases, device_level_cases}
use Rattle.cases.specs.Case.S2Cases14to20.{ladder_cases, maximum_cases, release_cases}
use Rattle.cases.specs.Case.S2Cases1to5.{copy_cases, create_cases, delete_cases, edit_cases, move_cases}
use Rattle.cases.specs.Case.S2Cases6to13.{clear_cases, grant_cases, level_cases, login_cases, logout_cases, mark_cases, revoke_cases}
use Rattle.cases.specs.Case.S2Cases6to13.{show_cases}
use Rattle.model.specs.State.AgreeSecure.{judge_good}
use Rattle.model.specs.State.Check.{judge}
use Rattle.model.specs.State.Secure.{Good}
use Rattle.model.specs.Tables.Sheet.{sheet_tables}
use Rattle.model.specs.Tables.SheetLaws.{sheet_bounded}

pub s2_judged : judge s2 ≡ 0
unfolding opened s2 s2_sheet
s2_judged = refl

pub s2_good : Good s2
unfolding s2
s2_good = judge_good (sheet_tables s2_sheet) (sheet_bounded s2_sheet) s2_judged

-- every case, operation by operation, and those of the ladder
unfoldable pub s2_cases : List Case
s2_cases = create_cases
    ++ (delete_cases
    ++ (move_cases
    ++ (edit_cases
    ++ (copy_cases
    ++ (level_cases
    ++ (mark_cases
    ++ (grant_cases
    ++ (revoke_cases
    ++ (show_cases
    ++ (clear_cases
    ++ (login_cases
    ++ (logout_cases
    ++ (current_cases
    ++ (clearance_cases
    ++ (authorised_cases
    ++ (maximum_cases
    ++ (device_level_cases
    ++ (release_cases
    ++ (acknowledge_cases
    ++ (ladder_cases))))))))))))))))))))

pub s2_hold : all_pass s2 s2_cases ≡ true
unfolding opened s2 s2_sheet s2_cases create_cases delete_cases move_cases edit_cases copy_cases level_cases mark_cases grant_cases revoke_cases show_cases
    clear_cases login_cases logout_cases current_cases clearance_cases authorised_cases maximum_cases device_level_cases release_cases acknowledge_cases
    ladder_cases
s2_hold = refl
