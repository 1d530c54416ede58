-- Case state S3 is well-formed and secure, and its cases hold: one table, by one computation.
use Rattle.std.specs.Prelude.{true, ◌≡◌, refl}
use Rattle.cases.specs.Case.Cases.{all_pass}
use Rattle.cases.specs.Case.Opened.{opened}
use Rattle.cases.specs.Case.S3.{full_cases, s3, s3_sheet}
use Rattle.model.specs.State.AgreeSecure.{judge_good}
use Rattle.model.specs.State.Check.{judge}
use Rattle.model.specs.State.Secure.{Good}
use Rattle.model.specs.Tables.Sheet.{sheet_tables}
use Rattle.model.specs.Tables.SheetLaws.{sheet_bounded}

pub s3_judged : judge s3 ≡ 0
unfolding opened s3 s3_sheet
s3_judged = refl

pub s3_good : Good s3
unfolding s3
s3_good = judge_good (sheet_tables s3_sheet) (sheet_bounded s3_sheet) s3_judged

pub s3_hold : all_pass s3 full_cases ≡ true
unfolding opened s3 s3_sheet full_cases
s3_hold = refl
