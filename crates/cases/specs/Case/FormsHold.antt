-- What is well-made is not answered 5, and what is malformed is: each table by one computation.
use Rattle.std.specs.Prelude.{true, map, ◌≡◌, refl, ℕ, drop, take}
use Rattle.cases.specs.Case.Forms.{Form, all5, form, forms, malformed, none5, well_made}
use Rattle.cases.specs.Case.Opened.{opened_forms}
use Rattle.cases.specs.Case.S1.{s1, s1_sheet}
use Rattle.model.specs.Request.Operations.{number_of, operations}

-- every operation has its form, in the order of the model's list
abbrev number_in : Form → ℕ
number_in (form n r s a b c) = n

pub forms_complete : map number_in forms ≡ map number_of operations
unfolding forms operations
forms_complete = refl

pub well_made_passes : none5 s1 (well_made forms) ≡ true
unfolding opened_forms s1 s1_sheet
well_made_passes = refl

-- the malformed requests for operations 1 to 5,
pub malformed1to5_refused : all5 s1 (malformed (take 5 forms)) ≡ true
unfolding opened_forms s1 s1_sheet
malformed1to5_refused = refl

-- 6 to 10,
pub malformed6to10_refused : all5 s1 (malformed (take 5 (drop 5 forms))) ≡ true
unfolding opened_forms s1 s1_sheet
malformed6to10_refused = refl

-- 11 to 15,
pub malformed11to15_refused : all5 s1 (malformed (take 5 (drop 10 forms))) ≡ true
unfolding opened_forms s1 s1_sheet
malformed11to15_refused = refl

-- and all from 16 on
pub malformed16to20_refused : all5 s1 (malformed (drop 15 forms)) ≡ true
unfolding opened_forms s1 s1_sheet
malformed16to20_refused = refl
