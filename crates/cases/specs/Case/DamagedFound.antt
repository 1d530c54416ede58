-- The state check finds every damage, with its number: each table by one computation.
use Rattle.std.specs.Prelude.{true, ◌≡◌, refl}
use Rattle.cases.specs.Case.Damaged.{all_found, link_damages, put_words, range_damages, record_damages, secure_damages}
use Rattle.cases.specs.Case.Opened.{opened}
use Rattle.cases.specs.Case.S1.{s1, s1_sheet}

pub ranges_found : all_found s1 range_damages ≡ true
unfolding opened put_words all_found s1 s1_sheet range_damages
ranges_found = refl

pub records_found : all_found s1 record_damages ≡ true
unfolding opened put_words all_found s1 s1_sheet record_damages
records_found = refl

pub links_found : all_found s1 link_damages ≡ true
unfolding opened put_words all_found s1 s1_sheet link_damages
links_found = refl

pub insecure_found : all_found s1 secure_damages ≡ true
unfolding opened put_words all_found s1 s1_sheet secure_damages
insecure_found = refl
