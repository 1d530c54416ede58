-- The disclosure list of case state S4, for every room: references of one to four names, one through a device, two directly before what
-- continues them, and all but two of them kept away by a full screen (rules 10.3 to 10.5).
use Rattle.std.specs.Prelude.{List, [], ◌++◌, ◌∷◌, map, ◌≡◌, refl, ◌<◌, ◌≤◌, ℕ, drop, length}
use Rattle.std.proofs.Common.{◌∙◌, ap}
use Rattle.std.proofs.Math.Path.{fun_ext}
use Rattle.cases.specs.Case.Opened.{opened_list}
use Rattle.cases.specs.Case.S4.{s4, s4_sheet}
use Rattle.model.proofs.List.AdmittedLaws.{barred_checked}
use Rattle.model.specs.List.Listing.{Lists, barred, entries, showing}
use Rattle.model.proofs.List.ListingLaws.{lists_found, lists_found_short}
use Rattle.model.specs.List.Ways.{found}
use Rattle.model.specs.Request.Ladder.{answer}
use Rattle.model.specs.Request.Step.{answer_of}
use Rattle.model.specs.Request.Words.{request_of}
use Rattle.model.specs.State.AgreeSecure.{check_tables, judge_good}
use Rattle.model.specs.State.Check.{check, judge}
use Rattle.model.specs.State.Secure.{Good}
use Rattle.model.specs.Tables.Layout.{tables_of}
use Rattle.model.specs.Tables.Sheet.{sheet_tables, sheet_words}
use Rattle.model.specs.Tables.SheetLaws.{sheet_bounded, sheet_tables_lem, sheet_words_length}
use Rattle.model.specs.Tables.Words.{Tables}
use Rattle.model.proofs.Theorem.Steps.{answer_of_sized, sized_agrees}
use Rattle.model.specs.Request.Refusals as refusal

-- S4 is well-formed and secure.
pub s4_judged : judge s4 ≡ 0
unfolding opened_list s4 s4_sheet
s4_judged = refl

pub s4_good : Good s4
unfolding s4
s4_good = judge_good (sheet_tables s4_sheet) (sheet_bounded s4_sheet) s4_judged

-- What the walk finds: 6 by itself and on the device, 3 by up to three names, 5 by up to four. It does not find 2, which is over the level
-- of the screen, nor 5 by five names from 14.
abbrev pub s4_found : List (List ℕ)
s4_found = (1 ∷ 1 ∷ []) ∷ (2 ∷ 1 ∷ []) ∷ (2 ∷ 1 ∷ 1 ∷ 1 ∷ []) ∷ (3 ∷ []) ∷ (3 ∷ 1 ∷ 1 ∷ []) ∷ (4 ∷ 1 ∷ []) ∷ (5 ∷ []) ∷ (6 ∷ [])
    ∷ (14 ∷ 1 ∷ 1 ∷ []) ∷ []

pub s4_found_lem : found s4 1 ≡ s4_found
unfolding opened_list s4 s4_sheet
s4_found_lem = refl

-- the words of S4: they give its tables, the state check passes them, and user 1 is on
abbrev pub s4_words : List ℕ
s4_words = sheet_words s4_sheet

pub s4_words_tables : tables_of s4_words ≡ s4
unfolding s4
s4_words_tables = sheet_tables_lem s4_sheet

pub s4_words_checked : check s4_words ≡ 0
s4_words_checked = check_tables s4_words (sheet_words_length s4_sheet) ∙ ap judge s4_words_tables ∙ s4_judged

pub s4_barred : barred s4_words 1 ≡ 0
unfolding opened_list s4 s4_sheet
s4_barred = barred_checked s4_words s4 1 s4_words_checked s4_words_tables

module _ (room : List ℕ) where
  -- User 1's list is 1.1, 2.1, 2.1.1.1, 3, 3.1.1, 4.1, 5, 6 and 14.1.1,
  pub s4_list : 45 ≤ length room → Lists s4_words 1 room 0 9 ((2 ∷ 1 ∷ 1 ∷ 0 ∷ 0 ∷ 2 ∷ 2 ∷ 1 ∷ 0 ∷ 0 ∷ 4 ∷ 2 ∷ 1 ∷ 1 ∷ 1 ∷ 1 ∷ 3 ∷ 0 ∷ 0 ∷ 0
      ∷ 3 ∷ 3 ∷ 1 ∷ 1 ∷ 0 ∷ 2 ∷ 4 ∷ 1 ∷ 0 ∷ 0 ∷ 1 ∷ 5 ∷ 0 ∷ 0 ∷ 0 ∷ 1 ∷ 6 ∷ 0 ∷ 0 ∷ 0 ∷ 3 ∷ 14 ∷ 1 ∷ 1 ∷ 0 ∷ []) ++ drop 45 room)
  unfolding entries
  s4_list = lists_found s4_words 1 room s4_found s4_barred (ap (λ (d : Tables). found d 1) s4_words_tables ∙ s4_found_lem)

  -- and a room of fewer than forty-five words is too small for it.
  pub s4_list_short : length room < 45 → Lists s4_words 1 room refusal.too_short 9 room
  s4_list_short = lists_found_short s4_words 1 room s4_found s4_barred (ap (λ (d : Tables). found d 1) s4_words_tables ∙ s4_found_lem)

-- what the step answers on the words is what it answers on S4
s4_answer : (r : List ℕ) → answer_of s4_words (showing 1 r) ≡ answer s4 (request_of (showing 1 r))
unfolding showing
s4_answer r = answer_of_sized s4_words (showing 1 r) ((sized_agrees s4_words (showing 1 r)).from (sheet_words_length s4_sheet, refl))
    ∙ ap (λ (d : Tables). answer d (request_of (showing 1 r))) s4_words_tables

-- Rule 10.3: the full screen keeps away what each entry names, but for 1.1 and 6, which name what is on the screen already;
pub s4_answers : map (λ r. answer_of s4_words (showing 1 r)) s4_found
    ≡ 0 ∷ refusal.no_room ∷ refusal.no_room ∷ refusal.no_room ∷ refusal.no_room ∷ refusal.no_room ∷ refusal.no_room ∷ 0 ∷ refusal.no_room ∷ []
unfolding opened_list s4 s4_sheet
s4_answers = ap (λ (f : List ℕ → ℕ). map f s4_found) (fun_ext s4_answer)

-- and 2, which is not on the list, is over the level of the screen.
pub s4_above : answer_of s4_words (showing 1 (2 ∷ [])) ≡ refusal.level_or_roles
unfolding opened_list s4 s4_sheet
s4_above = s4_answer (2 ∷ [])
