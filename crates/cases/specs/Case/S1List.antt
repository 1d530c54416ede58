-- Document 01, "Case state S1"; rule 13: the disclosure lists of S1, for every room. Each is computed over the sheet, and said of the words that a
-- program reads.
use mathlib.Core.List.{List, [], ◌++◌, ◌∷◌}
use Rattle.std.proofs.Common.{◌∙◌, ap, subst, arith, length-set}
use Rattle.std.specs.Prelude.{◌≡◌, refl, ◌<◌, ◌≤◌, ℕ, drop, length, set}
use Rattle.cases.specs.Case.Opened.{opened_list}
use Rattle.cases.specs.Case.S1.{s1, s1_sheet}
use Rattle.cases.specs.Case.S1Words.{s1_words, s1_words_checked, s1_words_length, s1_words_tables}
use Rattle.model.specs.Effect.Words.{set_mark}
use Rattle.model.proofs.List.AdmittedLaws.{barred_checked}
use Rattle.model.specs.List.Listing.{Lists, barred, entries}
use Rattle.model.proofs.List.ListingLaws.{lists_found, lists_found_short, lists_refused}
use Rattle.model.specs.List.Ways.{found}
use Rattle.model.specs.State.AgreeSecure.{check_tables}
use Rattle.model.specs.State.Check.{check, judge}
use Rattle.model.specs.Tables.Layout.{entity_at, tables_of, word_count}
use Rattle.model.specs.Tables.LayoutLaws.{entity_set}
use Rattle.model.specs.Tables.Words.{Tables, mark}
use Rattle.model.specs.Request.Refusals as refusal

-- What the walk finds: nothing for user 1; 5 for user 2; with 4 unmarked 4.1, too.
pub s1_found_1 : found s1 1 ≡ []
unfolding opened_list s1 s1_sheet
s1_found_1 = refl

pub s1_found_2 : found s1 2 ≡ (5 ∷ []) ∷ []
unfolding opened_list s1 s1_sheet
s1_found_2 = refl

pub unmarked_found_2 : found (set_mark 4 0 s1) 2 ≡ (4 ∷ 1 ∷ []) ∷ (5 ∷ []) ∷ []
unfolding opened_list s1 s1_sheet
unmarked_found_2 = refl

unmarked_judged : judge (set_mark 4 0 s1) ≡ 0
unfolding opened_list s1 s1_sheet
unmarked_judged = refl

-- S1's words with the mark of 4 taken away: they give those tables, and the state check passes them
unfoldable pub s1_unmarked : List ℕ
s1_unmarked = set s1_words (entity_at 4 mark) 0

pub s1_unmarked_tables : tables_of s1_unmarked ≡ set_mark 4 0 s1
unfolding s1_unmarked
s1_unmarked_tables = entity_set s1_words s1_words_length 4 mark 0 (omega arith) (omega arith) (omega arith) ∙ ap (set_mark 4 0) s1_words_tables

pub s1_unmarked_length : length s1_unmarked ≡ word_count
unfolding s1_unmarked
s1_unmarked_length = length-set s1_words (entity_at 4 mark) 0 ∙ s1_words_length

pub s1_unmarked_checked : check s1_unmarked ≡ 0
s1_unmarked_checked = check_tables s1_unmarked s1_unmarked_length ∙ ap judge s1_unmarked_tables ∙ unmarked_judged

-- Users 1 and 2 are on, 3 is off, and there is no user 9.
pub s1_barred_1 : barred s1_words 1 ≡ 0
unfolding opened_list s1 s1_sheet
s1_barred_1 = barred_checked s1_words s1 1 s1_words_checked s1_words_tables

pub s1_barred_2 : barred s1_words 2 ≡ 0
unfolding opened_list s1 s1_sheet
s1_barred_2 = barred_checked s1_words s1 2 s1_words_checked s1_words_tables

pub s1_barred_3 : barred s1_words 3 ≡ refusal.not_logged_on
unfolding opened_list s1 s1_sheet
s1_barred_3 = barred_checked s1_words s1 3 s1_words_checked s1_words_tables

pub s1_barred_9 : barred s1_words 9 ≡ refusal.unknown_requester
unfolding opened_list s1 s1_sheet
s1_barred_9 = barred_checked s1_words s1 9 s1_words_checked s1_words_tables

pub unmarked_barred_2 : barred s1_unmarked 2 ≡ 0
unfolding opened_list s1 s1_sheet
unmarked_barred_2 = barred_checked s1_unmarked (set_mark 4 0 s1) 2 s1_unmarked_checked s1_unmarked_tables

module _ (room : List ℕ) where
  -- User 2's list is 5,
  pub s1_list_2 : 5 ≤ length room → Lists s1_words 2 room 0 1 ((1 ∷ 5 ∷ 0 ∷ 0 ∷ 0 ∷ []) ++ drop 5 room)
  unfolding entries
  s1_list_2 = lists_found s1_words 2 room ((5 ∷ []) ∷ []) s1_barred_2 (ap (λ (d : Tables). found d 2) s1_words_tables ∙ s1_found_2)

  -- and a room of fewer than five words is too small for it.
  pub s1_list_2_short : length room < 5 → Lists s1_words 2 room refusal.too_short 1 room
  s1_list_2_short = lists_found_short s1_words 2 room ((5 ∷ []) ∷ []) s1_barred_2 (ap (λ (d : Tables). found d 2) s1_words_tables ∙ s1_found_2)

  -- With 4 unmarked it is 4.1, then 5.
  pub s1_list_unmarked : 10 ≤ length room → Lists s1_unmarked 2 room 0 2 ((2 ∷ 4 ∷ 1 ∷ 0 ∷ 0 ∷ 1 ∷ 5 ∷ 0 ∷ 0 ∷ 0 ∷ []) ++ drop 10 room)
  unfolding entries
  s1_list_unmarked = lists_found s1_unmarked 2 room ((4 ∷ 1 ∷ []) ∷ (5 ∷ []) ∷ []) unmarked_barred_2
      (ap (λ (d : Tables). found d 2) s1_unmarked_tables ∙ unmarked_found_2)

  pub s1_list_unmarked_short : length room < 10 → Lists s1_unmarked 2 room refusal.too_short 2 room
  s1_list_unmarked_short = lists_found_short s1_unmarked 2 room ((4 ∷ 1 ∷ []) ∷ (5 ∷ []) ∷ []) unmarked_barred_2
      (ap (λ (d : Tables). found d 2) s1_unmarked_tables ∙ unmarked_found_2)

  -- User 1's list is empty, and every room is large enough.
  pub s1_list_1 : Lists s1_words 1 room 0 0 room
  unfolding entries
  s1_list_1 = lists_found s1_words 1 room [] s1_barred_1 (ap (λ (d : Tables). found d 1) s1_words_tables ∙ s1_found_1) (omega arith)

  -- User 3 is off: 6. There is no user 9: 4.
  pub s1_list_off : Lists s1_words 3 room refusal.not_logged_on 0 room
  s1_list_off = subst (λ (a : ℕ). Lists s1_words 3 room a 0 room) s1_barred_3 (lists_refused s1_words 3 room (λ z. omega (arith, s1_barred_3)))

  pub s1_list_unknown : Lists s1_words 9 room refusal.unknown_requester 0 room
  s1_list_unknown = subst (λ (a : ℕ). Lists s1_words 9 room a 0 room) s1_barred_9 (lists_refused s1_words 9 room (λ z. omega (arith, s1_barred_9)))
