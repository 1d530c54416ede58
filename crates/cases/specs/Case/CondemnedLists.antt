-- Wrong disclosure lists of case state S1, and that the statement of the list rejects them, in every room that is large enough or too
-- small. A definition that were weaker would let one of them pass.
use Rattle.std.specs.Prelude.{List, [], ◌++◌, ◌∷◌, ◌≡◌, ◌<◌, ◌≤◌, ℕ, drop, get_or, length}
use Rattle.std.proofs.Common.{ap, arith}
use Rattle.cases.specs.Case.Condemned.{differ}
use Rattle.cases.specs.Case.S1List.{s1_list_2, s1_list_2_short, s1_list_off, s1_list_unmarked, s1_unmarked}
use Rattle.cases.specs.Case.S1Words.{s1_words}
use Rattle.model.specs.List.Listing.{Lists}
use Rattle.model.proofs.List.ListingLaws.{lists_unique}
use Rattle.model.specs.Request.Refusals as refusal

-- Rule 10.2: the desk offered a list to user 3, who is off.
pub offered_condemned : (room : List ℕ) (n : ℕ) (r : List ℕ) → Lists s1_words 3 room 0 n r → ⊥
offered_condemned room n r x = differ 0 refusal.not_logged_on tt (lists_unique x (s1_list_off room)).0

-- Rule 10.2: in a room of fewer than five words the desk answered 17 for user 2, and wrote in it all the same.
pub overwritten_condemned : (room r : List ℕ) → (r ≡ room → ⊥) → length room < 5 → Lists s1_words 2 room refusal.too_short 1 r → ⊥
overwritten_condemned room r other h x = other (lists_unique x (s1_list_2_short room h)).2

module _ (room : List ℕ) where
  -- Rule 10.3: the desk gave user 2 no entries.
  pub empty_condemned : 5 ≤ length room → Lists s1_words 2 room 0 0 room → ⊥
  empty_condemned h x = differ 0 1 tt (lists_unique x (s1_list_2 room h)).1

  -- Rule 10.7: the desk wrote the one entry 5, and counted two.
  pub counted_condemned : 5 ≤ length room → Lists s1_words 2 room 0 2 ((1 ∷ 5 ∷ 0 ∷ 0 ∷ 0 ∷ []) ++ drop 5 room) → ⊥
  counted_condemned h x = differ 2 1 tt (lists_unique x (s1_list_2 room h)).1

  -- Rules 7.9 and 10.3: with 4 marked, the desk listed 4.1 all the same.
  pub marked_condemned : 10 ≤ length room → Lists s1_words 2 room 0 2 ((2 ∷ 4 ∷ 1 ∷ 0 ∷ 0 ∷ 1 ∷ 5 ∷ 0 ∷ 0 ∷ 0 ∷ []) ++ drop 10 room) → ⊥
  marked_condemned h x = differ 2 1 tt (lists_unique x (s1_list_2 room (omega arith))).1

  -- Rule 10.3: with 4 unmarked, the desk listed 5 and forgot 4.1, and counted one,
  pub forgotten_condemned : 10 ≤ length room → Lists s1_unmarked 2 room 0 1 ((1 ∷ 5 ∷ 0 ∷ 0 ∷ 0 ∷ []) ++ drop 5 room) → ⊥
  forgotten_condemned h x = differ 1 2 tt (lists_unique x (s1_list_unmarked room h)).1

  -- or listed 5 twice, and counted two (rule 10.4).
  pub twice_condemned : 10 ≤ length room → Lists s1_unmarked 2 room 0 2 ((1 ∷ 5 ∷ 0 ∷ 0 ∷ 0 ∷ 1 ∷ 5 ∷ 0 ∷ 0 ∷ 0 ∷ []) ++ drop 10 room) → ⊥
  twice_condemned h x = differ 1 2 tt (ap (λ (l : List ℕ). get_or l 0 0) (lists_unique x (s1_list_unmarked room h)).2)

  -- Rule 10.5: with 4 unmarked, the desk listed 5 before 4.1.
  pub disordered_condemned : 10 ≤ length room → Lists s1_unmarked 2 room 0 2 ((1 ∷ 5 ∷ 0 ∷ 0 ∷ 0 ∷ 2 ∷ 4 ∷ 1 ∷ 0 ∷ 0 ∷ []) ++ drop 10 room) → ⊥
  disordered_condemned h x = differ 1 2 tt (ap (λ (l : List ℕ). get_or l 0 0) (lists_unique x (s1_list_unmarked room h)).2)

-- Rule 10.7: the desk wrote the entry 5, and a zero over the word after it.
pub behind_condemned : (a b c d e : ℕ) (room : List ℕ) → Lists s1_words 2 (a ∷ b ∷ c ∷ d ∷ e ∷ 1 ∷ room) 0 1 (1 ∷ 5 ∷ 0 ∷ 0 ∷ 0 ∷ 0 ∷ room) → ⊥
behind_condemned a b c d e room x =
    differ 0 1 tt (ap (λ (l : List ℕ). get_or l 5 0) (lists_unique x (s1_list_2 (a ∷ b ∷ c ∷ d ∷ e ∷ 1 ∷ room) (omega arith))).2)
