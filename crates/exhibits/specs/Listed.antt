-- Rule 13: what the list answers on the words of S1, in any room, and what then stands in it. Whatever answer meets the list's promise is this one.
use Rattle.std.specs.Prelude.{List, [], ◌++◌, ◌∷◌, ◌≡◌, ◌*◌, ◌<◌, ◌≤◌, ℕ, drop, length}
use Rattle.mms.specs.Contract.{Listing}
use Rattle.mms.specs.RoundTrip.{answering}
use Rattle.mms.specs.Unique.{list_unique}
use Rattle.mms.specs.declared.Answer.{Answer}
use Rattle.cases.specs.Case.S1List.{s1_list_1, s1_list_2, s1_list_2_short, s1_list_unmarked, s1_unmarked}
use Rattle.cases.specs.Case.S1Words.{s1_words}
use Rattle.model.specs.List.Listing.{entry_words}
use Rattle.model.specs.Request.Refusals as refusal

module _ (room : List ℕ) (a : Answer) (r : List ℕ) where
  -- user 2 has one entry, 5;
  pub listed_2 : entry_words ≤ length room → Listing s1_words 2 room a r
      → (a ≡ answering refusal.accepted 1) × (r ≡ (1 ∷ 5 ∷ 0 ∷ 0 ∷ 0 ∷ []) ++ drop entry_words room)
  listed_2 h x = list_unique s1_words 2 room a (answering refusal.accepted 1) r ((1 ∷ 5 ∷ 0 ∷ 0 ∷ 0 ∷ []) ++ drop entry_words room) x (s1_list_2 room h)

  -- room for less than an entry is too short, and stays;
  pub listed_2_short : length room < entry_words → Listing s1_words 2 room a r → (a ≡ answering refusal.too_short 1) × (r ≡ room)
  listed_2_short h x = list_unique s1_words 2 room a (answering refusal.too_short 1) r room x (s1_list_2_short room h)

  -- with 4 unmarked the entries are 4.1 and 5;
  pub listed_unmarked : 2 * entry_words ≤ length room → Listing s1_unmarked 2 room a r
      → (a ≡ answering refusal.accepted 2) × (r ≡ (2 ∷ 4 ∷ 1 ∷ 0 ∷ 0 ∷ 1 ∷ 5 ∷ 0 ∷ 0 ∷ 0 ∷ []) ++ drop (2 * entry_words) room)
  listed_unmarked h x =
      list_unique s1_unmarked 2 room a (answering refusal.accepted 2) r
      ((2 ∷ 4 ∷ 1 ∷ 0 ∷ 0 ∷ 1 ∷ 5 ∷ 0 ∷ 0 ∷ 0 ∷ []) ++ drop (2 * entry_words) room) x (s1_list_unmarked room h)

  -- user 1 has none.
  pub listed_1 : Listing s1_words 1 room a r → (a ≡ answering refusal.accepted 0) × (r ≡ room)
  listed_1 x = list_unique s1_words 1 room a (answering refusal.accepted 0) r room x (s1_list_1 room)
