-- Rule 13, of the exported list: what C gets for it on the words of S1, in any room, and what then stands in the room.
use Rattle.std.specs.Prelude.{List, [], ◌++◌, ◌∷◌, ◌≡◌, ◌*◌, ◌<◌, ◌≤◌, ℕ, drop, length}
use Rattle.exhibits.specs.CalledLaws.{called_word}
use Rattle.exhibits.specs.Listed.{listed_1, listed_2, listed_2_short, listed_unmarked}
use Rattle.mms.specs.Calls.{ListCall}
use Rattle.mms.specs.Contract.{Listing, exported}
use Rattle.mms.specs.RoundTrip.{answering}
use Rattle.cases.specs.Case.S1List.{s1_unmarked}
use Rattle.cases.specs.Case.S1Words.{s1_words}
use Rattle.model.specs.List.Listing.{entry_words}
use Rattle.model.specs.Request.Refusals as refusal

-- The same of the exported list: C gets the word of that answer.
module _ (room : List ℕ) where
  pub called_2 : entry_words ≤ length room → (a : ℕ) (r : List ℕ) → ListCall s1_words 2 room a r
      → (a ≡ exported (answering refusal.accepted 1)) × (r ≡ (1 ∷ 5 ∷ 0 ∷ 0 ∷ 0 ∷ []) ++ drop entry_words room)
  called_2 h = called_word (Listing s1_words 2 room) (answering refusal.accepted 1) ((1 ∷ 5 ∷ 0 ∷ 0 ∷ 0 ∷ []) ++ drop entry_words room)
      (λ a r. listed_2 room a r h)

  pub called_2_short : length room < entry_words → (a : ℕ) (r : List ℕ) → ListCall s1_words 2 room a r
      → (a ≡ exported (answering refusal.too_short 1)) × (r ≡ room)
  called_2_short h = called_word (Listing s1_words 2 room) (answering refusal.too_short 1) room (λ a r. listed_2_short room a r h)

  pub called_unmarked : 2 * entry_words ≤ length room → (a : ℕ) (r : List ℕ) → ListCall s1_unmarked 2 room a r
      → (a ≡ exported (answering refusal.accepted 2)) × (r ≡ (2 ∷ 4 ∷ 1 ∷ 0 ∷ 0 ∷ 1 ∷ 5 ∷ 0 ∷ 0 ∷ 0 ∷ []) ++ drop (2 * entry_words) room)
  called_unmarked h =
      called_word (Listing s1_unmarked 2 room) (answering refusal.accepted 2)
      ((2 ∷ 4 ∷ 1 ∷ 0 ∷ 0 ∷ 1 ∷ 5 ∷ 0 ∷ 0 ∷ 0 ∷ []) ++ drop (2 * entry_words) room) (λ a r. listed_unmarked room a r h)

  pub called_1 : (a : ℕ) (r : List ℕ) → ListCall s1_words 1 room a r → (a ≡ exported (answering refusal.accepted 0)) × (r ≡ room)
  called_1 = called_word (Listing s1_words 1 room) (answering refusal.accepted 0) room (listed_1 room)
