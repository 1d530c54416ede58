-- Document 01, "The tables"; rules 2.2 and 2.3: the word that stands at each place of a record, `user_offset` and `offset` read the other way.
use Rattle.std.specs.Prelude.{[], ◌∷◌, ◌%◌, ◌+◌, ◌-◌, ◌/◌, min, ℕ, get_or}
use Rattle.model.specs.Tables.Words.{EntityWord, UserWord, authorised, clearance, current, device, held, held_op, kind, level, mark}
use Rattle.model.specs.Tables.Words.{maximum, missed, place, present, releaser, shown, spare, triple, type, used, value}

-- a user's word of a tag and, in a row, of a place
unfoldable pub user_word_of : ℕ → ℕ → UserWord
user_word_of t i = get_or (present ∷ clearance ∷ authorised ∷ current ∷ device ∷ held ∷ held_op ∷ missed ∷ spare i ∷ []) t present

-- an entity's word of a tag and, in a row, of a place
unfoldable pub entity_word_of : ℕ → ℕ → EntityWord
entity_word_of t i = get_or (kind ∷ type ∷ level ∷ mark ∷ value ∷ releaser ∷ maximum ∷ used ∷ place i ∷ shown i ∷ triple i ∷ []) t kind

-- the word m words after the start of a user's record: eight single words, then the spare ones
unfoldable pub user_word_at : ℕ → UserWord
user_word_at m = user_word_of (min m 8) (m - 8)

-- the same of an entity's: eight single words, then rows of eight
unfoldable pub entity_word_at : ℕ → EntityWord
entity_word_at m = entity_word_of (min m (m / 8 + 7)) ((m - 8) % 8)
