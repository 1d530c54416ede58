-- Document 01, "The tables"; rules 2.1 to 2.3: where each named word stands in the 2,304 words, and the tables that a list of words gives.
use Rattle.std.specs.Prelude.{Bool, ◌&&◌, List, ◌⊎◌, ◌≡◌, ◌*◌, ◌+◌, ◌-◌, ◌<◌, ◌≤◌, ℕ, leb, ltb, get_or}
use Rattle.model.specs.Basics.Choice.{pick}
use Rattle.model.specs.Tables.Words.{EntityWord, Tables, UserWord, authorised, clearance, current, device, entity_count, held, held_op}
use Rattle.model.specs.Tables.Words.{index, kind, level, mark, maximum, missed, place, place_count, present, releaser, shown, spare}
use Rattle.model.specs.Tables.Words.{spare_count, triple, type, used, user_count, value}

-- the width of a user's record and of an entity's
abbrev pub user_width : ℕ
user_width = 16

abbrev pub entity_width : ℕ
entity_width = 32

-- the users' records come first
abbrev pub entities_from : ℕ
entities_from = user_count * user_width

abbrev pub word_count : ℕ
word_count = entities_from + entity_count * entity_width

-- Rule 2.2: the place of each word in a user's record.
abbrev pub user_offset : UserWord → ℕ
user_offset present = 0
user_offset clearance = 1
user_offset authorised = 2
user_offset current = 3
user_offset device = 4
user_offset held = 5
user_offset held_op = 6
user_offset missed = 7
user_offset (spare i) = 8 + i

-- Rule 2.3: the place of each word in an entity's record.
abbrev pub offset : EntityWord → ℕ
offset kind = 0
offset type = 1
offset level = 2
offset mark = 3
offset value = 4
offset releaser = 5
offset maximum = 6
offset used = 7
offset (place i) = 8 + i
offset (shown i) = 16 + i
offset (triple i) = 24 + i

-- where a word stands
abbrev pub user_at : ℕ → UserWord → ℕ
user_at u f = (u - 1) * user_width + user_offset f

abbrev pub entity_at : ℕ → EntityWord → ℕ
entity_at e f = entities_from + (e - 1) * entity_width + offset f

-- which words there are
abbrev pub user_in : ℕ → UserWord → Bool
user_in u f = ltb (user_offset f) user_width && (leb 1 u && leb u user_count)

abbrev pub entity_in : ℕ → EntityWord → Bool
entity_in e f = leb 1 e && (leb e entity_count && ltb (index f) place_count)

-- the tables of a list of words: zero outside the records and their rows
unfoldable pub tables_of : List ℕ → Tables
tables_of t = record {
  user = λ u f. pick (user_in u f) (get_or t (user_at u f) 0) 0;
  entity = λ e f. pick (entity_in e f) (get_or t (entity_at e f) 0) 0;
}

-- Tables with nothing outside sixteen users, sixty-four entities and rows of eight, as those of a list of words are.
pub record Bounded (d : Tables) : Type 0 where
  pub user_out : (u : ℕ) → (u ≡ 0) ⊎ (user_count < u) → (f : UserWord) → d.user u f ≡ 0
  pub entity_out : (e : ℕ) → (e ≡ 0) ⊎ (entity_count < e) → (f : EntityWord) → d.entity e f ≡ 0
  pub places_out : (e i : ℕ) → place_count ≤ i → d.entity e (place i) ≡ 0
  pub shown_out : (e i : ℕ) → place_count ≤ i → d.entity e (shown i) ≡ 0
  pub triples_out : (e i : ℕ) → place_count ≤ i → d.entity e (triple i) ≡ 0
  pub spares_out : (u i : ℕ) → spare_count ≤ i → d.user u (spare i) ≡ 0
