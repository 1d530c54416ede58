-- Rules 16.1 and 16.2: the line of a word by the word's place in its record.
use Rattle.std.specs.Prelude.{List, [], ◌∷◌, ◌-◌, suc, zero, ℕ, length}
use Rattle.model.specs.Tables.Words.{Tables}
use Rattle.model.specs.Text.Numbers.{digits}
use Rattle.tables.specs.Singles.{single_count}
use Rattle.tables_text.specs.Keys.{Field, entity_fields, user_fields}
use Rattle.tables_text.specs.TextOf.{entity_words, user_words}
use Rattle.tables_text.specs.Values.{number_line}

-- the key of a field, the first of them being field 0
abbrev pub key_at : List Field → ℕ → List ℕ
key_at [] j = []
key_at (f ∷ fs) zero = f.key
key_at (f ∷ fs) (suc j) = key_at fs j

-- the line of word j of a user with value v; word 0 has none
unfoldable pub user_line : ℕ → ℕ → List ℕ
user_line j v = number_line (key_at user_fields (j - 1)) v

-- the line of word j of user u
abbrev pub user_line_at : Tables → ℕ → ℕ → List ℕ
user_line_at d u j = user_line j (user_words d u j)

-- so many words of a user have a line
abbrev pub user_field_count : ℕ
user_field_count = length user_fields

-- the last of the words that stand alone, of a user and of an entity
abbrev pub last_single : ℕ
last_single = single_count - 1

-- the line of word j of an entity
unfoldable pub entity_line : ℕ → ℕ → List ℕ
entity_line j v = number_line (key_at entity_fields j) v

abbrev pub entity_line_at : Tables → ℕ → ℕ → List ℕ
entity_line_at d e j = entity_line j (entity_words d e j)

-- the digits of word j of a record
abbrev pub digits_at : (ℕ → ℕ) → ℕ → List ℕ
digits_at w j = digits (w j)
