-- What reading the line of a field at an index of some bytes answers, and which field has which word.
use Rattle.std.specs.Prelude.{List, [], ◌≡◌, Option, ◌-◌, ◌≤◌, ℕ, drop, get_or, length}
use Rattle.lines.specs.NumberAt.{next_of, number_of}
use Rattle.lines.specs.declared.reading.Number.{Number}
use Rattle.tables_text.specs.Keys.{Field, any_number, single_fields, user_fields}
use Rattle.tables_text.specs.Values.{read_field}

-- Rule 16.3: the answer r for the line of the field f, and it leads no further than to the end of the bytes s.
pub record FieldAt (s : List ℕ) (at : ℕ) (f : Field) (r : Option Number) : Type 0 where
  pub is : number_of s r ≡ read_field f (drop at s)
  pub within : next_of r ≤ length s

-- the field of word j of a user's record, from 1 on, and of an entity's
abbrev pub user_field : ℕ → Field
user_field j = get_or user_fields (j - 1) (any_number [])

abbrev pub entity_field : ℕ → Field
entity_field j = get_or single_fields j (any_number [])

-- as many words of an entity's record come before the number of its places
abbrev pub last_single : ℕ
last_single = length single_fields
