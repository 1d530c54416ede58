-- Document 02, M-103; rules 16.1 to 16.3: the keys of the tables' text, each with its equals sign, and the lines that every record has.
use Rattle.std.specs.Prelude.{List, [], ◌++◌, ◌∷◌, ℕ}
use Rattle.model.specs.Script.Reports.{held_key, missed_key}
use Rattle.model.specs.Tables.Words.{place_count}
use Rattle.model.specs.Text.Numbers.{most}

-- Rule 16.1: a user's keys are user, clearance, authorised, current, device, held, operation, missed. Of these `user` is also a key of requests
-- (rule 11.1), and `held` and `missed` are keys of reports (rule 12.3); they stand there.
abbrev pub clearance_key : List ℕ
clearance_key = 99 ∷ 108 ∷ 101 ∷ 97 ∷ 114 ∷ 97 ∷ 110 ∷ 99 ∷ 101 ∷ 61 ∷ []

abbrev pub authorised_key : List ℕ
authorised_key = 97 ∷ 117 ∷ 116 ∷ 104 ∷ 111 ∷ 114 ∷ 105 ∷ 115 ∷ 101 ∷ 100 ∷ 61 ∷ []

abbrev pub current_key : List ℕ
current_key = 99 ∷ 117 ∷ 114 ∷ 114 ∷ 101 ∷ 110 ∷ 116 ∷ 61 ∷ []

abbrev pub device_key : List ℕ
device_key = 100 ∷ 101 ∷ 118 ∷ 105 ∷ 99 ∷ 101 ∷ 61 ∷ []

abbrev pub operation_key : List ℕ
operation_key = 111 ∷ 112 ∷ 101 ∷ 114 ∷ 97 ∷ 116 ∷ 105 ∷ 111 ∷ 110 ∷ 61 ∷ []

-- Rule 16.2: an entity's keys: entity, kind, type, level, mark, value, releaser, maximum, places; content; triples; triple.
abbrev pub entity_key : List ℕ
entity_key = 101 ∷ 110 ∷ 116 ∷ 105 ∷ 116 ∷ 121 ∷ 61 ∷ []

abbrev pub kind_key : List ℕ
kind_key = 107 ∷ 105 ∷ 110 ∷ 100 ∷ 61 ∷ []

abbrev pub type_key : List ℕ
type_key = 116 ∷ 121 ∷ 112 ∷ 101 ∷ 61 ∷ []

abbrev pub level_key : List ℕ
level_key = 108 ∷ 101 ∷ 118 ∷ 101 ∷ 108 ∷ 61 ∷ []

abbrev pub mark_key : List ℕ
mark_key = 109 ∷ 97 ∷ 114 ∷ 107 ∷ 61 ∷ []

abbrev pub value_key : List ℕ
value_key = 118 ∷ 97 ∷ 108 ∷ 117 ∷ 101 ∷ 61 ∷ []

abbrev pub releaser_key : List ℕ
releaser_key = 114 ∷ 101 ∷ 108 ∷ 101 ∷ 97 ∷ 115 ∷ 101 ∷ 114 ∷ 61 ∷ []

abbrev pub maximum_key : List ℕ
maximum_key = 109 ∷ 97 ∷ 120 ∷ 105 ∷ 109 ∷ 117 ∷ 109 ∷ 61 ∷ []

abbrev pub places_key : List ℕ
places_key = 112 ∷ 108 ∷ 97 ∷ 99 ∷ 101 ∷ 115 ∷ 61 ∷ []

abbrev pub content_key : List ℕ
content_key = 99 ∷ 111 ∷ 110 ∷ 116 ∷ 101 ∷ 110 ∷ 116 ∷ 61 ∷ []

abbrev pub triples_key : List ℕ
triples_key = 116 ∷ 114 ∷ 105 ∷ 112 ∷ 108 ∷ 101 ∷ 115 ∷ 61 ∷ []

abbrev pub triple_key : List ℕ
triple_key = 116 ∷ 114 ∷ 105 ∷ 112 ∷ 108 ∷ 101 ∷ 61 ∷ []

-- A line with one number: its key, and the least and the greatest number that it may have.
pub record Field : Type 0 where
  pub key : List ℕ
  pub least : ℕ
  pub greatest : ℕ

-- any number of 32 bits
abbrev pub any_number : List ℕ → Field
any_number k = record { key = k; least = 0; greatest = most }

-- Rule 16.1: behind its number a user has these lines, for the words 1 to 7 of its record in their order.
abbrev pub user_fields : List Field
user_fields =
    any_number clearance_key ∷ any_number authorised_key ∷ any_number current_key ∷ any_number device_key ∷ any_number held_key ∷ any_number operation_key
    ∷ any_number missed_key ∷ []

-- Rules 16.2 and 16.3: behind its number an entity has these lines, for the words 0 to 6 of its record in their order; the kind is not 0. Then comes,
-- for word 7, how many places are used, eight at most.
abbrev pub kind_field : Field
kind_field = record { key = kind_key; least = 1; greatest = most }

abbrev pub places_field : Field
places_field = record { key = places_key; least = 0; greatest = place_count }

abbrev pub single_fields : List Field
single_fields =
    kind_field ∷ any_number type_key ∷ any_number level_key ∷ any_number mark_key ∷ any_number value_key ∷ any_number releaser_key ∷ any_number maximum_key ∷ []

abbrev pub entity_fields : List Field
entity_fields = single_fields ++ (places_field ∷ [])

-- how many triples there are is told in a line of its own
abbrev pub triples_field : Field
triples_field = record { key = triples_key; least = 0; greatest = place_count }
