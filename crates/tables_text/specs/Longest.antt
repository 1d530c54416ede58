-- Document 02, M-103; rule 16.7: how long the text of well-formed tables can be, and what that number is made up of.
use Rattle.std.specs.Prelude.{List, ◌*◌, ◌+◌, ℕ, ltb, length}
use Rattle.model.specs.Basics.Choice.{pick}
use Rattle.model.specs.Script.Reports.{held_key, missed_key}
use Rattle.model.specs.Tables.Words.{place_count}
use Rattle.model.specs.Text.Numbers.{base, digit_count, digits}
use Rattle.model.specs.Text.Wording.{user_key}
use Rattle.tables_text.specs.Keys.{authorised_key, clearance_key, content_key, current_key, device_key, entity_key, kind_key, level_key}
use Rattle.tables_text.specs.Keys.{mark_key, maximum_key, operation_key, places_key, releaser_key, triple_key, triples_key, type_key, value_key}

-- Rule 16.7: the bytes of the longest text. Every user and every entity is present, and every entity has eight triples; sixteen entities are devices with
-- a user each, and each shows eight entities; the others are containers that are marked and released, with values of ten digits, and all but one are in
-- another:
--     1,495 = 16 × 93 + 7             users 10 to 16 have a second digit
--     5,072 = 16 × (213 + 8 × 13)     devices with two digits, and what they show
--    10,551 = 48 × 220 - 9            containers, of which 1 to 9 have one digit
--       603 = 39 × 13 + 8 × 12        what is in containers: all but one of 1 to 9
abbrev pub longest_text : ℕ
longest_text = 17721

-- the bytes of a line whose value has n bytes
abbrev pub line_size : List ℕ → ℕ → ℕ
line_size key n = length key + (n + 1)

-- how many digits the greatest numbers have: levels, sets of roles, notices, what was missed, releasers, and the parts of triples with two dots
abbrev pub level_digits : ℕ
level_digits = 4

abbrev pub role_digits : ℕ
role_digits = 3

abbrev pub held_digits : ℕ
held_digits = 2

abbrev pub operation_digits : ℕ
operation_digits = 2

abbrev pub missed_digits : ℕ
missed_digits = 5

abbrev pub releaser_digits : ℕ
releaser_digits = 2

abbrev pub triple_bytes : ℕ
triple_bytes = 7

-- how many digits a number has
abbrev pub size : ℕ → ℕ
size n = length (digits n)

-- the second digit of a number below 100, if it has one
abbrev pub second : ℕ → ℕ
second n = pick (ltb n base) 0 1

-- a user who is off, but for a second digit of the number; who is on can act with roles, of which the number has two digits more
abbrev pub user_size : ℕ
user_size =
    line_size user_key 1 + line_size clearance_key level_digits + line_size authorised_key role_digits + line_size current_key 1 + line_size device_key 1
    + line_size held_key held_digits + line_size operation_key operation_digits + line_size missed_key missed_digits

abbrev pub on_size : ℕ
on_size = 2

-- a place with one digit for the entity and one for the sum, and eight triples
abbrev pub place_size : ℕ
place_size = line_size content_key 3

abbrev pub triples_size : ℕ
triples_size = line_size triples_key 1 + place_count * line_size triple_key triple_bytes

-- the lines that are as long for every entity
abbrev pub plain_size : ℕ
plain_size =
    line_size entity_key 1 + line_size kind_key 1 + line_size type_key 1 + line_size level_key level_digits + line_size mark_key 1 + line_size places_key 1 +
    triples_size

-- an object or a container, and a device, but for a second digit of the number and for what is there
abbrev pub thing_size : ℕ
thing_size = plain_size + line_size value_key digit_count + line_size releaser_key releaser_digits + line_size maximum_key 1

abbrev pub device_size : ℕ
device_size = plain_size + line_size value_key 1 + line_size releaser_key 1 + line_size maximum_key level_digits
