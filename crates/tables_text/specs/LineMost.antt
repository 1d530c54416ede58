-- Document 02, M-103; rules 16.1 to 16.3 and 16.7: how many lines a record can have, and the last line that can be bad or missing, which is one more than
-- the lines that a text can have.
use Rattle.std.specs.Prelude.{◌*◌, ◌+◌, suc, ℕ, length}
use Rattle.model.specs.Tables.Words.{entity_count, place_count, user_count}
use Rattle.tables_text.specs.Keys.{entity_fields, user_fields}

-- Rule 16.1: a user's number and its fields.
abbrev pub user_line_count : ℕ
user_line_count = suc (length user_fields)

-- Rule 16.2: an entity's number, its fields, at most eight places, how many triples, and at most eight of them.
abbrev pub entity_line_most : ℕ
entity_line_most = suc (length entity_fields) + place_count + suc place_count

-- Rule 16.3: behind the lines of all users and entities nothing may come. So the first line that is bad or missing is one further at most.
abbrev pub line_most : ℕ
line_most = suc (user_line_count * user_count + entity_line_most * entity_count)
