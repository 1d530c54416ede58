-- Rule 16.7: tables whose text is as long as that of well-formed tables can be.
use Rattle.std.specs.Prelude.{List, ◌*◌, ◌+◌, ◌-◌, min, ℕ, leb, ltb}
use Rattle.model.specs.Basics.Choice.{pick}
use Rattle.model.specs.Level.{level_count, role_sets}
use Rattle.model.specs.Tables.Layout.{entity_in, user_in}
use Rattle.model.specs.Tables.Words.{EntityWord, Tables, UserWord, authorised, clearance, container_kind, current, device, device_kind, entity_count, held}
use Rattle.model.specs.Tables.Words.{held_op, kind, last_noticed, level, mark, maximum, missed, missed_most, operation_count, place, place_count, plain_type}
use Rattle.model.specs.Tables.Words.{present, released_type, releaser, shown, spare, sum_most, triple, triple_of, type, used, user_count, value}
use Rattle.model.specs.Tables.WordsOf.{words_of}
use Rattle.model.specs.Text.Numbers.{base, most}

-- the devices have the last numbers, one for each user; the others are containers
abbrev pub thing_count : ℕ
thing_count = entity_count - user_count

-- a user with the greatest numbers, on a device
unfoldable pub full_user : ℕ → UserWord → ℕ
full_user u present = 1
full_user u clearance = level_count - 1
full_user u authorised = role_sets - 1
full_user u current = role_sets - 1
full_user u device = thing_count + u
full_user u held = last_noticed
full_user u held_op = operation_count
full_user u missed = missed_most
full_user u (spare i) = 0

-- a triple with two digits for who and for the operation
abbrev pub full_triple : ℕ → ℕ
full_triple i = triple_of (base + i) base 1

-- container 1 holds 2 to 9, container 2 holds 10 to 17, and so on as far as there are containers; so container 1 alone is in none
abbrev pub full_used : ℕ → ℕ
full_used e = min place_count (thing_count - 1 - (e - 1) * place_count)

unfoldable pub full_thing : ℕ → EntityWord → ℕ
full_thing e kind = container_kind
full_thing e type = released_type
full_thing e level = level_count - 1
full_thing e mark = 1
full_thing e value = most
full_thing e releaser = user_count
full_thing e maximum = 0
full_thing e used = full_used e
full_thing e (place i) = pick (ltb i (full_used e)) ((e - 1) * place_count + i + 2) 0
full_thing e (shown i) = 0
full_thing e (triple i) = full_triple i

-- a device shows eight entities with two digits
unfoldable pub full_device : EntityWord → ℕ
full_device kind = device_kind
full_device type = plain_type
full_device level = level_count - 1
full_device mark = 0
full_device value = 0
full_device releaser = 0
full_device maximum = level_count - 1
full_device used = place_count
full_device (place i) = base + i
full_device (shown i) = sum_most
full_device (triple i) = full_triple i

unfoldable pub full_entity : ℕ → EntityWord → ℕ
full_entity e f = pick (leb e thing_count) (full_thing e f) (full_device f)

unfoldable pub longest_tables : Tables
longest_tables = record { user = λ u f. pick (user_in u f) (full_user u f) 0; entity = λ e f. pick (entity_in e f) (full_entity e f) 0 }

-- as words
unfoldable pub longest_words : List ℕ
longest_words = words_of longest_tables
