-- Damaged tables: S1 with some words put wrong, one or more for each clause of rules 3 and 4, and what the state check answers.
use Rattle.std.specs.Prelude.{Bool, false, true, List, [], ◌∷◌, ◌-◌, suc, ℕ, eqb}
use Rattle.cases.specs.Case.Cases.{Stands, at, entity_is, every_compartment, user_is}
use Rattle.model.specs.Level.{level_count, role_sets}
use Rattle.model.specs.State.Check.{judge}
use Rattle.model.specs.Tables.Edits.{on_entity, on_user, user_word, word}
use Rattle.model.specs.Tables.Words.{Tables, authorised, clearance, current, device, device_kind, draft_type, entity_count, held, held_op, kind}
use Rattle.model.specs.Tables.Words.{level, mark, maximum, missed, missed_most, operation_count, place, place_count, position_count, present}
use Rattle.model.specs.Tables.Words.{released_type, releaser, shown, spare, spare_count, sum_most, triple, triple_of, type, used, user_count}
use Rattle.model.specs.Tables.Words.{value, who_most}
use Rattle.model.specs.Text.Numbers.{most}

-- the tables with these words put
unfoldable pub put_words : List Stands → Tables → Tables
put_words [] d = d
put_words (user_is u f v ∷ ws) d = put_words ws (on_user u (user_word f v) d)
put_words (entity_is e f v ∷ ws) d = put_words ws (on_entity e (word f v) d)

pub data Damage : Type 0 where
  spoilt : ℕ → List Stands → Damage

-- every damaged table is answered with its number
unfoldable pub all_found : Tables → List Damage → Bool
all_found d [] = true
all_found d (spoilt n ws ∷ ds) = elim (eqb (judge (put_words ws d)) n) [ true ↦ all_found d ds | false ↦ false ]

-- 5 on the screen of user 2, with the sum s
abbrev on_screen2 : ℕ → List Stands → List Stands
on_screen2 s ws = entity_is 2 used 1 ∷ entity_is 2 (place 0) 5 ∷ entity_is 2 (shown 0) s ∷ ws

-- Rules 3.1 to 3.3: absent records, ranges.
unfoldable pub range_damages : List Damage
range_damages =
    -- 3.1
    spoilt 2 (user_is 4 clearance (at 0 1) ∷ [])
    ∷ spoilt 2 (user_is 4 missed 1 ∷ user_is 4 held 9 ∷ [])
    ∷ spoilt 2 (entity_is 8 level (at 0 1) ∷ [])
    ∷ spoilt 2 (entity_is 8 value 1 ∷ [])
    ∷ spoilt 2 (entity_is 8 (triple 0) (triple_of 1 4 1) ∷ [])
    -- 3.2
    ∷ spoilt 2 (user_is 1 present 2 ∷ [])
    ∷ spoilt 2 (user_is 1 clearance level_count ∷ [])
    ∷ spoilt 2 (user_is 3 authorised role_sets ∷ [])
    ∷ spoilt 2 (user_is 1 current role_sets ∷ [])
    ∷ spoilt 2 (user_is 3 device (suc entity_count) ∷ [])
    ∷ spoilt 2 (user_is 2 held 9 ∷ user_is 2 held_op (suc operation_count) ∷ user_is 2 missed 1 ∷ [])
    ∷ spoilt 2 (user_is 1 (spare 0) 1 ∷ [])
    ∷ spoilt 2 (user_is 1 (spare (spare_count - 1)) 1 ∷ [])
    -- 3.3
    ∷ spoilt 2 (entity_is 5 kind (suc device_kind) ∷ [])
    ∷ spoilt 2 (entity_is 7 type (suc released_type) ∷ [])
    ∷ spoilt 2 (entity_is 7 level level_count ∷ [])
    ∷ spoilt 2 (entity_is 4 mark 2 ∷ [])
    ∷ spoilt 2 (entity_is 1 maximum level_count ∷ [])
    ∷ spoilt 2 (entity_is 4 used (suc place_count) ∷ [])
    -- any value is in range
    ∷ spoilt 0 (entity_is 5 value most ∷ [])
    ∷ []

-- Rules 3.4 to 3.12: rows, kinds and types, what is shown.
unfoldable pub record_damages : List Damage
record_damages =
    -- 3.4: one too few used, one too many, one twice
    spoilt 2 (entity_is 4 used 1 ∷ [])
    ∷ spoilt 2 (entity_is 4 used 3 ∷ [])
    ∷ spoilt 2 (entity_is 4 (place 1) 5 ∷ [])
    -- 3.5: a gap, one twice
    ∷ spoilt 2 (entity_is 5 (triple 0) 0 ∷ [])
    ∷ spoilt 2 (entity_is 5 (triple 1) (triple_of 2 10 1) ∷ [])
    -- 3.6: a device, an absent number
    ∷ spoilt 2 (entity_is 4 (place 1) 2 ∷ [])
    ∷ spoilt 2 (entity_is 4 (place 1) 9 ∷ [])
    -- 3.7
    ∷ spoilt 2 (entity_is 5 used 1 ∷ entity_is 5 (place 0) 7 ∷ [])
    -- 3.8: an object that is a draft, a marked object, a marked device
    ∷ spoilt 2 (entity_is 5 type draft_type ∷ [])
    ∷ spoilt 2 (entity_is 5 mark 1 ∷ [])
    ∷ spoilt 2 (entity_is 1 mark 1 ∷ [])
    -- 3.9: a releaser of what is not released, none or no user of what is; an absent user may be one
    ∷ spoilt 2 (entity_is 7 releaser 1 ∷ [])
    ∷ spoilt 2 (entity_is 6 releaser 1 ∷ [])
    ∷ spoilt 2 (entity_is 6 type released_type ∷ [])
    ∷ spoilt 2 (entity_is 6 type released_type ∷ entity_is 6 releaser (suc user_count) ∷ [])
    ∷ spoilt 0 (entity_is 6 type released_type ∷ entity_is 6 releaser user_count ∷ [])
    -- 3.10, 3.11
    ∷ spoilt 2 (entity_is 7 maximum (at 0 1) ∷ [])
    ∷ spoilt 2 (entity_is 1 value 1 ∷ [])
    -- 3.12: a sum in a container, none or too much on a device, one after the used places
    ∷ spoilt 2 (entity_is 4 (shown 0) 1 ∷ [])
    ∷ spoilt 2 (on_screen2 0 [])
    ∷ spoilt 2 (on_screen2 (suc sum_most) [])
    ∷ spoilt 2 (entity_is 1 (shown 0) 3 ∷ [])
    ∷ spoilt 0 (on_screen2 sum_most [])
    -- 3.22: who, operation and position 0 and over the last, and more in the word
    ∷ spoilt 2 (entity_is 5 (triple 1) (triple_of 0 5 1) ∷ [])
    ∷ spoilt 2 (entity_is 5 (triple 1) (triple_of (suc who_most) 5 1) ∷ [])
    ∷ spoilt 2 (entity_is 5 (triple 1) (triple_of 2 0 1) ∷ [])
    ∷ spoilt 2 (entity_is 5 (triple 1) (triple_of 2 (suc operation_count) 1) ∷ [])
    ∷ spoilt 2 (entity_is 5 (triple 1) (triple_of 2 5 0) ∷ [])
    ∷ spoilt 2 (entity_is 5 (triple 1) (triple_of 2 5 (suc position_count)) ∷ [])
    ∷ spoilt 2 (entity_is 5 (triple 1) (triple_of 258 5 1) ∷ [])
    ∷ spoilt 2 (entity_is 5 (triple 1) (triple_of 2 5 129) ∷ [])
    ∷ spoilt 0 (entity_is 5 (triple 1) (triple_of who_most operation_count position_count) ∷ [])
    ∷ []

-- Rules 3.13 to 3.21: what records say of one another, and notices.
unfoldable pub link_damages : List Damage
link_damages =
    -- 3.13: 5 in two containers; on a screen besides it may be
    spoilt 2 (entity_is 7 used 1 ∷ entity_is 7 (place 0) 5 ∷ [])
    ∷ spoilt 0 (on_screen2 3 [])
    -- 3.14: in itself, and in what it holds
    ∷ spoilt 2 (entity_is 7 used 1 ∷ entity_is 7 (place 0) 7 ∷ [])
    ∷ spoilt 2 (entity_is 6 used 1 ∷ entity_is 6 (place 0) 4 ∷ [])
    -- 3.15: on an object, on an absent number
    ∷ spoilt 2 (user_is 3 device 5 ∷ [])
    ∷ spoilt 2 (user_is 3 device 9 ∷ [])
    -- 3.16, 3.17
    ∷ spoilt 2 (user_is 3 device 2 ∷ [])
    ∷ spoilt 2 (user_is 3 current 2 ∷ [])
    -- 3.18: a screen that nobody is on
    ∷ spoilt 2 (entity_is 3 level (at 1 0) ∷ entity_is 3 used 1 ∷ entity_is 3 (place 0) 5 ∷ entity_is 3 (shown 0) 3 ∷ [])
    -- 3.19: 4 and 17 are never held
    ∷ spoilt 2 (user_is 2 held 4 ∷ user_is 2 missed 1 ∷ [])
    ∷ spoilt 2 (user_is 2 held 17 ∷ user_is 2 missed 1 ∷ [])
    ∷ spoilt 0 (user_is 2 held 5 ∷ user_is 2 missed 1 ∷ [])
    ∷ spoilt 0 (user_is 2 held 16 ∷ user_is 2 held_op operation_count ∷ user_is 2 missed missed_most ∷ [])
    -- 3.20: held and not counted, counted and not held, an operation with nothing held
    ∷ spoilt 2 (user_is 2 held 9 ∷ [])
    ∷ spoilt 2 (user_is 2 missed 1 ∷ [])
    ∷ spoilt 2 (user_is 2 held_op 10 ∷ [])
    -- 3.21
    ∷ spoilt 2 (user_is 2 held 9 ∷ user_is 2 missed (suc missed_most) ∷ [])
    ∷ []

-- Rule 4: well-formed, and not secure.
unfoldable pub secure_damages : List Damage
secure_damages =
    -- 4.1: a compartment, then a rank, that the container lacks; what a device shows above its level
    spoilt 3 (entity_is 5 level (at 1 2) ∷ [])
    ∷ spoilt 3 (entity_is 5 level (at 3 0) ∷ [])
    ∷ spoilt 3 (on_screen2 3 (entity_is 2 level 0 ∷ []))
    -- 4.2: what a device shows above its user's clearance
    ∷ spoilt 3 (on_screen2 3 (user_is 2 clearance (at 0 every_compartment) ∷ []))
    -- 4.3: the value without the label, with and without the ID
    ∷ spoilt 3 (on_screen2 1 [])
    ∷ spoilt 3 (on_screen2 5 [])
    -- 4.4: a house role, and another, that is not authorised
    ∷ spoilt 3 (user_is 1 current 9 ∷ [])
    ∷ spoilt 3 (user_is 2 current 1 ∷ [])
    -- 4.5
    ∷ spoilt 3 (entity_is 2 level (at 2 1) ∷ [])
    ∷ spoilt 3 (entity_is 2 maximum (at 1 0) ∷ [])
    -- not well-formed comes first
    ∷ spoilt 2 (entity_is 2 maximum (at 1 0) ∷ entity_is 1 value 1 ∷ [])
    ∷ []
