-- Rules 16.1 and 16.2: which line tells which word of a record, by the names of both.
use Rattle.std.specs.Prelude.{◌++◌, ◌≡◌, ℕ}
use Rattle.std.proofs.Common.{append_assoc, append-nil}
use Rattle.model.specs.Script.Reports.{held_key, missed_key}
use Rattle.model.specs.Tables.WordAt.{entity_word_at, entity_word_of, user_word_at, user_word_of}
use Rattle.model.specs.Tables.Words.{Tables, authorised, clearance, current, device, held, held_op, kind, level, mark, maximum, missed, releaser, type, used}
use Rattle.model.specs.Tables.Words.{value}
use Rattle.model.specs.Text.Wording.{user_key}
use Rattle.tables_text.specs.Keys.{authorised_key, clearance_key, current_key, device_key, entity_key, kind_key, level_key, mark_key}
use Rattle.tables_text.specs.Keys.{maximum_key, operation_key, places_key, releaser_key, triples_key, type_key, value_key}
use Rattle.tables_text.specs.TextOf.{entity_lines, field_lines, place_at, series, triple_at, triple_count, user_lines}
use Rattle.tables_text.specs.Values.{number_line}

-- Rule 16.1: the lines of a user.
pub user_named : (d : Tables) (u : ℕ)
    → user_lines d u ≡ number_line user_key u
    ++ (number_line clearance_key (d.user u clearance)
    ++ (number_line authorised_key (d.user u authorised)
    ++ (number_line current_key (d.user u current)
    ++ (number_line device_key (d.user u device)
    ++ (number_line held_key (d.user u held)
    ++ (number_line operation_key (d.user u held_op)
    ++ number_line missed_key (d.user u missed)))))))
unfolding user_lines field_lines user_word_at user_word_of
user_named d u = simp append-nil

-- Rule 16.2: the lines of an entity.
pub entity_named : (d : Tables) (e : ℕ)
    → entity_lines d e ≡ number_line entity_key e
    ++ (number_line kind_key (d.entity e kind)
    ++ (number_line type_key (d.entity e type)
    ++ (number_line level_key (d.entity e level)
    ++ (number_line mark_key (d.entity e mark)
    ++ (number_line value_key (d.entity e value)
    ++ (number_line releaser_key (d.entity e releaser)
    ++ (number_line maximum_key (d.entity e maximum)
    ++ (number_line places_key (d.entity e used)
    ++ (series (d.entity e used) 0 (place_at d e)
    ++ (number_line triples_key (triple_count d e)
    ++ series (triple_count d e) 0 (triple_at d e)))))))))))
unfolding entity_lines field_lines entity_word_at entity_word_of
entity_named d e = simp (append_assoc, append-nil)
