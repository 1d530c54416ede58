-- The figures of document 01, each as a number: names stand in the definitions, and here is what they come to.
use Rattle.std.specs.Prelude.{◌&&◌, not, true, ◌≡◌, refl, ◌*◌, ◌+◌, ◌^◌, ℕ}
use Rattle.std.proofs.Common.{arith}
use Rattle.model.specs.Basics.Tests.{every, imp}
use Rattle.model.specs.Effect.Places.{draft_sort, object_sort}
use Rattle.model.specs.Level.{at_most, at_most_over, bit, compartment_count, downgrader, level_count, officer, rank, rank_count, releasing}
use Rattle.model.specs.Level.{role_sets, subset}
use Rattle.model.specs.List.Listing.{entry_words, value_and_label}
use Rattle.model.specs.List.Reach.{most_entries}
use Rattle.model.specs.Request.Operations.{number_of, to_acknowledge, to_authorised, to_clear, to_clearance, to_copy, to_create, to_current}
use Rattle.model.specs.Request.Operations.{to_delete, to_device_level, to_edit, to_grant, to_level, to_login, to_logout, to_mark, to_maximum}
use Rattle.model.specs.Request.Operations.{to_move, to_release, to_revoke, to_show}
use Rattle.model.specs.Request.Words.{name_count, request_words}
use Rattle.model.specs.Script.State.{byte_values, file_bytes, fourth_weight, second_weight, third_weight, word_bytes}
use Rattle.model.specs.Script.Windows.{report_bytes}
use Rattle.model.specs.Tables.Layout.{entities_from, entity_width, offset, user_offset, user_width, word_count}
use Rattle.model.specs.Tables.Words.{absent_kind, authorised, clearance, container_kind, current, device, device_kind, draft_type}
use Rattle.model.specs.Tables.Words.{entity_count, first_noticed, held, held_op, id_bit, kind, label_bit, last_noticed, level, mark}
use Rattle.model.specs.Tables.Words.{maximum, missed, missed_most, object_kind, operation_count, operation_in, operation_weight, place}
use Rattle.model.specs.Tables.Words.{place_count, plain_type, position_count, position_of, present, released_type, releaser, shown, spare}
use Rattle.model.specs.Tables.Words.{spare_count, sum_most, triple, triple_of, type, used, user_count, value, value_bit, who_most, who_of}
use Rattle.model.specs.Tables.Words.{who_role, who_weight}
use Rattle.model.specs.Text.Lines.{line_end}
use Rattle.model.specs.Text.Numbers.{base, digit_count, digits_end, most, nine_byte, zero_byte}
use Rattle.model.specs.Text.References.{dot_byte}
use Rattle.model.specs.Text.Unfinished.{line_total, longest}
use Rattle.model.specs.Theorem.Done.{container_sort}
use Rattle.model.specs.Request.Refusals as refusal

-- Rule 1.1: ranks 0 to 3, compartments 0 to 255, levels 0 to 1,023.
pub levels_are : (rank_count ≡ 4) × (2 ^ compartment_count ≡ 256) × (level_count ≡ 1024)
levels_are = (refl, refl, refl)

-- Rule 1.2: no rank makes up for a compartment, whichever of the eight it is; and a rank counts as such.
pub compartments_apart : every 8 (λ i. not (at_most (2 ^ i) 768) && (at_most (2 ^ i) 255 && not (at_most (256 + 2 ^ i) 255))) ≡ true
unfolding every at_most at_most_over rank subset bit imp
compartments_apart = refl

pub ranks_apart : (at_most 0 256 && (at_most 256 512 && (at_most 512 768 && (not (at_most 256 255) && (not (at_most 512 511) && not (at_most 768 767)))))) ≡
    true
unfolding every at_most at_most_over rank subset bit imp
ranks_apart = refl

-- Rule 1.3: the security officer is role 1, the downgrader 2, the releaser 4; roles are 0 to 255.
pub roles_are : (2 ^ officer ≡ 1) × (2 ^ downgrader ≡ 2) × (2 ^ releasing ≡ 4) × (role_sets ≡ 256)
roles_are = (refl, refl, refl, refl)

-- Rule 2.1: 16 users of 16 words, 64 entities of 32, 2,304 in all; rule 5.1: a request has 16, rule 5.2: four name words.
pub sizes_are : (user_count ≡ 16) × (user_width ≡ 16) × (entity_count ≡ 64) × (entity_width ≡ 32) × (place_count ≡ 8) × (word_count ≡ 2304)
    × (request_words ≡ 16) × (name_count ≡ 4)
sizes_are = (refl, refl, refl, refl, refl, refl, refl, refl)

-- Rule 2.1: the entities' records start at word 256, and eight words of a user are spare.
pub places_are : (entities_from ≡ 256) × (spare_count ≡ 8)
places_are = (refl, refl)

-- Rule 2.2: where each word of a user stands in the record.
pub user_offsets_are : (user_offset present ≡ 0) × (user_offset clearance ≡ 1) × (user_offset authorised ≡ 2) × (user_offset current ≡ 3)
    × (user_offset device ≡ 4) × (user_offset held ≡ 5) × (user_offset held_op ≡ 6) × (user_offset missed ≡ 7) × (user_offset (spare 0) ≡ 8)
user_offsets_are = (refl, refl, refl, refl, refl, refl, refl, refl, refl)

-- Rule 2.3: where each word of an entity stands, the rows by their first.
pub entity_offsets_are : (offset kind ≡ 0) × (offset type ≡ 1) × (offset level ≡ 2) × (offset mark ≡ 3) × (offset value ≡ 4) × (offset releaser ≡ 5)
    × (offset maximum ≡ 6) × (offset used ≡ 7) × (offset (place 0) ≡ 8) × (offset (shown 0) ≡ 16) × (offset (triple 0) ≡ 24)
entity_offsets_are = (refl, refl, refl, refl, refl, refl, refl, refl, refl, refl, refl)

-- Rule 2.3: kinds and types.
pub kinds_are : (absent_kind ≡ 0) × (object_kind ≡ 1) × (container_kind ≡ 2) × (device_kind ≡ 3)
kinds_are = (refl, refl, refl, refl)

pub types_are : (plain_type ≡ 0) × (draft_type ≡ 1) × (released_type ≡ 2)
types_are = (refl, refl, refl)

-- Rule 2.4: the value is 1 of a sum, the label 2, the ID 4; sums go to 7.
pub sums_are : (2 ^ value_bit ≡ 1) × (2 ^ label_bit ≡ 2) × (2 ^ id_bit ≡ 4) × (sum_most ≡ 7)
sums_are = (refl, refl, refl, refl)

-- Rule 2.5: a triple, and its parts; who is 17 to 24 for the eight roles.
pub triples_are : (triple_of 3 12 1 ≡ 199681) × (who_role officer ≡ 17) × (who_role 7 ≡ 24) × (who_most ≡ 24)
triples_are = (refl, refl, refl, refl)

pub weights_are : (operation_weight ≡ 256) × (who_weight ≡ 65536)
weights_are = (refl, refl)

-- Rule 3.22: a triple's word has nothing but its three parts.
pub triple_parts : (t : ℕ) → t ≡ triple_of (who_of t) (operation_in t) (position_of t)
triple_parts t = omega arith

-- Rules 3.19, 3.21 and 3.22: refusals held, the number missed, operations and positions.
pub limits_are : (first_noticed ≡ 5) × (last_noticed ≡ 16) × (missed_most ≡ 65535) × (operation_count ≡ 20) × (position_count ≡ 2)
limits_are = (refl, refl, refl, refl, refl)

-- Rule 6.1: the sorts of a new entity.
pub sorts_are : (object_sort ≡ 1) × (container_sort ≡ 2) × (draft_sort ≡ 3)
sorts_are = (refl, refl, refl)

-- Rules 6.1 to 6.20: the operations.
pub operations_are :
    (number_of to_create ≡ 1) × (number_of to_delete ≡ 2) × (number_of to_move ≡ 3) × (number_of to_edit ≡ 4) × (number_of to_copy ≡ 5)
    × (number_of to_level ≡ 6) × (number_of to_mark ≡ 7) × (number_of to_grant ≡ 8) × (number_of to_revoke ≡ 9) × (number_of to_show ≡ 10)
    × (number_of to_clear ≡ 11) × (number_of to_login ≡ 12) × (number_of to_logout ≡ 13) × (number_of to_current ≡ 14) × (number_of to_clearance ≡ 15)
    × (number_of to_authorised ≡ 16) × (number_of to_maximum ≡ 17) × (number_of to_device_level ≡ 18) × (number_of to_release ≡ 19)
    × (number_of to_acknowledge ≡ 20)
operations_are = (refl, refl, refl, refl, refl, refl, refl, refl, refl, refl, refl, refl, refl, refl, refl, refl, refl, refl, refl, refl)

-- Rule 7: the answers, 0 for accepted and 1 to 18 for the refusals.
pub refusals_are :
    (refusal.accepted ≡ 0) × (refusal.bad_length ≡ 1) × (refusal.not_well_formed ≡ 2) × (refusal.not_secure ≡ 3) × (refusal.unknown_requester ≡ 4)
    × (refusal.bad_request ≡ 5) × (refusal.not_logged_on ≡ 6) × (refusal.no_such_name ≡ 7) × (refusal.no_access ≡ 8) × (refusal.marked ≡ 9)
    × (refusal.wrong_kind ≡ 10) × (refusal.no_such_user ≡ 11) × (refusal.role_missing ≡ 12) × (refusal.level_or_roles ≡ 13) × (refusal.no_room ≡ 14)
    × (refusal.arrangement ≡ 15) × (refusal.not_acknowledged ≡ 16) × (refusal.too_short ≡ 17) × (refusal.not_a_request ≡ 18)
refusals_are = (refl, refl, refl, refl, refl, refl, refl, refl, refl, refl, refl, refl, refl, refl, refl, refl, refl, refl, refl)

-- Rule 10.4: an entry has five words; rule 10.3: value and label are 3; rule 10.6: no list has more than 37,440 entries.
pub lists_are : (entry_words ≡ 5) × (value_and_label ≡ 3) × (most_entries ≡ 37440)
lists_are = (refl, refl, refl)

-- Rule 11.2: the largest number has ten digits; rule 11.1: a text has seven lines, and by rule 11.2 at most 166 bytes.
pub texts_are : (most ≡ 4294967295) × (digit_count ≡ 10) × (base ≡ 10) × (digits_end ≡ base ^ digit_count) × (line_total ≡ 7) × (longest ≡ 166)
texts_are = (refl, refl, refl, refl, refl, refl)

-- Rules 11.1 and 11.2: LF, the dot, and the digits from 0 to 9.
pub bytes_are : (line_end ≡ 10) × (dot_byte ≡ 46) × (zero_byte ≡ 48) × (nine_byte ≡ 57)
bytes_are = (refl, refl, refl, refl)

-- Rule 12.1: a word is four bytes and the file 9,216; rule 12.3: a report has at most 52.
pub files_are : (word_bytes ≡ 4) × (file_bytes ≡ word_bytes * word_count) × (file_bytes ≡ 9216) × (report_bytes ≡ 52)
files_are = (refl, refl, refl, refl)

-- Rule 12.1: the bytes of a word by their weights.
pub byte_weights_are : (byte_values ≡ 256) × (second_weight ≡ 256) × (third_weight ≡ 65536) × (fourth_weight ≡ 16777216)
byte_weights_are = (refl, refl, refl, refl)
