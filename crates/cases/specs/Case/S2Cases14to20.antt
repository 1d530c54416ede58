-- Cases on state S2: current roles, clearance, authorised roles, maximum, device level, release, acknowledge (rules 6.14 to 6.20), and the ladder (rule 7).
use Rattle.std.specs.Prelude.{List, [], ◌∷◌, ◌-◌, suc}
use Rattle.cases.specs.Case.Cases.{Case, ◌gets◌, asking, at, entity_is, every_compartment, expect, highest, noted, user_is}
use Rattle.model.specs.Level.{level_count, role_sets}
use Rattle.model.specs.Tables.Words.{authorised, clearance, container_kind, current, device, draft_type, entity_count, held, held_op, kind}
use Rattle.model.specs.Tables.Words.{level, maximum, missed, missed_most, operation_count, place, plain_type, present, released_type, releaser}
use Rattle.model.specs.Tables.Words.{shown, spare, sum_most, type, used, user_count, value}
use Rattle.model.specs.Text.Numbers.{most}

-- every case: what was asked before and what it got (from S2 on), what is asked, the answer, and words that stand afterwards
unfoldable pub current_cases : List Case
current_cases =
    -- one's own, all from the authorised ones, without being an officer
    expect [] (asking 2 14 [] [] 2 6 0) 0 (user_is 2 current 6 ∷ user_is 2 authorised 142 ∷ user_is 2 device 2 ∷ [])
    -- another's, by the officer
    ∷ expect [] (asking 1 14 [] [] 2 142 0) 0 (user_is 2 current 142 ∷ user_is 2 authorised 142 ∷ user_is 1 current 7 ∷ [])
    -- of a user who is off: none, by the officer
    ∷ expect [] (asking 1 14 [] [] 3 0 0) 0 (user_is 3 current 0 ∷ user_is 1 held 0 ∷ [])
    -- an officer by authorisation takes up the role
    ∷ expect [] (asking 7 14 [] [] 7 1 0) 0 (user_is 7 current 1 ∷ user_is 7 authorised 1 ∷ user_is 7 held 0 ∷ [])
    -- 5: user 0
    ∷ noted (asking 1 14 [] [] 0 0 0) 5 []
    -- 5: a user over the last
    ∷ noted (asking 1 14 [] [] (suc user_count) 0 0) 5 []
    -- 5: a role too many
    ∷ noted (asking 1 14 [] [] 1 role_sets 0) 5 (user_is 1 current 7 ∷ [])
    -- 5: c is not used
    ∷ noted (asking 1 14 [] [] 1 1 1) 5 (user_is 1 current 7 ∷ [])
    -- 6: the requester is off, and asks for no roles
    ∷ noted (asking 3 14 [] [] 3 0 0) 6 []
    -- 11: the highest user, absent
    ∷ noted (asking 1 14 [] [] user_count 0 0) 11 (user_is user_count present 0 ∷ [])
    -- 11: off, and a role is asked for that is authorised
    ∷ noted (asking 1 14 [] [] 3 2 0) 11 (user_is 3 current 0 ∷ [])
    -- 12: another's, even where nothing would change
    ∷ noted (asking 2 14 [] [] 1 7 0) 12 (user_is 1 current 7 ∷ [])
    -- 13: a role that is not authorised
    ∷ noted (asking 2 14 [] [] 2 1 0) 13 (user_is 2 current 136 ∷ [])
    -- 13: the officer can't give it either
    ∷ noted (asking 1 14 [] [] 2 (role_sets - 1) 0) 13 (user_is 2 current 136 ∷ [])
    -- 11 before 12 and 13: another's, who is off and not authorised
    ∷ noted (asking 2 14 [] [] 3 1 0) 11 (user_is 3 current 0 ∷ [])
    -- 12 before 13: another's, not authorised, by an officer who has not taken up the role
    ∷ noted (asking 7 14 [] [] 2 (role_sets - 1) 0) 12 (user_is 2 current 136 ∷ [])
    ∷ []

unfoldable pub clearance_cases : List Case
clearance_cases =
    -- of a user who is off: any level
    expect [] (asking 1 15 [] [] 3 highest 0) 0 (user_is 3 clearance highest ∷ user_is 3 authorised 6 ∷ user_is 2 clearance (at 2 1) ∷ [])
    -- down to the level of all that the user's screen shows
    ∷ expect [] (asking 1 15 [] [] 2 (at 0 1) 0) 0 (user_is 2 clearance (at 0 1) ∷ user_is 2 current 136 ∷ [])
    -- the officer's own, down to the lowest level that is above both that are shown
    ∷ expect [] (asking 1 15 [] [] 1 (at 1 1) 0) 0 (user_is 1 clearance (at 1 1) ∷ entity_is 1 used 2 ∷ [])
    -- 5: user 0
    ∷ noted (asking 1 15 [] [] 0 0 0) 5 []
    -- 5: a user over the last
    ∷ noted (asking 1 15 [] [] (suc user_count) 0 0) 5 []
    -- 5: over the highest
    ∷ noted (asking 1 15 [] [] 3 level_count 0) 5 (user_is 3 clearance (at 2 1) ∷ [])
    -- 5: c is not used
    ∷ noted (asking 1 15 [] [] 3 0 1) 5 (user_is 3 clearance (at 2 1) ∷ [])
    -- 6: the requester is off
    ∷ noted (asking 3 15 [] [] 3 0 0) 6 (user_is 3 clearance (at 2 1) ∷ [])
    -- 11 before 12: no such user, by one who is no officer
    ∷ noted (asking 2 15 [] [] user_count 0 0) 11 (user_is user_count clearance 0 ∷ [])
    -- 12: no officer, and nothing would change
    ∷ noted (asking 2 15 [] [] 2 (at 2 1) 0) 12 []
    -- 13: under what the user's screen shows
    ∷ noted (asking 1 15 [] [] 7 (at 1 0) 0) 13 (user_is 7 clearance (at 2 0) ∷ [])
    -- 13: a higher number than before, without the compartment of what is shown
    ∷ noted (asking 1 15 [] [] 2 (at 3 0) 0) 13 (user_is 2 clearance (at 2 1) ∷ [])
    -- 12 before 13: under what is shown, by an officer who has not taken up the role
    ∷ noted (asking 7 15 [] [] 7 (at 1 0) 0) 12 (user_is 7 clearance (at 2 0) ∷ [])
    ∷ []

unfoldable pub authorised_cases : List Case
authorised_cases =
    -- every role, the officer's own
    expect [] (asking 1 16 [] [] 1 (role_sets - 1) 0) 0 (user_is 1 authorised (role_sets - 1) ∷ user_is 1 current 7 ∷ user_is 1 clearance highest ∷ [])
    -- another's, down to the current ones
    ∷ expect [] (asking 1 16 [] [] 2 136 0) 0 (user_is 2 authorised 136 ∷ user_is 2 current 136 ∷ [])
    -- 5: user 0
    ∷ noted (asking 1 16 [] [] 0 0 0) 5 []
    -- 5: a user over the last
    ∷ noted (asking 1 16 [] [] (suc user_count) 0 0) 5 []
    -- 5: a role too many
    ∷ noted (asking 1 16 [] [] 3 role_sets 0) 5 (user_is 3 authorised 6 ∷ [])
    -- 5: c is not used
    ∷ noted (asking 1 16 [] [] 3 0 1) 5 (user_is 3 authorised 6 ∷ [])
    -- 6: the requester is off
    ∷ noted (asking 3 16 [] [] 3 0 0) 6 (user_is 3 authorised 6 ∷ [])
    -- 11 before 12: no such user, by one who is no officer
    ∷ noted (asking 2 16 [] [] user_count 0 0) 11 (user_is user_count authorised 0 ∷ [])
    -- 12: an officer who has not taken up the role
    ∷ noted (asking 7 16 [] [] 7 (role_sets - 1) 0) 12 (user_is 7 authorised 1 ∷ [])
    -- 13: a higher number than the current roles, without one of them
    ∷ noted (asking 1 16 [] [] 2 247 0) 13 (user_is 2 authorised 142 ∷ [])
    -- 12 before 13: without the current ones, by one who is no officer
    ∷ noted (asking 2 16 [] [] 2 0 0) 12 (user_is 2 authorised 142 ∷ [])
    ∷ []

unfoldable pub maximum_cases : List Case
maximum_cases =
    -- down to the device's level
    expect [] (asking 1 17 (6 ∷ []) [] (at 2 1) 0 0) 0 (entity_is 6 maximum (at 2 1) ∷ entity_is 6 level (at 2 1) ∷ [])
    -- up to the highest level, by a role that the requester now has
    ∷ expect [] (asking 1 17 (5 ∷ []) [] highest 0 0) 0 (entity_is 5 maximum highest ∷ entity_is 5 level (at 2 0) ∷ [])
    -- 5: over the highest
    ∷ noted (asking 1 17 (6 ∷ []) [] level_count 0 0) 5 (entity_is 6 maximum highest ∷ [])
    -- 5: b is not used
    ∷ noted (asking 1 17 (6 ∷ []) [] (at 2 1) 1 0) 5 []
    -- 5: five names
    ∷ noted (asking 1 17 (16 ∷ 1 ∷ 1 ∷ 1 ∷ 1 ∷ []) [] (at 2 1) 0 0) 5 []
    -- 6: the requester is off
    ∷ noted (asking 3 17 (6 ∷ []) [] (at 2 1) 0 0) 6 (entity_is 6 maximum highest ∷ [])
    -- 7: past what a device shows
    ∷ noted (asking 1 17 (1 ∷ 3 ∷ []) [] (at 2 1) 0 0) 7 []
    -- 8: the role in the triple is authorised, and not current
    ∷ noted (asking 7 17 (5 ∷ []) [] highest 0 0) 8 (entity_is 5 maximum (at 2 0) ∷ [])
    -- 9: through the marked container
    ∷ noted (asking 6 17 (8 ∷ 1 ∷ []) [] (at 2 1) 0 0) 9 []
    -- 10: a container
    ∷ noted (asking 1 17 (30 ∷ []) [] (at 2 1) 0 0) 10 (entity_is 30 maximum 0 ∷ [])
    -- 10 before 12: an object, by one who is no officer
    ∷ noted (asking 6 17 (9 ∷ []) [] (at 2 1) 0 0) 10 (entity_is 9 maximum 0 ∷ [])
    -- 12: an officer who has not taken up the role
    ∷ noted (asking 7 17 (6 ∷ []) [] (at 2 1) 0 0) 12 (entity_is 6 maximum highest ∷ [])
    -- 13: under the device's level, with every compartment
    ∷ noted (asking 1 17 (6 ∷ []) [] (at 1 every_compartment) 0 0) 13 (entity_is 6 maximum highest ∷ [])
    -- 13: a higher number than the device's level, without its compartment
    ∷ noted (asking 1 17 (6 ∷ []) [] (at 3 0) 0 0) 13 (entity_is 6 maximum highest ∷ [])
    -- 12 before 13: under the device's level, by one who is no officer
    ∷ noted (asking 2 17 (2 ∷ []) [] 0 0 0) 12 (entity_is 2 maximum (at 3 1) ∷ [])
    ∷ []

unfoldable pub device_level_cases : List Case
device_level_cases =
    -- strictly lower on the requester's own device, with no downgrader
    expect [] (asking 2 18 (2 ∷ []) [] (at 0 1) 0 0) 0 (entity_is 2 level (at 0 1) ∷ entity_is 2 maximum (at 3 1) ∷ user_is 2 held 0 ∷ [])
    -- strictly lower on another's device, by a downgrader
    ∷ expect [] (asking 1 18 (2 ∷ []) [] (at 0 1) 0 0) 0 (entity_is 2 level (at 0 1) ∷ user_is 2 device 2 ∷ [])
    -- sideways, by a downgrader
    ∷ expect [] (asking 1 18 (6 ∷ []) [] (at 1 2) 0 0) 0 (entity_is 6 level (at 1 2) ∷ user_is 1 held 0 ∷ [])
    -- a higher rank with the same compartment: no downgrader is needed
    ∷ expect [] (asking 2 18 (6 ∷ []) [] (at 3 1) 0 0) 0 (entity_is 6 level (at 3 1) ∷ entity_is 6 maximum highest ∷ entity_is 2 level (at 1 1) ∷ [])
    -- the same level does not drop
    ∷ expect [] (asking 2 18 (6 ∷ []) [] (at 2 1) 0 0) 0 (entity_is 6 level (at 2 1) ∷ user_is 2 held 0 ∷ [])
    -- 5: over the highest
    ∷ noted (asking 1 18 (6 ∷ []) [] level_count 0 0) 5 (entity_is 6 level (at 2 1) ∷ [])
    -- 5: b is not used
    ∷ noted (asking 1 18 (6 ∷ []) [] highest 1 0) 5 []
    -- 5: a second reference
    ∷ noted (asking 1 18 (6 ∷ []) (6 ∷ []) highest 0 0) 5 []
    -- 6: the requester is off
    ∷ noted (asking 3 18 (6 ∷ []) [] highest 0 0) 6 (entity_is 6 level (at 2 1) ∷ [])
    -- 7: a first name far out of range
    ∷ noted (asking 1 18 (most ∷ []) [] highest 0 0) 7 []
    -- 8: triples of this requester's, none of them for this operation
    ∷ noted (asking 1 18 (3 ∷ []) [] 0 0 0) 8 (entity_is 3 level (at 1 0) ∷ [])
    -- 9: through the marked container
    ∷ noted (asking 6 18 (8 ∷ 2 ∷ []) [] highest 0 0) 9 []
    -- 10: a container
    ∷ noted (asking 6 18 (10 ∷ []) [] (at 2 0) 0 0) 10 []
    -- 10: an object
    ∷ noted (asking 1 18 (33 ∷ []) [] 0 0 0) 10 []
    -- 12: strictly lower on a device that nobody is on; the requester is a downgrader by authorisation, not by current role
    ∷ noted (asking 2 18 (6 ∷ []) [] (at 2 0) 0 0) 12 (entity_is 6 level (at 2 1) ∷ [])
    -- 12: sideways; at 1 2 is a smaller number than at 2 1, and not lower
    ∷ noted (asking 2 18 (6 ∷ []) [] (at 1 2) 0 0) 12 (entity_is 6 level (at 2 1) ∷ [])
    -- 12: strictly lower on another's device
    ∷ noted (asking 2 18 (3 ∷ []) [] 0 0 0) 12 (entity_is 3 level (at 1 0) ∷ [])
    -- 13: not at least what the device shows
    ∷ noted (asking 2 18 (2 ∷ []) [] (at 1 0) 0 0) 13 (entity_is 2 level (at 1 1) ∷ [])
    -- 13: over the device's maximum
    ∷ noted (asking 2 18 (2 ∷ []) [] highest 0 0) 13 (entity_is 2 level (at 1 1) ∷ [])
    -- 12 before 13: strictly lower, and not at least what another's device shows; sideways, and over the device's maximum
    ∷ noted (asking 2 18 (5 ∷ []) [] 0 0 0) 12 (entity_is 5 level (at 2 0) ∷ [])
    ∷ noted (asking 2 18 (5 ∷ []) [] (at 1 1) 0 0) 12 (entity_is 5 level (at 2 0) ∷ [])
    ∷ []

unfoldable pub release_cases : List Case
release_cases =
    -- a draft, by one whose releaser role is current
    expect [] (asking 1 19 (29 ∷ []) [] 0 0 0) 0 (entity_is 29 type released_type ∷ entity_is 29 releaser 1 ∷ entity_is 29 kind container_kind ∷
    entity_is 29 level (at 2 1) ∷ entity_is 29 value 41 ∷ [])
    -- by another, once the role is taken up
    ∷ expect (asking 2 14 [] [] 2 4 0 gets 0 ∷ []) (asking 2 19 (29 ∷ []) [] 0 0 0) 0
    (entity_is 29 type released_type ∷ entity_is 29 releaser 2 ∷ user_is 2 current 4 ∷ [])
    -- 5: a is not used
    ∷ noted (asking 1 19 (29 ∷ []) [] 1 0 0) 5 []
    -- 5: no name
    ∷ noted (asking 1 19 [] [] 0 0 0) 5 []
    -- 6: the requester is off
    ∷ noted (asking 3 19 (29 ∷ []) [] 0 0 0) 6 (entity_is 29 type draft_type ∷ [])
    -- 7: the fourth name is past the used places
    ∷ noted (asking 1 19 (16 ∷ 1 ∷ 1 ∷ 2 ∷ []) [] 0 0 0) 7 []
    -- 8: a draft whose triples name others
    ∷ noted (asking 6 19 (29 ∷ []) [] 0 0 0) 8 (entity_is 29 type draft_type ∷ [])
    -- 9: through the marked container
    ∷ noted (asking 6 19 (8 ∷ 2 ∷ []) [] 0 0 0) 9 (entity_is 10 type draft_type ∷ [])
    -- 10: a plain container
    ∷ noted (asking 1 19 (14 ∷ []) [] 0 0 0) 10 (entity_is 14 type plain_type ∷ [])
    -- 10: released already
    ∷ noted (asking 1 19 (34 ∷ []) [] 0 0 0) 10 (entity_is 34 releaser 9 ∷ [])
    -- 10: an object
    ∷ noted (asking 1 19 (15 ∷ []) [] 0 0 0) 10 []
    -- 10: a device
    ∷ noted (asking 1 19 (3 ∷ []) [] 0 0 0) 10 []
    -- 12: the releaser role is authorised, and not current
    ∷ noted (asking 2 19 (29 ∷ []) [] 0 0 0) 12 (entity_is 29 type draft_type ∷ entity_is 29 releaser 0 ∷ [])
    ∷ []

unfoldable pub acknowledge_cases : List Case
acknowledge_cases =
    -- the refusal held and its count, by a user who is off
    expect [] (asking 5 20 [] [] 7 2 0) 0 (user_is 5 held 0 ∷ user_is 5 held_op 0 ∷ user_is 5 missed 0 ∷ user_is 5 device 0 ∷ user_is 5 present 1 ∷ [])
    -- the highest count; another user's notice stays
    ∷ expect [] (asking 4 20 [] [] 9 missed_most 0) 0 (user_is 4 held 0 ∷ user_is 4 held_op 0 ∷ user_is 4 missed 0 ∷ user_is 4 device 3 ∷ user_is 5 missed 2 ∷
    [])
    -- a wrong acknowledgement counts too, and then the new count is right
    ∷ expect (asking 5 20 [] [] 7 1 0 gets 16 ∷ []) (asking 5 20 [] [] 7 3 0) 0
    (user_is 5 held 0 ∷ user_is 5 held_op 0 ∷ user_is 5 missed 0 ∷ user_is 4 missed missed_most ∷ [])
    -- 5: c is not used
    ∷ expect [] (asking 5 20 [] [] 7 2 1) 5 (user_is 5 held 7 ∷ user_is 5 held_op 4 ∷ user_is 5 missed 3 ∷ [])
    -- 5: a reference
    ∷ expect [] (asking 5 20 (1 ∷ []) [] 7 2 0) 5 (user_is 5 held 7 ∷ user_is 5 held_op 4 ∷ user_is 5 missed 3 ∷ [])
    -- 16: nothing is held, and nothing is acknowledged
    ∷ noted (asking 1 20 [] [] 0 0 0) 16 []
    -- 16: another refusal
    ∷ expect [] (asking 5 20 [] [] 4 2 0) 16 (user_is 5 held 7 ∷ user_is 5 held_op 4 ∷ user_is 5 missed 3 ∷ [])
    -- 16: another count
    ∷ expect [] (asking 5 20 [] [] 7 1 0) 16 (user_is 5 held 7 ∷ user_is 5 held_op 4 ∷ user_is 5 missed 3 ∷ [])
    -- 16: numbers that no notice can have are not out of range
    ∷ expect [] (asking 4 20 [] [] most most 0) 16 (user_is 4 held 9 ∷ user_is 4 held_op 10 ∷ user_is 4 missed missed_most ∷ [])
    ∷ []

unfoldable pub ladder_cases : List Case
ladder_cases =
    -- 4: user 0
    expect [] (asking 0 4 (13 ∷ []) [] 77 0 0) 4 (entity_is 13 value 40 ∷ user_is 1 held 0 ∷ user_is 1 missed 0 ∷ [])
    -- 4: the user after the last would be where the first entity's record is
    ∷ expect [] (asking (suc user_count) 4 (13 ∷ []) [] 77 0 0) 4 (entity_is 13 value 40 ∷ entity_is 1 releaser 0 ∷ entity_is 1 maximum highest ∷
    entity_is 1 used 2 ∷ [])
    -- 4: an absent user, before the operation is looked at
    ∷ expect [] (asking 8 0 [] [] 0 0 0) 4 (user_is 8 present 0 ∷ user_is 8 held 0 ∷ user_is 8 missed 0 ∷ [])
    -- 5: operation 0, which the notice keeps as 0
    ∷ noted (asking 1 0 [] [] 0 0 0) 5 []
    -- 5 before 6: an operation over the last, which the notice keeps as 0, by one who is off
    ∷ expect [] (asking 3 (suc operation_count) [] [] 0 0 0) 5 (user_is 3 held 5 ∷ user_is 3 held_op 0 ∷ user_is 3 missed 1 ∷ [])
    -- 5: a name word of a second reference of no names
    ∷ noted (1 ∷ 4 ∷ 1 ∷ 13 ∷ 0 ∷ 0 ∷ 0 ∷ 0 ∷ 13 ∷ 0 ∷ 0 ∷ 0 ∷ 77 ∷ 0 ∷ 0 ∷ 0 ∷ []) 5 (entity_is 13 value 40 ∷ [])
    -- 5: the last name word past a reference of three names
    ∷ noted (1 ∷ 4 ∷ 3 ∷ 16 ∷ 1 ∷ 1 ∷ 1 ∷ 0 ∷ 0 ∷ 0 ∷ 0 ∷ 0 ∷ 77 ∷ 0 ∷ 0 ∷ 0 ∷ []) 5 []
    -- 5: word 15, at an operation with no operands
    ∷ noted (1 ∷ 11 ∷ 0 ∷ 0 ∷ 0 ∷ 0 ∷ 0 ∷ 0 ∷ 0 ∷ 0 ∷ 0 ∷ 0 ∷ 0 ∷ 0 ∷ 0 ∷ 1 ∷ []) 5 (entity_is 1 used 2 ∷ [])
    -- 5: a name word where the operation takes no reference
    ∷ noted (1 ∷ 13 ∷ 0 ∷ 1 ∷ 0 ∷ 0 ∷ 0 ∷ 0 ∷ 0 ∷ 0 ∷ 0 ∷ 0 ∷ 0 ∷ 0 ∷ 0 ∷ 0 ∷ []) 5 (user_is 1 device 1 ∷ [])
    -- 5 before 6: off, and a sum over the greatest
    ∷ noted (asking 3 10 (31 ∷ []) [] (suc sum_most) 0 0) 5 []
    -- 6 before 7: off, and the name leads nowhere
    ∷ noted (asking 3 10 (suc entity_count ∷ []) [] 3 0 0) 6 []
    -- 7 before 8: a container with no triple for the requester, and no fourth place
    ∷ noted (asking 6 4 (12 ∷ 4 ∷ []) [] 77 0 0) 7 []
    -- 8 before 9: through the marked container, with no triple
    ∷ noted (asking 6 4 (8 ∷ 3 ∷ []) [] 77 0 0) 8 (entity_is 31 value 44 ∷ [])
    -- a second refusal is counted; the first one and its operation stay
    ∷ expect (asking 2 10 (31 ∷ []) [] 1 0 0 gets 15 ∷ []) (asking 2 4 (15 ∷ []) [] 77 0 0) 8
    (user_is 2 held 15 ∷ user_is 2 held_op 10 ∷ user_is 2 missed 2 ∷ [])
    -- the same where the requester is off and had a notice from the start; the spare words stay zero
    ∷ expect [] (asking 5 4 (13 ∷ []) [] 77 0 0) 6 (user_is 5 held 7 ∷ user_is 5 held_op 4 ∷ user_is 5 missed 3 ∷ user_is 5 (spare 0) 0 ∷ [])
    -- the count stops; 9, because the clearance has the mark's compartment and a lower rank
    ∷ expect [] (asking 4 10 (8 ∷ 3 ∷ []) [] 3 0 0) 9 (user_is 4 held 9 ∷ user_is 4 held_op 10 ∷ user_is 4 missed missed_most ∷ [])
    -- another user's refusal leaves a notice as it is
    ∷ noted (asking 1 4 (13 ∷ 1 ∷ []) [] 77 0 0) 7 (user_is 4 held 9 ∷ user_is 4 missed missed_most ∷ user_is 5 held 7 ∷ user_is 5 missed 2 ∷ user_is 2 missed
    0 ∷ [])
    -- an acceptance leaves the requester's notice as it is
    ∷ expect (asking 2 10 (31 ∷ []) [] 1 0 0 gets 15 ∷ []) (asking 2 10 (31 ∷ []) [] 3 0 0) 0 (user_is 2 held 15 ∷ user_is 2 held_op 10 ∷ user_is 2 missed 1 ∷
    entity_is 2 used 2 ∷ entity_is 2 (place 1) 31 ∷ entity_is 2 (shown 1) 3 ∷ [])
    ∷ []
