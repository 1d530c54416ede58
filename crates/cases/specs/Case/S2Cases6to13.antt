-- Cases on state S2: level, mark, grant, revoke, show, clear, login, logout (rules 6.6 to 6.13).
use Rattle.std.specs.Prelude.{List, [], ◌∷◌, suc}
use Rattle.cases.specs.Case.Cases.{Case, ◌gets◌, asking, at, entity_is, expect, highest, noted, user_is}
use Rattle.model.specs.Level.{level_count}
use Rattle.model.specs.Tables.Words.{authorised, clearance, current, device, draft_type, entity_count, held, held_op, level, mark, missed}
use Rattle.model.specs.Tables.Words.{missed_most, operation_count, place, place_count, position_count, shown, sum_most, triple, triple_of, type}
use Rattle.model.specs.Tables.Words.{used, value, who_most, who_role}

-- every case: what was asked before and what it got (from S2 on), what is asked, the answer, and words that stand afterwards
unfoldable pub level_cases : List Case
level_cases =
    -- up to the level of what holds it
    expect [] (asking 1 6 (13 ∷ []) [] (at 2 0) 0 0) 0 (entity_is 13 level (at 2 0) ∷ entity_is 12 level (at 2 0) ∷ entity_is 13 value 40 ∷ [])
    -- strictly lower, by a downgrader
    ∷ expect [] (asking 1 6 (12 ∷ 1 ∷ []) [] 0 0 0) 0 (entity_is 13 level 0 ∷ entity_is 12 level (at 2 0) ∷ [])
    -- a higher rank with the same compartment: no downgrader is needed
    ∷ expect [] (asking 2 6 (30 ∷ []) [] (at 3 2) 0 0) 0 (entity_is 30 level (at 3 2) ∷ user_is 2 held 0 ∷ [])
    -- the same level does not drop
    ∷ expect [] (asking 2 6 (30 ∷ []) [] (at 1 2) 0 0) 0 (entity_is 30 level (at 1 2) ∷ user_is 2 held 0 ∷ [])
    -- 5: over the highest
    ∷ noted (asking 1 6 (13 ∷ []) [] level_count 0 0) 5 []
    -- 5: b is not used
    ∷ noted (asking 1 6 (13 ∷ []) [] (at 2 0) 1 0) 5 []
    -- 5: a name word past the reference's length
    ∷ noted (1 ∷ 6 ∷ 1 ∷ 13 ∷ 1 ∷ 0 ∷ 0 ∷ 0 ∷ 0 ∷ 0 ∷ 0 ∷ 0 ∷ at 2 0 ∷ 0 ∷ 0 ∷ 0 ∷ []) 5 (entity_is 13 level (at 1 0) ∷ [])
    -- 6: the requester is off
    ∷ noted (asking 3 6 (13 ∷ []) [] (at 2 0) 0 0) 6 (entity_is 13 level (at 1 0) ∷ [])
    -- 7: the container has three places used
    ∷ noted (asking 1 6 (12 ∷ 4 ∷ []) [] (at 2 0) 0 0) 7 []
    -- 8: eight triples, none of them for this operation
    ∷ noted (asking 1 6 (14 ∷ []) [] (at 2 0) 0 0) 8 (entity_is 14 level (at 1 0) ∷ [])
    -- 9: through the marked container
    ∷ noted (asking 6 6 (8 ∷ 1 ∷ []) [] (at 1 0) 0 0) 9 []
    -- 10: a device
    ∷ noted (asking 1 6 (3 ∷ []) [] (at 1 0) 0 0) 10 []
    -- 12: sideways; at 0 1 is a smaller number than at 1 2, and not lower
    ∷ noted (asking 2 6 (30 ∷ []) [] (at 0 1) 0 0) 12 (entity_is 30 level (at 1 2) ∷ [])
    -- 12: sideways; at 3 1 is a greater number than at 1 2, and not higher
    ∷ noted (asking 2 6 (30 ∷ []) [] (at 3 1) 0 0) 12 (entity_is 30 level (at 1 2) ∷ [])
    -- 12: strictly lower; the requester is a downgrader by authorisation, not by current role
    ∷ noted (asking 2 6 (30 ∷ []) [] (at 1 0) 0 0) 12 (entity_is 30 level (at 1 2) ∷ [])
    -- 13: above what holds it
    ∷ noted (asking 1 6 (13 ∷ []) [] highest 0 0) 13 (entity_is 13 level (at 1 0) ∷ [])
    -- 13: at 0 1 is a smaller number than the container's at 2 0, and not at most it
    ∷ noted (asking 1 6 (13 ∷ []) [] (at 0 1) 0 0) 13 (entity_is 13 level (at 1 0) ∷ [])
    -- 13: lower than what it holds
    ∷ noted (asking 1 6 (12 ∷ []) [] (at 1 0) 0 0) 13 (entity_is 12 level (at 2 0) ∷ [])
    -- 13: at most the clearance of the user on whose screen it stands, and not at most that device's level
    ∷ noted (asking 1 6 (32 ∷ []) [] (at 2 1) 0 0) 13 (entity_is 32 level (at 0 1) ∷ [])
    -- 13: at most the level of the two devices that show it, and not at most one user's clearance
    ∷ noted (asking 1 6 (28 ∷ []) [] (at 1 1) 0 0) 13 (entity_is 28 level (at 1 0) ∷ [])
    -- 12 before 13: strictly lower, and not at least what it holds; sideways, and not at least it
    ∷ noted (asking 2 6 (16 ∷ []) [] 0 0 0) 12 []
    ∷ noted (asking 2 6 (16 ∷ []) [] (at 0 1) 0 0) 12 (entity_is 16 level (at 1 0) ∷ [])
    ∷ []

unfoldable pub mark_cases : List Case
mark_cases =
    -- a mark is set
    expect [] (asking 1 7 (14 ∷ []) [] 1 0 0) 0 (entity_is 14 mark 1 ∷ entity_is 14 level (at 1 0) ∷ entity_is 14 value 50 ∷ [])
    -- a mark is taken off
    ∷ expect [] (asking 1 7 (8 ∷ []) [] 0 0 0) 0 (entity_is 8 mark 0 ∷ entity_is 8 level (at 2 1) ∷ entity_is 8 used 3 ∷ [])
    -- a draft is a container too; it is named directly
    ∷ expect [] (asking 6 7 (10 ∷ []) [] 1 0 0) 0 (entity_is 10 mark 1 ∷ entity_is 10 type draft_type ∷ [])
    -- once the mark is off, the way through the container is open
    ∷ expect (asking 1 7 (8 ∷ []) [] 0 0 0 gets 0 ∷ []) (asking 6 4 (8 ∷ 1 ∷ []) [] 77 0 0) 0 (entity_is 9 value 77 ∷ user_is 6 held 0 ∷ [])
    -- 5: neither 0 nor 1
    ∷ noted (asking 1 7 (14 ∷ []) [] 2 0 0) 5 (entity_is 14 mark 0 ∷ [])
    -- 5: b is not used
    ∷ noted (asking 1 7 (14 ∷ []) [] 1 1 0) 5 []
    -- 5: word 15 is not zero
    ∷ noted (1 ∷ 7 ∷ 1 ∷ 14 ∷ 0 ∷ 0 ∷ 0 ∷ 0 ∷ 0 ∷ 0 ∷ 0 ∷ 0 ∷ 1 ∷ 0 ∷ 0 ∷ 1 ∷ []) 5 (entity_is 14 mark 0 ∷ [])
    -- 6: the requester is off
    ∷ noted (asking 3 7 (14 ∷ []) [] 1 0 0) 6 (entity_is 14 mark 0 ∷ [])
    -- 7: a first name of 0
    ∷ noted (asking 1 7 (0 ∷ []) [] 1 0 0) 7 []
    -- 8: triples for two others only
    ∷ noted (asking 2 7 (8 ∷ []) [] 0 0 0) 8 (entity_is 8 mark 1 ∷ [])
    -- 9: through the marked container
    ∷ noted (asking 6 7 (8 ∷ 2 ∷ []) [] 1 0 0) 9 (entity_is 10 mark 0 ∷ [])
    -- 10: an object
    ∷ noted (asking 1 7 (13 ∷ []) [] 1 0 0) 10 (entity_is 13 mark 0 ∷ [])
    -- 10: a device
    ∷ noted (asking 1 7 (3 ∷ []) [] 1 0 0) 10 (entity_is 3 mark 0 ∷ [])
    ∷ []

unfoldable pub grant_cases : List Case
grant_cases =
    -- on a device, with the highest of each range: it becomes the last
    expect [] (asking 1 8 (4 ∷ []) [] who_most operation_count position_count) 0 (entity_is 4 (triple 3) (triple_of who_most operation_count position_count) ∷
    entity_is 4 (triple 2) (triple_of (who_role 1) 12 1) ∷ entity_is 4 (triple 4) 0 ∷ entity_is 4 used 7 ∷ [])
    -- on an object, with the lowest of each range: the eighth
    ∷ expect [] (asking 1 8 (33 ∷ []) [] 1 1 1) 0 (entity_is 33 (triple 7) (triple_of 1 1 1) ∷ entity_is 33 (triple 0) (triple_of 1 4 1) ∷
    entity_is 33 (triple 6) (triple_of (who_role 6) 3 2) ∷ [])
    -- already held: no change
    ∷ expect [] (asking 1 8 (33 ∷ []) [] 1 4 1) 0 (entity_is 33 (triple 0) (triple_of 1 4 1) ∷ entity_is 33 (triple 7) 0 ∷ [])
    -- already held among eight: no change, and no room is asked
    ∷ expect [] (asking 1 8 (14 ∷ []) [] 1 3 2) 0 (entity_is 14 (triple 0) (triple_of 1 3 2) ∷ entity_is 14 (triple 7) (triple_of 1 19 1) ∷ user_is 1 held 0 ∷
    [])
    -- 5: who 0
    ∷ noted (asking 1 8 (4 ∷ []) [] 0 1 1) 5 []
    -- 5: who over the last
    ∷ noted (asking 1 8 (4 ∷ []) [] (suc who_most) 1 1) 5 []
    -- 5: operation 0
    ∷ noted (asking 1 8 (4 ∷ []) [] 1 0 1) 5 []
    -- 5: an operation over the last
    ∷ noted (asking 1 8 (4 ∷ []) [] 1 (suc operation_count) 1) 5 []
    -- 5: position 0
    ∷ noted (asking 1 8 (4 ∷ []) [] 1 1 0) 5 []
    -- 5: a position over the last
    ∷ noted (asking 1 8 (4 ∷ []) [] 1 1 (suc position_count)) 5 (entity_is 4 (triple 3) 0 ∷ [])
    -- 5: no name
    ∷ noted (asking 1 8 [] [] 1 1 1) 5 []
    -- 6: the requester is off
    ∷ noted (asking 3 8 (4 ∷ []) [] 1 1 1) 6 (entity_is 4 (triple 3) 0 ∷ [])
    -- 7: a place after the last of a full container
    ∷ noted (asking 1 8 (19 ∷ suc place_count ∷ []) [] 1 1 1) 7 []
    -- 8: a device whose triples name others
    ∷ noted (asking 2 8 (4 ∷ []) [] 1 1 1) 8 (entity_is 4 (triple 3) 0 ∷ [])
    -- 9: through the marked container, before room is asked
    ∷ noted (asking 6 8 (8 ∷ 2 ∷ []) [] 1 1 1) 9 (entity_is 10 (triple 7) (triple_of 6 19 1) ∷ [])
    -- 14: eight others are held
    ∷ noted (asking 1 8 (14 ∷ []) [] 1 4 1) 14 (entity_is 14 (triple 7) (triple_of 1 19 1) ∷ [])
    ∷ []

unfoldable pub revoke_cases : List Case
revoke_cases =
    -- the first of three, the requester's own right to grant: the others move up
    expect [] (asking 1 9 (4 ∷ []) [] 1 8 1) 0 (entity_is 4 (triple 0) (triple_of 1 9 1) ∷ entity_is 4 (triple 1) (triple_of (who_role 1) 12 1) ∷
    entity_is 4 (triple 2) 0 ∷ entity_is 4 (place 0) 28 ∷ [])
    -- one in the middle of eight
    ∷ expect [] (asking 6 9 (10 ∷ []) [] 6 5 2) 0 (entity_is 10 (triple 1) (triple_of 6 3 2) ∷ entity_is 10 (triple 2) (triple_of 6 7 1) ∷
    entity_is 10 (triple 3) (triple_of 6 8 1) ∷ entity_is 10 (triple 4) (triple_of 6 9 1) ∷ entity_is 10 (triple 5) (triple_of 6 18 1) ∷
    entity_is 10 (triple 6) (triple_of 6 19 1) ∷ entity_is 10 (triple 7) 0 ∷ [])
    -- one that is not held, with the highest of each range: no change
    ∷ expect [] (asking 1 9 (4 ∷ []) [] who_most operation_count position_count) 0 (entity_is 4 (triple 0) (triple_of 1 8 1) ∷
    entity_is 4 (triple 2) (triple_of (who_role 1) 12 1) ∷ entity_is 4 (triple 3) 0 ∷ user_is 1 held 0 ∷ [])
    -- 5: who 0
    ∷ noted (asking 1 9 (4 ∷ []) [] 0 8 1) 5 []
    -- 5: who over the last
    ∷ noted (asking 1 9 (4 ∷ []) [] (suc who_most) 8 1) 5 []
    -- 5: operation 0
    ∷ noted (asking 1 9 (4 ∷ []) [] 1 0 1) 5 []
    -- 5: an operation over the last
    ∷ noted (asking 1 9 (4 ∷ []) [] 1 (suc operation_count) 1) 5 []
    -- 5: position 0
    ∷ noted (asking 1 9 (4 ∷ []) [] 1 8 0) 5 []
    -- 5: a position over the last
    ∷ noted (asking 1 9 (4 ∷ []) [] 1 8 (suc position_count)) 5 []
    -- 5: five names
    ∷ noted (asking 1 9 (16 ∷ 1 ∷ 1 ∷ 1 ∷ 1 ∷ []) [] 1 8 1) 5 []
    -- 6: the requester is off
    ∷ noted (asking 3 9 (4 ∷ []) [] 1 8 1) 6 (entity_is 4 (triple 0) (triple_of 1 8 1) ∷ [])
    -- 7: a first name over the highest number
    ∷ noted (asking 1 9 (suc entity_count ∷ []) [] 1 8 1) 7 []
    -- 8: the right to grant is not the right to revoke
    ∷ noted (asking 1 9 (33 ∷ []) [] 1 1 1) 8 (entity_is 33 (triple 1) (triple_of 1 8 1) ∷ [])
    -- 9: through the marked container
    ∷ noted (asking 6 9 (8 ∷ 2 ∷ []) [] 6 19 1) 9 (entity_is 10 (triple 7) (triple_of 6 19 1) ∷ [])
    ∷ []

unfoldable pub show_cases : List Case
show_cases =
    -- through the marked container with a clearance equal to its level: last on the screen
    expect [] (asking 2 10 (8 ∷ 3 ∷ []) [] 3 0 0) 0 (entity_is 2 used 2 ∷ entity_is 2 (place 1) 31 ∷ entity_is 2 (shown 1) 3 ∷ entity_is 2 (place 0) 32 ∷
    entity_is 2 (shown 0) 3 ∷ [])
    -- already on the screen: the sum is replaced where it stands, and not on another screen
    ∷ expect [] (asking 1 10 (28 ∷ []) [] sum_most 0 0) 0 (entity_is 1 used 2 ∷ entity_is 1 (place 1) 28 ∷ entity_is 1 (shown 1) sum_most ∷ entity_is 1
    (shown 0) 3 ∷
    entity_is 4 (shown 0) 2 ∷ [])
    -- already on a screen of eight, at the level of the device and of the clearance
    ∷ expect [] (asking 7 10 (22 ∷ []) [] 2 0 0) 0 (entity_is 5 used 8 ∷ entity_is 5 (place 2) 22 ∷ entity_is 5 (shown 2) 2 ∷ entity_is 5 (shown 3) 6 ∷
    user_is 7 held 0 ∷ [])
    -- the ID alone, as the eighth
    ∷ expect [] (asking 6 10 (9 ∷ []) [] 4 0 0) 0 (entity_is 4 used 8 ∷ entity_is 4 (place 7) 9 ∷ entity_is 4 (shown 7) 4 ∷ entity_is 4 (place 6) 26 ∷
    entity_is 4 (shown 6) 2 ∷ [])
    -- a reference through what another's device shows
    ∷ expect [] (asking 2 10 (1 ∷ 1 ∷ []) [] 6 0 0) 0 (entity_is 2 used 2 ∷ entity_is 2 (place 1) 31 ∷ entity_is 2 (shown 1) 6 ∷ entity_is 1 (shown 0) 3 ∷ [])
    -- 5: a sum of 0
    ∷ noted (asking 1 10 (28 ∷ []) [] 0 0 0) 5 (entity_is 1 (shown 1) 6 ∷ [])
    -- 5: a sum over the greatest
    ∷ noted (asking 1 10 (28 ∷ []) [] (suc sum_most) 0 0) 5 (entity_is 1 (shown 1) 6 ∷ [])
    -- 5: b is not used
    ∷ noted (asking 1 10 (28 ∷ []) [] 7 1 0) 5 []
    -- 5: a second reference
    ∷ noted (asking 1 10 (28 ∷ []) (1 ∷ []) 7 0 0) 5 []
    -- 6: the requester is off
    ∷ noted (asking 3 10 (31 ∷ []) [] 3 0 0) 6 []
    -- 7: place 0
    ∷ noted (asking 2 10 (8 ∷ 0 ∷ []) [] 3 0 0) 7 []
    -- 8: the requester is not among those named
    ∷ noted (asking 1 10 (31 ∷ []) [] 3 0 0) 8 (entity_is 1 used 2 ∷ [])
    -- 9: a clearance that is a higher number than the mark's level, and not at least it
    ∷ noted (asking 6 10 (8 ∷ 1 ∷ []) [] 3 0 0) 9 (entity_is 4 used 7 ∷ [])
    -- 10: a device
    ∷ noted (asking 1 10 (3 ∷ []) [] 3 0 0) 10 (entity_is 1 used 2 ∷ [])
    -- 13: at most the device's level, and not at most the clearance, which is a higher number
    ∷ noted (asking 6 10 (31 ∷ []) [] 2 0 0) 13 (entity_is 4 used 7 ∷ [])
    -- 13: at most the clearance, and not at most the device's level
    ∷ noted (asking 2 10 (29 ∷ []) [] 2 0 0) 13 (entity_is 2 used 1 ∷ [])
    -- 14: eight others are shown
    ∷ noted (asking 7 10 (14 ∷ []) [] 3 0 0) 14 (entity_is 5 used 8 ∷ entity_is 5 (place 7) 27 ∷ [])
    -- 15: the value without the label
    ∷ noted (asking 2 10 (31 ∷ []) [] 1 0 0) 15 (entity_is 2 used 1 ∷ [])
    -- 15: the value and the ID without the label, of one already shown
    ∷ noted (asking 1 10 (28 ∷ []) [] 5 0 0) 15 (entity_is 1 (shown 1) 6 ∷ [])
    -- 13 before 14 and 15: above the level of a full screen, and no label
    ∷ noted (asking 7 10 (29 ∷ []) [] 1 0 0) 13 []
    -- 14 before 15: a full screen, and no label
    ∷ noted (asking 7 10 (14 ∷ []) [] 1 0 0) 14 []
    ∷ []

unfoldable pub clear_cases : List Case
clear_cases =
    -- the requester's screen is emptied; another screen with the same object on it is not
    expect [] (asking 1 11 [] [] 0 0 0) 0 (entity_is 1 used 0 ∷ entity_is 1 (place 0) 0 ∷ entity_is 1 (place 1) 0 ∷ entity_is 1 (shown 0) 0 ∷
    entity_is 1 (shown 1) 0 ∷ user_is 1 device 1 ∷ entity_is 4 (place 0) 28 ∷ entity_is 4 used 7 ∷ [])
    -- a full screen; the container with the same eight is not emptied
    ∷ expect [] (asking 7 11 [] [] 0 0 0) 0 (entity_is 5 used 0 ∷ entity_is 5 (place 0) 0 ∷ entity_is 5 (place 1) 0 ∷ entity_is 5 (place 2) 0 ∷
    entity_is 5 (place 3) 0 ∷ entity_is 5 (place 4) 0 ∷ entity_is 5 (place 5) 0 ∷ entity_is 5 (place 6) 0 ∷ entity_is 5 (place 7) 0 ∷ entity_is 5 (shown 0) 0 ∷
    entity_is 5 (shown 1) 0 ∷ entity_is 5 (shown 2) 0 ∷ entity_is 5 (shown 3) 0 ∷ entity_is 5 (shown 4) 0 ∷ entity_is 5 (shown 5) 0 ∷ entity_is 5 (shown 6) 0 ∷
    entity_is 5 (shown 7) 0 ∷ entity_is 19 used 8 ∷ entity_is 19 (place 7) 27 ∷ [])
    -- a screen that is empty already; the notice stays
    ∷ expect [] (asking 4 11 [] [] 0 0 0) 0 (entity_is 3 used 0 ∷ user_is 4 held 9 ∷ user_is 4 held_op 10 ∷ user_is 4 missed missed_most ∷ [])
    -- 5: a is not used
    ∷ noted (asking 1 11 [] [] 1 0 0) 5 (entity_is 1 used 2 ∷ [])
    -- 5: a reference
    ∷ noted (asking 1 11 (1 ∷ []) [] 0 0 0) 5 (entity_is 1 used 2 ∷ [])
    -- 6: the requester is off
    ∷ noted (asking 3 11 [] [] 0 0 0) 6 []
    ∷ []

unfoldable pub login_cases : List Case
login_cases =
    -- a user who is off, on a free device
    expect [] (asking 3 12 (6 ∷ []) [] 0 0 0) 0 (user_is 3 device 6 ∷ user_is 3 current 0 ∷ user_is 3 held 0 ∷ entity_is 6 used 0 ∷ [])
    -- 5: a is not used
    ∷ noted (asking 3 12 (6 ∷ []) [] 1 0 0) 5 (user_is 3 device 0 ∷ [])
    -- 5: no name
    ∷ noted (asking 3 12 [] [] 0 0 0) 5 []
    -- 7, and not 6: the highest entity number, absent
    ∷ noted (asking 3 12 (entity_count ∷ []) [] 0 0 0) 7 []
    -- 8, and not 6: the role in the triple is authorised, and one who is off has no current role
    ∷ noted (asking 3 12 (4 ∷ []) [] 0 0 0) 8 (user_is 3 device 0 ∷ [])
    -- 9 before 10: an object through the marked container
    ∷ noted (asking 6 12 (8 ∷ 1 ∷ []) [] 0 0 0) 9 []
    -- 10: the same object
    ∷ noted (asking 6 12 (9 ∷ []) [] 0 0 0) 10 (user_is 6 device 4 ∷ [])
    -- 10, and not 6: a container
    ∷ noted (asking 3 12 (30 ∷ []) [] 0 0 0) 10 (user_is 3 device 0 ∷ [])
    -- 15, and not 6: somebody is on that device
    ∷ noted (asking 3 12 (2 ∷ []) [] 0 0 0) 15 (user_is 3 device 0 ∷ [])
    -- 15: the requester is on a device
    ∷ noted (asking 1 12 (6 ∷ []) [] 0 0 0) 15 (user_is 1 device 1 ∷ [])
    ∷ []

unfoldable pub logout_cases : List Case
logout_cases =
    -- screen, device and current roles go; authorised roles and clearance stay
    expect [] (asking 1 13 [] [] 0 0 0) 0 (user_is 1 device 0 ∷ user_is 1 current 0 ∷ user_is 1 authorised 7 ∷ user_is 1 clearance highest ∷ entity_is 1 used
    0 ∷
    entity_is 1 (place 0) 0 ∷ entity_is 1 (place 1) 0 ∷ entity_is 1 (shown 0) 0 ∷ entity_is 1 (shown 1) 0 ∷ entity_is 1 level highest ∷ [])
    -- the notice stays
    ∷ expect [] (asking 4 13 [] [] 0 0 0) 0 (user_is 4 device 0 ∷ user_is 4 held 9 ∷ user_is 4 held_op 10 ∷ user_is 4 missed missed_most ∷ [])
    -- 5: a is not used
    ∷ noted (asking 1 13 [] [] 1 0 0) 5 (user_is 1 device 1 ∷ [])
    -- 5: a reference
    ∷ noted (asking 1 13 (1 ∷ []) [] 0 0 0) 5 (user_is 1 device 1 ∷ [])
    -- 6: the requester is off already
    ∷ noted (asking 3 13 [] [] 0 0 0) 6 []
    ∷ []
