-- Cases on state S2: create, delete, move, edit, copy (rules 6.1 to 6.5).
use Rattle.std.specs.Prelude.{List, [], ◌∷◌, suc}
use Rattle.cases.specs.Case.Cases.{Case, ◌gets◌, asking, at, entity_is, expect, highest, noted, user_is}
use Rattle.model.specs.Effect.Places.{draft_sort}
use Rattle.model.specs.Level.{level_count}
use Rattle.model.specs.Tables.Words.{container_kind, device_kind, draft_type, entity_count, held, kind, level, mark, object_kind, place}
use Rattle.model.specs.Tables.Words.{plain_type, released_type, releaser, triple, triple_of, type, used, value, who_role}
use Rattle.model.specs.Text.Numbers.{most}

-- every case: what was asked before and what it got (from S2 on), what is asked, the answer, and words that stand afterwards
unfoldable pub create_cases : List Case
create_cases =
    -- a draft under the container's level: the lowest free number, last in the container, its triples copied and all else zero
    expect [] (asking 1 1 (12 ∷ []) [] 3 (at 1 0) 0) 0 (entity_is 7 kind container_kind ∷ entity_is 7 type draft_type ∷ entity_is 7 level (at 1 0) ∷
    entity_is 7 value 0 ∷ entity_is 7 used 0 ∷ entity_is 7 (triple 0) (triple_of 1 1 1) ∷ entity_is 7 (triple 1) (triple_of (who_role 3) 1 1) ∷
    entity_is 7 (triple 2) (triple_of 1 3 2) ∷ entity_is 7 (triple 3) (triple_of 1 3 1) ∷ entity_is 7 (triple 4) (triple_of 1 2 1) ∷
    entity_is 7 (triple 5) (triple_of 1 6 1) ∷ entity_is 7 (triple 6) 0 ∷ entity_is 12 used 4 ∷ entity_is 12 (place 3) 7 ∷ entity_is 12 (place 2) 15 ∷
    entity_is 12 value 70 ∷ [])
    -- a plain container at the level of the marked one that it is made in: the mark is not copied
    ∷ expect [] (asking 1 1 (8 ∷ []) [] 2 (at 2 1) 0) 0 (entity_is 7 kind container_kind ∷ entity_is 7 type plain_type ∷ entity_is 7 level (at 2 1) ∷
    entity_is 7 mark 0 ∷ entity_is 7 (triple 0) (triple_of 6 4 1) ∷ entity_is 7 (triple 1) (triple_of 6 7 1) ∷ entity_is 7 (triple 2) (triple_of 1 7 1) ∷
    entity_is 7 (triple 3) (triple_of 1 1 1) ∷ entity_is 8 used 4 ∷ entity_is 8 (place 3) 7 ∷ entity_is 8 mark 1 ∷ [])
    -- an object, by a house role that the requester now has
    ∷ expect [] (asking 2 1 (12 ∷ []) [] 1 0 0) 0 (entity_is 7 kind object_kind ∷ entity_is 7 type plain_type ∷ entity_is 7 level 0 ∷
    entity_is 7 (triple 0) (triple_of 1 1 1) ∷ entity_is 7 (triple 1) (triple_of (who_role 3) 1 1) ∷ entity_is 7 (triple 2) (triple_of 1 3 2) ∷
    entity_is 7 (triple 3) (triple_of 1 3 1) ∷ entity_is 7 (triple 4) (triple_of 1 2 1) ∷ entity_is 7 (triple 5) (triple_of 1 6 1) ∷ entity_is 12 used 4 ∷
    entity_is 12 (place 3) 7 ∷ user_is 2 held 0 ∷ [])
    -- under the marked container but named directly; eight triples are copied, the draft's type and value are not
    ∷ expect [] (asking 6 1 (10 ∷ []) [] 1 (at 1 0) 0) 0 (entity_is 7 kind object_kind ∷ entity_is 7 type plain_type ∷ entity_is 7 level (at 1 0) ∷
    entity_is 7 value 0 ∷ entity_is 7 (triple 0) (triple_of 6 1 1) ∷ entity_is 7 (triple 1) (triple_of 6 3 2) ∷ entity_is 7 (triple 2) (triple_of 6 5 2) ∷
    entity_is 7 (triple 3) (triple_of 6 7 1) ∷ entity_is 7 (triple 4) (triple_of 6 8 1) ∷ entity_is 7 (triple 5) (triple_of 6 9 1) ∷
    entity_is 7 (triple 6) (triple_of 6 18 1) ∷ entity_is 7 (triple 7) (triple_of 6 19 1) ∷ entity_is 10 used 2 ∷ entity_is 10 (place 1) 7 ∷
    entity_is 10 (place 0) 34 ∷ [])
    -- into the eighth place, once one has left the full container
    ∷ expect (asking 1 3 (20 ∷ []) (14 ∷ []) 0 0 0 gets 0 ∷ []) (asking 1 1 (19 ∷ []) [] 1 0 0) 0 (entity_is 19 used 8 ∷ entity_is 19 (place 7) 7 ∷
    entity_is 19 (place 6) 27 ∷ entity_is 7 kind object_kind ∷ entity_is 7 (triple 0) (triple_of 1 1 1) ∷ entity_is 7 (triple 1) (triple_of 1 3 1) ∷
    entity_is 7 (triple 2) (triple_of 1 3 2) ∷ [])
    -- 5: sort 0
    ∷ noted (asking 1 1 (12 ∷ []) [] 0 (at 1 0) 0) 5 []
    -- 5: a sort over the last
    ∷ noted (asking 1 1 (12 ∷ []) [] (suc draft_sort) (at 1 0) 0) 5 []
    -- 5: a level over the highest
    ∷ noted (asking 1 1 (12 ∷ []) [] 3 level_count 0) 5 []
    -- 5: c is not used
    ∷ noted (asking 1 1 (12 ∷ []) [] 3 (at 1 0) 1) 5 []
    -- 5: no name
    ∷ noted (asking 1 1 [] [] 3 (at 1 0) 0) 5 []
    -- 6: the requester is off
    ∷ noted (asking 3 1 (12 ∷ []) [] 1 0 0) 6 (entity_is 7 kind 0 ∷ [])
    -- 7: the number is in range, and absent
    ∷ noted (asking 1 1 (7 ∷ []) [] 1 0 0) 7 (entity_is 7 kind 0 ∷ [])
    -- 8: no triple names this user or a role; seen before the highest level is held against the container's
    ∷ noted (asking 6 1 (12 ∷ []) [] 1 highest 0) 8 (entity_is 12 used 3 ∷ [])
    -- 9: the container that the draft is reached through is marked, and its level has a compartment that the clearance lacks
    ∷ noted (asking 6 1 (8 ∷ 2 ∷ []) [] 1 (at 1 0) 0) 9 (entity_is 10 used 1 ∷ [])
    -- 10: an object
    ∷ noted (asking 1 1 (13 ∷ []) [] 1 0 0) 10 (entity_is 13 used 0 ∷ [])
    -- 10: a device
    ∷ noted (asking 1 1 (1 ∷ []) [] 1 0 0) 10 (entity_is 1 used 2 ∷ [])
    -- 13: at 0 1 is a smaller number than at 2 0, and not at most it
    ∷ noted (asking 1 1 (12 ∷ []) [] 1 (at 0 1) 0) 13 (entity_is 12 used 3 ∷ entity_is 7 kind 0 ∷ [])
    -- 14: eight places are used
    ∷ noted (asking 1 1 (19 ∷ []) [] 1 0 0) 14 (entity_is 19 used 8 ∷ entity_is 7 kind 0 ∷ [])
    -- 13 before 14: a higher rank than the full container's
    ∷ noted (asking 1 1 (19 ∷ []) [] 1 (at 3 0) 0) 13 []
    ∷ []

unfoldable pub delete_cases : List Case
delete_cases =
    -- the first of three, by way of its container: its record is all zero, and the later ones move up
    expect [] (asking 1 2 (12 ∷ 1 ∷ []) [] 0 0 0) 0 (entity_is 13 kind 0 ∷ entity_is 13 level 0 ∷ entity_is 13 value 0 ∷ entity_is 13 (triple 0) 0 ∷
    entity_is 13 (triple 1) 0 ∷ entity_is 13 (triple 2) 0 ∷ entity_is 13 (triple 3) 0 ∷ entity_is 13 (triple 4) 0 ∷ entity_is 13 (triple 5) 0 ∷
    entity_is 13 (triple 6) 0 ∷ entity_is 13 (triple 7) 0 ∷ entity_is 12 used 2 ∷ entity_is 12 (place 0) 14 ∷ entity_is 12 (place 1) 15 ∷ entity_is 12
    (place 2) 0 ∷
    entity_is 14 kind container_kind ∷ [])
    -- an empty draft that is in no container
    ∷ expect [] (asking 1 2 (29 ∷ []) [] 0 0 0) 0 (entity_is 29 kind 0 ∷ entity_is 29 type 0 ∷ entity_is 29 level 0 ∷ entity_is 29 value 0 ∷
    entity_is 29 (triple 0) 0 ∷ entity_is 29 (triple 1) 0 ∷ entity_is 29 (triple 2) 0 ∷ entity_is 29 (triple 3) 0 ∷ entity_is 29 (triple 4) 0 ∷
    entity_is 29 (triple 5) 0 ∷ entity_is 28 kind object_kind ∷ entity_is 30 kind container_kind ∷ [])
    -- the last of three, by the highest house role, which the requester now has
    ∷ expect [] (asking 2 2 (12 ∷ 3 ∷ []) [] 0 0 0) 0 (entity_is 15 kind 0 ∷ entity_is 15 level 0 ∷ entity_is 15 value 0 ∷ entity_is 15 (triple 0) 0 ∷
    entity_is 15 (triple 1) 0 ∷ entity_is 15 (triple 2) 0 ∷ entity_is 15 (triple 3) 0 ∷ entity_is 12 used 2 ∷ entity_is 12 (place 0) 13 ∷
    entity_is 12 (place 1) 14 ∷ entity_is 12 (place 2) 0 ∷ [])
    -- 5: a is not used
    ∷ noted (asking 1 2 (29 ∷ []) [] 1 0 0) 5 []
    -- 5: five names
    ∷ noted (asking 1 2 (16 ∷ 1 ∷ 1 ∷ 1 ∷ 1 ∷ []) [] 0 0 0) 5 []
    -- 5: a second reference
    ∷ noted (asking 1 2 (29 ∷ []) (29 ∷ []) 0 0 0) 5 []
    -- 6: the requester is off
    ∷ noted (asking 3 2 (29 ∷ []) [] 0 0 0) 6 (entity_is 29 kind container_kind ∷ [])
    -- 7: a number over the highest
    ∷ noted (asking 1 2 (suc entity_count ∷ []) [] 0 0 0) 7 []
    -- 8: the requester's triple is for the second position
    ∷ noted (asking 1 2 (15 ∷ []) [] 0 0 0) 8 (entity_is 15 kind object_kind ∷ [])
    -- 9: through the marked container
    ∷ noted (asking 6 2 (8 ∷ 1 ∷ []) [] 0 0 0) 9 (entity_is 9 kind object_kind ∷ entity_is 8 used 3 ∷ [])
    -- 10: a device
    ∷ noted (asking 1 2 (1 ∷ []) [] 0 0 0) 10 (entity_is 1 kind device_kind ∷ [])
    -- 15: it has contents
    ∷ noted (asking 1 2 (16 ∷ []) [] 0 0 0) 15 (entity_is 16 kind container_kind ∷ entity_is 16 used 1 ∷ [])
    -- 15: it stands on a screen, and not the requester's
    ∷ noted (asking 1 2 (32 ∷ []) [] 0 0 0) 15 (entity_is 32 kind object_kind ∷ entity_is 2 (place 0) 32 ∷ [])
    -- 15: it is released
    ∷ noted (asking 1 2 (34 ∷ []) [] 0 0 0) 15 (entity_is 34 kind container_kind ∷ entity_is 34 type released_type ∷ [])
    ∷ []

unfoldable pub move_cases : List Case
move_cases =
    -- from one container into the next: both references are read before anything leaves
    expect [] (asking 1 3 (12 ∷ 1 ∷ []) (12 ∷ 2 ∷ []) 0 0 0) 0 (entity_is 12 used 2 ∷ entity_is 12 (place 0) 14 ∷ entity_is 12 (place 1) 15 ∷
    entity_is 12 (place 2) 0 ∷ entity_is 14 used 1 ∷ entity_is 14 (place 0) 13 ∷ entity_is 13 kind object_kind ∷ entity_is 13 level (at 1 0) ∷
    entity_is 13 value 40 ∷ [])
    -- within one container: it becomes the last
    ∷ expect [] (asking 1 3 (13 ∷ []) (12 ∷ []) 0 0 0) 0 (entity_is 12 used 3 ∷ entity_is 12 (place 0) 14 ∷ entity_is 12 (place 1) 15 ∷
    entity_is 12 (place 2) 13 ∷ [])
    -- an entity in no container leaves nothing, and what it holds goes with it; a draft is a container too
    ∷ expect [] (asking 1 3 (16 ∷ []) (29 ∷ []) 0 0 0) 0 (entity_is 29 used 1 ∷ entity_is 29 (place 0) 16 ∷ entity_is 29 type draft_type ∷ entity_is 16 used 1 ∷
    entity_is 16 (place 0) 17 ∷ [])
    -- within one full container: there is room, because it leaves first; it stays on the screens
    ∷ expect [] (asking 1 3 (20 ∷ []) (19 ∷ []) 0 0 0) 0 (entity_is 19 used 8 ∷ entity_is 19 (place 0) 21 ∷ entity_is 19 (place 1) 22 ∷ entity_is 19 (place 2)
    23 ∷
    entity_is 19 (place 3) 24 ∷ entity_is 19 (place 4) 25 ∷ entity_is 19 (place 5) 26 ∷ entity_is 19 (place 6) 27 ∷ entity_is 19 (place 7) 20 ∷
    entity_is 5 (place 0) 20 ∷ entity_is 4 (place 1) 20 ∷ [])
    -- 5: a is not used
    ∷ noted (asking 1 3 (13 ∷ []) (14 ∷ []) 1 0 0) 5 []
    -- 5: no second reference
    ∷ noted (asking 1 3 (13 ∷ []) [] 0 0 0) 5 []
    -- 5: a second reference of five names
    ∷ noted (asking 1 3 (13 ∷ []) (16 ∷ 1 ∷ 1 ∷ 1 ∷ 1 ∷ []) 0 0 0) 5 []
    -- 6: the requester is off
    ∷ noted (asking 3 3 (13 ∷ []) (14 ∷ []) 0 0 0) 6 (entity_is 12 (place 0) 13 ∷ [])
    -- 7: the second reference has place 0
    ∷ noted (asking 1 3 (13 ∷ []) (12 ∷ 0 ∷ []) 0 0 0) 7 (entity_is 12 (place 0) 13 ∷ [])
    -- the second operand's 7 before the first one's 8
    ∷ noted (asking 6 3 (12 ∷ []) (suc entity_count ∷ []) 0 0 0) 7 []
    -- 8: the first operand has the triple of the second position only
    ∷ noted (asking 1 3 (18 ∷ []) (12 ∷ []) 0 0 0) 8 (entity_is 17 used 1 ∷ [])
    -- 8: the second operand has the triple of the first position only
    ∷ noted (asking 1 3 (13 ∷ []) (30 ∷ []) 0 0 0) 8 (entity_is 30 used 0 ∷ [])
    -- 9: the first reference goes through the marked container
    ∷ noted (asking 6 3 (8 ∷ 1 ∷ []) (10 ∷ []) 0 0 0) 9 (entity_is 10 used 1 ∷ [])
    -- 9: the second reference does
    ∷ noted (asking 6 3 (9 ∷ []) (8 ∷ 2 ∷ []) 0 0 0) 9 (entity_is 10 used 1 ∷ [])
    -- the second operand's 8 before the first one's 9
    ∷ noted (asking 6 3 (8 ∷ 1 ∷ []) (12 ∷ []) 0 0 0) 8 []
    -- 10: a device is moved
    ∷ noted (asking 1 3 (1 ∷ []) (12 ∷ []) 0 0 0) 10 (entity_is 12 used 3 ∷ [])
    -- 10: into an object
    ∷ noted (asking 1 3 (16 ∷ []) (13 ∷ []) 0 0 0) 10 (entity_is 13 used 0 ∷ [])
    -- 10: into a device
    ∷ noted (asking 1 3 (16 ∷ []) (1 ∷ []) 0 0 0) 10 (entity_is 1 used 2 ∷ [])
    -- 13: at 0 1 is a smaller number than at 2 0, and not at most it
    ∷ noted (asking 1 3 (31 ∷ []) (12 ∷ []) 0 0 0) 13 (entity_is 12 used 3 ∷ entity_is 8 used 3 ∷ [])
    -- 14: into another container that is full
    ∷ noted (asking 1 3 (13 ∷ []) (19 ∷ []) 0 0 0) 14 (entity_is 19 used 8 ∷ entity_is 12 used 3 ∷ [])
    -- 15: into itself
    ∷ noted (asking 1 3 (16 ∷ []) (16 ∷ []) 0 0 0) 15 (entity_is 16 (place 0) 17 ∷ [])
    -- 15: into what stands two deep inside it
    ∷ noted (asking 1 3 (16 ∷ []) (16 ∷ 1 ∷ 1 ∷ []) 0 0 0) 15 (entity_is 18 used 1 ∷ entity_is 16 used 1 ∷ [])
    -- 13 before 14: not at most the level of a full container
    ∷ noted (asking 1 3 (31 ∷ []) (19 ∷ []) 0 0 0) 13 []
    -- 13 before 15: into something lower that it holds
    ∷ noted (asking 1 3 (12 ∷ []) (14 ∷ []) 0 0 0) 13 []
    -- 14 before 15: a full container into itself
    ∷ noted (asking 1 3 (19 ∷ []) (19 ∷ []) 0 0 0) 14 []
    ∷ []

unfoldable pub edit_cases : List Case
edit_cases =
    -- any word is a value; the level stays
    expect [] (asking 1 4 (13 ∷ []) [] most 0 0) 0 (entity_is 13 value most ∷ entity_is 13 level (at 1 0) ∷ entity_is 13 kind object_kind ∷ [])
    -- a released container may be edited; its type and releaser stay
    ∷ expect [] (asking 1 4 (34 ∷ []) [] 0 0 0) 0 (entity_is 34 value 0 ∷ entity_is 34 type released_type ∷ entity_is 34 releaser 9 ∷ [])
    -- a reference of four names
    ∷ expect [] (asking 1 4 (16 ∷ 1 ∷ 1 ∷ 1 ∷ []) [] 77 0 0) 0 (entity_is 33 value 77 ∷ entity_is 18 value 0 ∷ [])
    -- an object in the marked container, named directly: its container is on no path
    ∷ expect [] (asking 6 4 (9 ∷ []) [] 77 0 0) 0 (entity_is 9 value 77 ∷ user_is 6 held 0 ∷ [])
    -- the marked container itself, named directly
    ∷ expect [] (asking 6 4 (8 ∷ []) [] 77 0 0) 0 (entity_is 8 value 77 ∷ entity_is 8 mark 1 ∷ [])
    -- the marked container as the last of a path
    ∷ expect [] (asking 6 4 (11 ∷ 1 ∷ []) [] 77 0 0) 0 (entity_is 8 value 77 ∷ entity_is 11 value 0 ∷ [])
    -- 5: b is not used
    ∷ noted (asking 1 4 (13 ∷ []) [] 77 1 0) 5 []
    -- 5: a second reference
    ∷ noted (asking 1 4 (13 ∷ []) (13 ∷ []) 77 0 0) 5 (entity_is 13 value 40 ∷ [])
    -- 6: the requester is off
    ∷ noted (asking 3 4 (13 ∷ []) [] 77 0 0) 6 (entity_is 13 value 40 ∷ [])
    -- 7: an object has no places
    ∷ noted (asking 1 4 (13 ∷ 1 ∷ []) [] 77 0 0) 7 (entity_is 13 value 40 ∷ [])
    -- 8: the role in the triple is authorised, and not current
    ∷ noted (asking 2 4 (15 ∷ []) [] 77 0 0) 8 (entity_is 15 value 42 ∷ [])
    -- 9: the same object as above, through the marked container
    ∷ noted (asking 6 4 (8 ∷ 1 ∷ []) [] 77 0 0) 9 (entity_is 9 value 60 ∷ [])
    -- 9: the marked container in the middle of a path
    ∷ noted (asking 6 4 (11 ∷ 1 ∷ 2 ∷ 1 ∷ []) [] 77 0 0) 9 (entity_is 34 value 47 ∷ [])
    -- 10: a device
    ∷ noted (asking 1 4 (1 ∷ []) [] 77 0 0) 10 (entity_is 1 value 0 ∷ [])
    ∷ []

unfoldable pub copy_cases : List Case
copy_cases =
    -- an object's value into a released container of a higher level; the level stays
    expect [] (asking 1 5 (13 ∷ []) (34 ∷ []) 0 0 0) 0 (entity_is 34 value 40 ∷ entity_is 13 value 40 ∷ entity_is 34 level (at 2 0) ∷
    entity_is 34 type released_type ∷ [])
    -- onto itself: nothing changes
    ∷ expect [] (asking 1 5 (14 ∷ []) (14 ∷ []) 0 0 0) 0 (entity_is 14 value 50 ∷ user_is 1 held 0 ∷ [])
    -- 5: a is not used
    ∷ noted (asking 1 5 (13 ∷ []) (14 ∷ []) 1 0 0) 5 (entity_is 14 value 50 ∷ [])
    -- 5: no first name
    ∷ noted (asking 1 5 [] (14 ∷ []) 0 0 0) 5 []
    -- 6: the requester is off
    ∷ noted (asking 3 5 (13 ∷ []) (14 ∷ []) 0 0 0) 6 (entity_is 14 value 50 ∷ [])
    -- 7: the second entity is absent
    ∷ noted (asking 1 5 (13 ∷ []) (7 ∷ []) 0 0 0) 7 (entity_is 7 kind 0 ∷ [])
    -- 8: the first operand has the triple of the second position only
    ∷ noted (asking 1 5 (32 ∷ []) (14 ∷ []) 0 0 0) 8 (entity_is 14 value 50 ∷ [])
    -- 8: the second operand has the triple of the first position only
    ∷ noted (asking 1 5 (13 ∷ []) (31 ∷ []) 0 0 0) 8 (entity_is 31 value 44 ∷ [])
    -- 9: the first reference goes through the marked container
    ∷ noted (asking 6 5 (8 ∷ 1 ∷ []) (10 ∷ []) 0 0 0) 9 (entity_is 10 value 61 ∷ [])
    -- 9: the second reference does
    ∷ noted (asking 6 5 (9 ∷ []) (8 ∷ 2 ∷ []) 0 0 0) 9 (entity_is 10 value 61 ∷ [])
    -- 10: from a device
    ∷ noted (asking 1 5 (1 ∷ []) (14 ∷ []) 0 0 0) 10 (entity_is 14 value 50 ∷ [])
    -- 10: into a device
    ∷ noted (asking 1 5 (13 ∷ []) (1 ∷ []) 0 0 0) 10 (entity_is 1 value 0 ∷ [])
    -- 13: at 0 1 is a smaller number than at 1 0, and not at most it
    ∷ noted (asking 1 5 (31 ∷ []) (14 ∷ []) 0 0 0) 13 (entity_is 14 value 50 ∷ [])
    -- 13: from a higher rank
    ∷ noted (asking 1 5 (13 ∷ []) (32 ∷ []) 0 0 0) 13 (entity_is 32 value 45 ∷ [])
    ∷ []
