-- Document 01, "Case state S1"; document 02, M-101; rule 13: the state, and its step cases as two tables. Its levels 256, 257, 512, 513 and 1,023 are at
-- 1 0, at 1 1, at 2 0, at 2 1 and highest.
use Rattle.std.specs.Prelude.{List, [], ◌∷◌}
use Rattle.cases.specs.Case.Cases.{Case, ◌gets◌, asking, at, entity_is, expect, highest, item, noted, user_is}
use Rattle.model.specs.Tables.Sheet.{Sheet, sheet_tables}
use Rattle.model.specs.Tables.Words.{Tables, absent_kind, container_kind, device, device_kind, draft_type, held, held_op, kind, level, missed}
use Rattle.model.specs.Tables.Words.{object_kind, place, plain_type, released_type, releaser, shown, triple_of, type, used, value}

-- present, clearance, authorised, current, device
unfoldable pub s1_sheet : Sheet
s1_sheet = record {
  users =
      (1 ∷ highest ∷ 7 ∷ 1 ∷ 1 ∷ [])
      ∷ (1 ∷ at 1 0 ∷ 0 ∷ 0 ∷ 2 ∷ [])
      ∷ (1 ∷ at 2 1 ∷ 6 ∷ 0 ∷ 0 ∷ [])
      ∷ [];
  entities =
      -- 1 to 3: devices
      item device_kind plain_type highest 0 0 0 highest [] [] []
      ∷ item device_kind plain_type (at 2 0) 0 0 0 (at 2 0) [] [] []
      ∷ item device_kind plain_type 0 0 0 0 highest [] [] (triple_of 3 12 1 ∷ [])
      -- 4: a marked container
      ∷ item container_kind plain_type (at 2 1) 1 0 0 0 (5 ∷ 6 ∷ []) [] []
      -- 5: an object
      ∷ item object_kind plain_type (at 1 0) 0 40 0 0 [] [] (triple_of 2 10 1 ∷ triple_of 2 5 1 ∷ [])
      -- 6: a draft
      ∷ item container_kind draft_type (at 2 1) 0 41 0 0 [] [] (triple_of 1 19 1 ∷ [])
      -- 7: a container
      ∷ item container_kind plain_type (at 1 0) 0 0 0 0 [] [] (triple_of 2 5 2 ∷ triple_of 2 1 1 ∷ triple_of 1 6 1 ∷ [])
      ∷ [];
}

unfoldable pub s1 : Tables
s1 = sheet_tables s1_sheet

-- the starred cases
unfoldable pub starred : List Case
starred =
    -- user 2 shows 5; by the marked container; the value without its label; a place of an object
    expect [] (asking 2 10 (5 ∷ []) [] 3 0 0) 0 (entity_is 2 used 1 ∷ entity_is 2 (place 0) 5 ∷ entity_is 2 (shown 0) 3 ∷ [])
    ∷ noted (asking 2 10 (4 ∷ 1 ∷ []) [] 3 0 0) 9 (entity_is 2 used 0 ∷ [])
    ∷ noted (asking 2 10 (5 ∷ []) [] 1 0 0) 15 (entity_is 2 used 0 ∷ [])
    ∷ noted (asking 2 10 (5 ∷ 1 ∷ []) [] 3 0 0) 7 (entity_is 2 used 0 ∷ [])
    -- user 2 copies 5 to 7; creates in 7 with a compartment that it lacks, and at the lowest level
    ∷ expect [] (asking 2 5 (5 ∷ []) (7 ∷ []) 0 0 0) 0 (entity_is 7 value 40 ∷ [])
    ∷ noted (asking 2 1 (7 ∷ []) [] 1 (at 1 1) 0) 13 (entity_is 8 kind absent_kind ∷ entity_is 7 used 0 ∷ [])
    ∷ expect [] (asking 2 1 (7 ∷ []) [] 1 0 0) 0 (entity_is 8 kind object_kind ∷ entity_is 7 used 1 ∷ entity_is 7 (place 0) 8 ∷ [])
    -- user 1 releases 6; with current roles 5
    ∷ noted (asking 1 19 (6 ∷ []) [] 0 0 0) 12 (entity_is 6 type draft_type ∷ [])
    ∷ expect (asking 1 14 [] [] 1 5 0 gets 0 ∷ []) (asking 1 19 (6 ∷ []) [] 0 0 0) 0 (entity_is 6 type released_type ∷ entity_is 6 releaser 1 ∷ [])
    -- user 1 sets the level of 7 to the lowest, and to a compartment without a rank
    ∷ noted (asking 1 6 (7 ∷ []) [] 0 0 0) 12 (entity_is 7 level (at 1 0) ∷ [])
    ∷ noted (asking 1 6 (7 ∷ []) [] (at 0 1) 0 0) 12 (entity_is 7 level (at 1 0) ∷ [])
    -- user 3, who is off, shows 5; logs on to 3
    ∷ noted (asking 3 10 (5 ∷ []) [] 3 0 0) 6 []
    ∷ expect [] (asking 3 12 (3 ∷ []) [] 0 0 0) 0 (user_is 3 device 3 ∷ [])
    ∷ []

-- the other cases of a step
unfoldable pub unstarred : List Case
unstarred =
    -- a reference of five names; a user who is not there
    noted (asking 2 10 (5 ∷ 1 ∷ 1 ∷ 1 ∷ 1 ∷ []) [] 3 0 0) 5 (entity_is 2 used 0 ∷ [])
    ∷ expect [] (asking 9 10 (5 ∷ []) [] 3 0 0) 4 []
    -- user 2 is refused 9, then 15; acknowledges 9 and 1, then 9 and 3
    ∷ expect (asking 2 10 (4 ∷ 1 ∷ []) [] 3 0 0 gets 9 ∷ []) (asking 2 10 (5 ∷ []) [] 1 0 0) 15
    (user_is 2 held 9 ∷ user_is 2 held_op 10 ∷ user_is 2 missed 2 ∷ [])
    ∷ expect (asking 2 10 (4 ∷ 1 ∷ []) [] 3 0 0 gets 9 ∷ asking 2 10 (5 ∷ []) [] 1 0 0 gets 15 ∷ []) (asking 2 20 [] [] 9 1 0) 16
    (user_is 2 held 9 ∷ user_is 2 held_op 10 ∷ user_is 2 missed 3 ∷ [])
    ∷ expect (asking 2 10 (4 ∷ 1 ∷ []) [] 3 0 0 gets 9 ∷ asking 2 10 (5 ∷ []) [] 1 0 0 gets 15 ∷ asking 2 20 [] [] 9 1 0 gets 16 ∷ [])
    (asking 2 20 [] [] 9 3 0) 0 (user_is 2 held 0 ∷ user_is 2 held_op 0 ∷ user_is 2 missed 0 ∷ [])
    ∷ []
