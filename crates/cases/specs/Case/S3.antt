-- Case state S3: all sixty-four numbers are present, so that a create finds none free.
use Rattle.std.specs.Prelude.{List, [], ◌++◌, ◌∷◌, ◌-◌, ℕ, replicate}
use Rattle.cases.specs.Case.Cases.{Case, ◌gets◌, asking, at, entity_is, expect, highest, item, noted}
use Rattle.model.specs.Tables.Sheet.{Sheet, sheet_tables}
use Rattle.model.specs.Tables.Words.{Tables, container_kind, device_kind, draft_type, entity_count, kind, object_kind, place, plain_type, triple}
use Rattle.model.specs.Tables.Words.{triple_of, type, used, value}

-- an object with nothing in it
abbrev bare : List ℕ
bare = item object_kind plain_type 0 0 0 0 0 [] [] []

-- present, clearance, authorised, current, device
unfoldable pub s3_sheet : Sheet
s3_sheet = record {
  users =
      (1 ∷ highest ∷ 7 ∷ 7 ∷ 1 ∷ [])
      ∷ [];
  entities =
      -- 1: user 1's device
      item device_kind plain_type highest 0 0 0 highest [] [] []
      -- 2: an empty container
      ∷ item container_kind plain_type 0 0 0 0 0 [] [] (triple_of 1 1 1 ∷ [])
      -- 3 to 39 and all from 41 on: objects; 40: one that user 1 may delete
      ∷ (replicate 37 bare ++ (item object_kind plain_type 0 0 9 0 0 [] [] (triple_of 1 2 1 ∷ []) ∷ replicate (entity_count - 40) bare));
}

unfoldable pub s3 : Tables
s3 = sheet_tables s3_sheet

-- every case: what was asked before and what it got (from S3 on), what is asked, the answer, and words that stand afterwards
unfoldable pub full_cases : List Case
full_cases =
    -- 14: the container has room, and no number is free
    noted (asking 1 1 (2 ∷ []) [] 1 0 0) 14 (entity_is 2 used 0 ∷ [])
    -- 13 before 14
    ∷ noted (asking 1 1 (2 ∷ []) [] 1 (at 0 1) 0) 13 []
    -- the number of one that was deleted is free again, and nothing of the old record is left in it
    ∷ expect (asking 1 2 (40 ∷ []) [] 0 0 0 gets 0 ∷ []) (asking 1 1 (2 ∷ []) [] 3 0 0) 0 (entity_is 40 kind container_kind ∷ entity_is 40 type draft_type ∷
    entity_is 40 value 0 ∷ entity_is 40 (triple 0) (triple_of 1 1 1) ∷ entity_is 40 (triple 1) 0 ∷ entity_is 2 used 1 ∷ entity_is 2 (place 0) 40 ∷
    entity_is entity_count kind object_kind ∷ [])
    ∷ []
