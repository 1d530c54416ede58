-- Case state S4, for the disclosure list: a full screen, and five entities one in the other.
use Rattle.std.specs.Prelude.{List, [], ◌++◌, ◌∷◌, ℕ, replicate}
use Rattle.cases.specs.Case.Cases.{at, item}
use Rattle.model.specs.Tables.Sheet.{Sheet, sheet_tables}
use Rattle.model.specs.Tables.Words.{Tables, container_kind, device_kind, object_kind, plain_type, triple_of, who_role}

-- an object with nothing in it
abbrev bare : List ℕ
bare = item object_kind plain_type 0 0 0 0 0 [] [] []

-- User 1 has the role 8 now, and is cleared to a higher rank than the screen is.
-- present, clearance, authorised, current, device
unfoldable pub s4_sheet : Sheet
s4_sheet = record {
  users =
      (1 ∷ at 3 0 ∷ 8 ∷ 8 ∷ 1 ∷ [])
      ∷ [];
  entities =
      -- 1: user 1's device, with eight on its screen
      item device_kind plain_type (at 2 0) 0 0 0 (at 2 0) (6 ∷ 7 ∷ 8 ∷ 9 ∷ 10 ∷ 11 ∷ 12 ∷ 13 ∷ []) (3 ∷ 2 ∷ 2 ∷ 2 ∷ 2 ∷ 2 ∷ 2 ∷ 2 ∷ []) []
      -- 2: a container that user 1 may show and is cleared for, over the level of the screen; it is around 3
      ∷ item container_kind plain_type (at 3 0) 0 0 0 0 (3 ∷ []) [] (triple_of 1 10 1 ∷ [])
      -- 3: a marked container that user 1 may show and is cleared for; it is around 4
      ∷ item container_kind plain_type (at 2 0) 1 0 0 0 (4 ∷ []) [] (triple_of 1 10 1 ∷ [])
      -- 4: a container that nobody may show; it is around 5
      ∷ item container_kind plain_type (at 2 0) 0 0 0 0 (5 ∷ []) [] []
      -- 5: an object that the role 8 may show
      ∷ item object_kind plain_type (at 1 0) 0 60 0 0 [] [] (triple_of (who_role 3) 10 1 ∷ [])
      -- 6: an object on the screen that user 1 may show
      ∷ item object_kind plain_type 0 0 61 0 0 [] [] (triple_of 1 10 1 ∷ [])
      -- 7 to 13: the others on the screen; 14: a container around 2, so that five names would lead to 5
      ∷ (replicate 7 bare ++ (item container_kind plain_type (at 3 0) 0 0 0 0 (2 ∷ []) [] [] ∷ []));
}

unfoldable pub s4 : Tables
s4 = sheet_tables s4_sheet
