-- Case state S2: every operation accepted once, and refused in every way that its row and the ladder allow.
use Rattle.std.specs.Prelude.{[], ◌∷◌}
use Rattle.cases.specs.Case.Cases.{at, gone, highest, item}
use Rattle.model.specs.Tables.Sheet.{Sheet, sheet_tables}
use Rattle.model.specs.Tables.Words.{Tables, container_kind, device_kind, draft_type, missed_most, object_kind, operation_count, plain_type}
use Rattle.model.specs.Tables.Words.{released_type, triple_of, user_count, who_role}

-- Seven users and thirty-three entities. Entity 7 is absent, so it is the lowest free number; 35 to 64 are absent too. Entity 8 is
-- the marked one. User 1 has all three named roles; 2 is a downgrader and a releaser who now has only two house roles (8 and 128);
-- 3 is off; 4 has missed as many refusals as can be counted; 5 is off with a notice; 6 is cleared to a higher rank than entity 8
-- has, without its compartment; 7 is a security officer who has not taken up the role.
-- present, clearance, authorised, current, device, held, its operation, missed
unfoldable pub s2_sheet : Sheet
s2_sheet = record {
  users =
      (1 ∷ highest ∷ 7 ∷ 7 ∷ 1 ∷ [])
      ∷ (1 ∷ at 2 1 ∷ 142 ∷ 136 ∷ 2 ∷ [])
      ∷ (1 ∷ at 2 1 ∷ 6 ∷ 0 ∷ 0 ∷ [])
      ∷ (1 ∷ at 1 1 ∷ 0 ∷ 0 ∷ 3 ∷ 9 ∷ 10 ∷ missed_most ∷ [])
      ∷ (1 ∷ 0 ∷ 0 ∷ 0 ∷ 0 ∷ 7 ∷ 4 ∷ 2 ∷ [])
      ∷ (1 ∷ at 3 2 ∷ 0 ∷ 0 ∷ 4 ∷ [])
      ∷ (1 ∷ at 2 0 ∷ 1 ∷ 0 ∷ 5 ∷ [])
      ∷ [];
  entities =
      -- 1: user 1's device, which shows two; eight triples, most of them for operations that a device can't be used for
      item device_kind plain_type highest 0 0 0 highest (31 ∷ 28 ∷ []) (3 ∷ 6 ∷ []) (triple_of 1 1 1 ∷ triple_of 1 2 1 ∷ triple_of 1 3 1 ∷ triple_of 1 3 2 ∷
      triple_of 1 4 1 ∷ triple_of 1 5 1 ∷ triple_of 1 5 2 ∷ triple_of 1 18 1 ∷ [])
      -- 2: user 2's device, its level under its user's clearance
      ∷ item device_kind plain_type (at 1 1) 0 0 0 (at 3 1) (32 ∷ []) (3 ∷ []) (triple_of 2 18 1 ∷ triple_of 1 18 1 ∷ triple_of 1 17 1 ∷ triple_of 2 17 1 ∷
      triple_of 3 12 1 ∷ [])
      -- 3: user 4's device, with an empty screen
      ∷ item device_kind plain_type (at 1 0) 0 0 0 (at 1 0) [] [] (triple_of 1 6 1 ∷ triple_of 1 7 1 ∷ triple_of 1 10 1 ∷ triple_of 1 19 1 ∷ triple_of 2 18 1
      ∷ [])
      -- 4: user 6's device, its level over its user's clearance; seven on its screen
      ∷ item device_kind plain_type highest 0 0 0 highest (28 ∷ 20 ∷ 21 ∷ 23 ∷ 24 ∷ 25 ∷ 26 ∷ []) (2 ∷ 3 ∷ 6 ∷ 7 ∷ 4 ∷ 3 ∷ 2 ∷ []) (triple_of 1 8 1 ∷
      triple_of 1 9 1 ∷ triple_of (who_role 1) 12 1 ∷ [])
      -- 5: user 7's device, with eight on its screen
      ∷ item device_kind plain_type (at 2 0) 0 0 0 (at 2 0) (20 ∷ 21 ∷ 22 ∷ 23 ∷ 24 ∷ 25 ∷ 26 ∷ 27 ∷ []) (3 ∷ 2 ∷ 4 ∷ 6 ∷ 7 ∷ 3 ∷ 2 ∷ 3 ∷ [])
      (triple_of 2 18 1 ∷
      triple_of (who_role 0) 17 1 ∷ [])
      -- 6: a device that nobody is on
      ∷ item device_kind plain_type (at 2 1) 0 0 0 highest [] [] (triple_of 3 12 1 ∷ triple_of 1 12 1 ∷ triple_of 2 18 1 ∷ triple_of 1 17 1 ∷ triple_of 7 17 1 ∷
      triple_of 1 18 1 ∷ [])
      -- 7
      ∷ gone
      -- 8: the marked container
      ∷ item container_kind plain_type (at 2 1) 1 0 0 0 (9 ∷ 10 ∷ 31 ∷ []) [] (triple_of 6 4 1 ∷ triple_of 6 7 1 ∷ triple_of 1 7 1 ∷ triple_of 1 1 1 ∷ [])
      -- 9: an object under the mark
      ∷ item object_kind plain_type (at 1 0) 0 60 0 0 [] [] (triple_of 6 2 1 ∷ triple_of 6 3 1 ∷ triple_of 6 4 1 ∷ triple_of 6 5 1 ∷ triple_of 6 6 1 ∷
      triple_of 6 10 1 ∷ triple_of 6 12 1 ∷ triple_of 6 17 1 ∷ [])
      -- 10: a draft under the mark, with one in it
      ∷ item container_kind draft_type (at 2 0) 0 61 0 0 (34 ∷ []) [] (triple_of 6 1 1 ∷ triple_of 6 3 2 ∷ triple_of 6 5 2 ∷ triple_of 6 7 1 ∷ triple_of 6 8 1 ∷
      triple_of 6 9 1 ∷ triple_of 6 18 1 ∷ triple_of 6 19 1 ∷ [])
      -- 11: an unmarked container around the marked one
      ∷ item container_kind plain_type (at 3 3) 0 0 0 0 (8 ∷ []) [] []
      -- 12: a container of three
      ∷ item container_kind plain_type (at 2 0) 0 70 0 0 (13 ∷ 14 ∷ 15 ∷ []) []
      (triple_of 1 1 1 ∷ triple_of (who_role 3) 1 1 ∷ triple_of 1 3 2 ∷ triple_of 1 3 1 ∷
      triple_of 1 2 1 ∷ triple_of 1 6 1 ∷ [])
      -- 13: an object with eight triples
      ∷ item object_kind plain_type (at 1 0) 0 40 0 0 [] [] (triple_of 1 1 1 ∷ triple_of 1 2 1 ∷ triple_of 1 3 1 ∷ triple_of 1 3 2 ∷ triple_of 1 4 1 ∷
      triple_of 1 5 1 ∷ triple_of 1 6 1 ∷ triple_of 1 7 1 ∷ [])
      -- 14: an empty container with eight triples
      ∷ item container_kind plain_type (at 1 0) 0 50 0 0 [] [] (triple_of 1 3 2 ∷ triple_of 1 5 1 ∷ triple_of 1 5 2 ∷ triple_of 1 7 1 ∷ triple_of 7 10 1 ∷
      triple_of 1 8 1 ∷ triple_of 1 9 1 ∷ triple_of 1 19 1 ∷ [])
      -- 15: an object with triples for roles
      ∷ item object_kind plain_type (at 2 0) 0 42 0 0 [] [] (triple_of 1 2 2 ∷ triple_of (who_role 7) 2 1 ∷ triple_of (who_role 2) 4 1 ∷ triple_of 1 19 1 ∷ [])
      -- 16: a container around 17, which is around 18
      ∷ item container_kind plain_type (at 1 0) 0 0 0 0 (17 ∷ []) [] (triple_of 1 3 1 ∷ triple_of 1 3 2 ∷ triple_of 2 6 1 ∷ triple_of 1 2 1 ∷ [])
      -- 17
      ∷ item container_kind plain_type (at 1 0) 0 0 0 0 (18 ∷ []) [] (triple_of 1 3 2 ∷ [])
      -- 18
      ∷ item container_kind plain_type (at 1 0) 0 0 0 0 (33 ∷ []) [] (triple_of 1 3 2 ∷ [])
      -- 19: a full container
      ∷ item container_kind plain_type (at 2 0) 0 0 0 0 (20 ∷ 21 ∷ 22 ∷ 23 ∷ 24 ∷ 25 ∷ 26 ∷ 27 ∷ []) []
      (triple_of 1 1 1 ∷ triple_of 1 3 1 ∷ triple_of 1 3 2 ∷ [])
      -- 20: the first of the eight that fill it, and user 7's screen
      ∷ item object_kind plain_type 0 0 80 0 0 [] [] (triple_of 1 3 1 ∷ [])
      -- 21
      ∷ item object_kind plain_type (at 1 0) 0 81 0 0 [] [] []
      -- 22
      ∷ item object_kind plain_type (at 2 0) 0 82 0 0 [] [] (triple_of 7 10 1 ∷ [])
      -- 23
      ∷ item object_kind plain_type 0 0 83 0 0 [] [] []
      -- 24
      ∷ item object_kind plain_type 0 0 84 0 0 [] [] []
      -- 25
      ∷ item object_kind plain_type 0 0 85 0 0 [] [] []
      -- 26
      ∷ item object_kind plain_type 0 0 86 0 0 [] [] []
      -- 27
      ∷ item object_kind plain_type 0 0 87 0 0 [] [] []
      -- 28: an object on two screens, in no container
      ∷ item object_kind plain_type (at 1 0) 0 43 0 0 [] [] (triple_of 1 6 1 ∷ triple_of 1 10 1 ∷ [])
      -- 29: an empty draft in no container
      ∷ item container_kind draft_type (at 2 1) 0 41 0 0 [] [] (triple_of 1 2 1 ∷ triple_of 1 3 2 ∷ triple_of 1 19 1 ∷ triple_of 2 19 1 ∷ triple_of 2 10 1 ∷
      triple_of 7 10 1 ∷ [])
      -- 30: an empty container in no container
      ∷ item container_kind plain_type (at 1 2) 0 0 0 0 [] [] (triple_of 1 3 1 ∷ triple_of 2 6 1 ∷ triple_of 3 12 1 ∷ triple_of 1 17 1 ∷ [])
      -- 31: an object under the mark, on user 1's screen; its level has one compartment and no rank
      ∷ item object_kind plain_type (at 0 1) 0 44 0 0 [] [] (triple_of 2 10 1 ∷ triple_of 4 10 1 ∷ triple_of 6 10 1 ∷ triple_of 1 3 1 ∷ triple_of 1 5 1 ∷ [])
      -- 32: an object of the same level on user 2's screen
      ∷ item object_kind plain_type (at 0 1) 0 45 0 0 [] [] (triple_of 1 2 1 ∷ triple_of 1 5 2 ∷ triple_of 1 6 1 ∷ [])
      -- 33: the object at the end of a reference of four names, with seven triples
      ∷ item object_kind plain_type 0 0 46 0 0 [] [] (triple_of 1 4 1 ∷ triple_of 1 8 1 ∷ triple_of 1 18 1 ∷ triple_of user_count operation_count 1 ∷
      triple_of (who_role 4) 1 1 ∷ triple_of (who_role 5) 2 1 ∷ triple_of (who_role 6) 3 2 ∷ [])
      -- 34: a released container, empty and on no screen; its releaser is not a present user
      ∷ item container_kind released_type (at 2 0) 0 47 9 0 [] [] (triple_of 1 2 1 ∷ triple_of 1 4 1 ∷ triple_of 6 4 1 ∷ triple_of 1 5 2 ∷ triple_of 1 19 1 ∷
      [])
      ∷ [];
}

unfoldable pub s2 : Tables
s2 = sheet_tables s2_sheet
