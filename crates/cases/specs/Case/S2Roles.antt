-- Rules 1.3 and 5.6: state S2 with one role at a time for user 1, and what each of the three opens.
use Rattle.std.specs.Prelude.{true, List, [], ◌∷◌, ◌≡◌, refl, ℕ}
use Rattle.cases.specs.Case.Cases.{Case, all_pass, asking, at, entity_is, expect, highest, user_is}
use Rattle.cases.specs.Case.Opened.{opened}
use Rattle.cases.specs.Case.S2.{s2, s2_sheet}
use Rattle.model.specs.Tables.Edits.{on_user, user_word}
use Rattle.model.specs.Tables.Words.{Tables, authorised, clearance, current, draft_type, level, maximum, released_type, releaser, type}

-- user 1 has these current roles
unfoldable pub s2_with : ℕ → Tables
s2_with r = on_user 1 (user_word current r) s2

-- Each role is tried on the same seven operations: 14 to 17, which ask for the security officer; 6 and 18, for the downgrader; 19, for the releaser.

-- role 1, the security officer: another's current roles, clearance, authorised roles, maximum; and nothing else
unfoldable pub officer_cases : List Case
officer_cases =
    expect [] (asking 1 14 [] [] 2 8 0) 0 (user_is 2 current 8 ∷ [])
    ∷ expect [] (asking 1 15 [] [] 3 0 0) 0 (user_is 3 clearance 0 ∷ [])
    ∷ expect [] (asking 1 16 [] [] 3 0 0) 0 (user_is 3 authorised 0 ∷ [])
    ∷ expect [] (asking 1 17 (6 ∷ []) [] (at 2 1) 0 0) 0 (entity_is 6 maximum (at 2 1) ∷ [])
    ∷ expect [] (asking 1 6 (13 ∷ []) [] 0 0 0) 12 (entity_is 13 level (at 1 0) ∷ [])
    ∷ expect [] (asking 1 18 (6 ∷ []) [] (at 0 1) 0 0) 12 (entity_is 6 level (at 2 1) ∷ [])
    ∷ expect [] (asking 1 19 (29 ∷ []) [] 0 0 0) 12 (entity_is 29 type draft_type ∷ [])
    ∷ []

-- role 2, the downgrader: a level that drops, also of a device that is not one's own
unfoldable pub downgrader_cases : List Case
downgrader_cases =
    expect [] (asking 1 14 [] [] 2 8 0) 12 (user_is 2 current 136 ∷ [])
    ∷ expect [] (asking 1 15 [] [] 3 0 0) 12 (user_is 3 clearance (at 2 1) ∷ [])
    ∷ expect [] (asking 1 16 [] [] 3 0 0) 12 (user_is 3 authorised 6 ∷ [])
    ∷ expect [] (asking 1 17 (6 ∷ []) [] (at 2 1) 0 0) 12 (entity_is 6 maximum highest ∷ [])
    ∷ expect [] (asking 1 6 (13 ∷ []) [] 0 0 0) 0 (entity_is 13 level 0 ∷ [])
    ∷ expect [] (asking 1 18 (6 ∷ []) [] (at 0 1) 0 0) 0 (entity_is 6 level (at 0 1) ∷ [])
    ∷ expect [] (asking 1 19 (29 ∷ []) [] 0 0 0) 12 (entity_is 29 type draft_type ∷ [])
    ∷ []

-- role 4, the releaser: a release
unfoldable pub releaser_cases : List Case
releaser_cases =
    expect [] (asking 1 14 [] [] 2 8 0) 12 (user_is 2 current 136 ∷ [])
    ∷ expect [] (asking 1 15 [] [] 3 0 0) 12 (user_is 3 clearance (at 2 1) ∷ [])
    ∷ expect [] (asking 1 16 [] [] 3 0 0) 12 (user_is 3 authorised 6 ∷ [])
    ∷ expect [] (asking 1 17 (6 ∷ []) [] (at 2 1) 0 0) 12 (entity_is 6 maximum highest ∷ [])
    ∷ expect [] (asking 1 6 (13 ∷ []) [] 0 0 0) 12 (entity_is 13 level (at 1 0) ∷ [])
    ∷ expect [] (asking 1 18 (6 ∷ []) [] (at 0 1) 0 0) 12 (entity_is 6 level (at 2 1) ∷ [])
    ∷ expect [] (asking 1 19 (29 ∷ []) [] 0 0 0) 0 (entity_is 29 type released_type ∷ entity_is 29 releaser 1 ∷ [])
    ∷ []

pub officer_holds : all_pass (s2_with 1) officer_cases ≡ true
unfolding opened s2 s2_sheet s2_with officer_cases
officer_holds = refl

pub downgrader_holds : all_pass (s2_with 2) downgrader_cases ≡ true
unfolding opened s2 s2_sheet s2_with downgrader_cases
downgrader_holds = refl

pub releaser_holds : all_pass (s2_with 4) releaser_cases ≡ true
unfolding opened s2 s2_sheet s2_with releaser_cases
releaser_holds = refl
