-- Document 02, M-101; rules 1.2, 6.6 and 6.18: every way for a level to change, on both operations, with the downgrader's role and without it, on one's own
-- device and on another's.
use Rattle.std.specs.Prelude.{true, List, [], ◌++◌, ◌∷◌, ◌≡◌, refl, ℕ}
use Rattle.cases.specs.Case.Cases.{Case, ◌gets◌, all_pass, asking, at, entity_is, expect, highest, noted}
use Rattle.cases.specs.Case.Opened.{opened}
use Rattle.cases.specs.Case.S1.{s1, s1_sheet}
use Rattle.model.specs.Tables.Edits.{◌and◌, on_entity, on_user, user_word, word}
use Rattle.model.specs.Tables.Words.{Tables, authorised, current, level, maximum, triple, triple_of}

-- State S1 with three entities of one level, at 1 1, each of which may have any other: container 7, device 3, which nobody is on, and device 2, which user 2
-- is on. User 1 is on device 1. Users 1 and 2 have the current roles r and s, and the triples for the two operations.
unfoldable pub level11 : ℕ → ℕ → Tables
level11 r s =
    on_user 1 (user_word current r) (on_user 2 (user_word authorised 10 and user_word current s)
    (on_entity 7 (word level (at 1 1) and word (triple 3) (triple_of 2 6 1))
    (on_entity 3 (word level (at 1 1) and word (triple 1) (triple_of 2 18 1))
    (on_entity 2 (word level (at 1 1) and (word maximum highest and (word (triple 0) (triple_of 2 18 1) and word (triple 1) (triple_of 1 18 1)))) s1))))

-- all three named roles; the officer's and the releaser's; a house role; the downgrader's
abbrev all_roles : ℕ
all_roles = 7

abbrev other_roles : ℕ
other_roles = 5

abbrev house_role : ℕ
house_role = 8

abbrev downgrader_role : ℕ
downgrader_role = 2

-- the levels that drop from at 1 1
unfoldable pub dropping : List ℕ
dropping =
    -- down in rank; in compartments; in both
    at 0 1 ∷ at 1 0 ∷ 0
    -- sideways in rank: it is lost, and a compartment is won
    ∷ at 0 3
    -- sideways in compartments: one for another, on the same rank
    ∷ at 1 2
    -- sideways in both: a lower rank and another compartment; a higher rank and another compartment; a higher rank and no compartment
    ∷ at 0 2 ∷ at 2 2 ∷ at 3 0
    ∷ []

-- and those that do not
unfoldable pub rising : List ℕ
rising =
    -- equal
    at 1 1
    -- up in rank; in compartments; in both
    ∷ at 2 1 ∷ at 1 3 ∷ highest
    ∷ []

-- user u asks, by operation o, for each of these levels of e, and is refused with 12
unfoldable pub each_refused : ℕ → ℕ → ℕ → List ℕ → List Case
each_refused u o e [] = []
each_refused u o e (l ∷ ls) = noted (asking u o (e ∷ []) [] l 0 0) 12 (entity_is e level (at 1 1) ∷ []) ∷ each_refused u o e ls

-- and gets it
unfoldable pub each_set : ℕ → ℕ → ℕ → List ℕ → List Case
each_set u o e [] = []
each_set u o e (l ∷ ls) = expect [] (asking u o (e ∷ []) [] l 0 0) 0 (entity_is e level l ∷ []) ∷ each_set u o e ls

-- user 1 has no downgrader's role, and user 2 a house role only
unfoldable pub without_role : List Case
without_role =
    -- the level of a container
    each_refused 2 6 7 dropping ++ (each_set 2 6 7 rising
    -- of one's own device: whoever is on it needs no role
    ++ (each_set 2 18 2 dropping ++ (each_set 2 18 2 rising
    -- of a device that another is on
    ++ (each_refused 1 18 2 dropping ++ (each_set 1 18 2 rising
    -- of a device that nobody is on
    ++ (each_refused 2 18 3 dropping ++ each_set 2 18 3 rising))))))

-- both have the downgrader's role
unfoldable pub with_role : List Case
with_role =
    each_set 2 6 7 dropping ++ (each_set 2 6 7 rising
    ++ (each_set 2 18 2 dropping ++ (each_set 2 18 2 rising
    ++ (each_set 1 18 2 dropping ++ (each_set 1 18 2 rising
    ++ (each_set 2 18 3 dropping ++ each_set 2 18 3 rising))))))

pub without_role_holds : all_pass (level11 other_roles house_role) without_role ≡ true
unfolding opened s1 s1_sheet level11 without_role each_refused each_set dropping rising
without_role_holds = refl

pub with_role_holds : all_pass (level11 all_roles downgrader_role) with_role ≡ true
unfolding opened s1 s1_sheet level11 with_role each_set dropping rising
with_role_holds = refl

-- User 1 of S1 is refused the starred change from rank 1 to a compartment, and gets it with the downgrader's role, which the same user may take up.
unfoldable pub s1_sideways : List Case
s1_sideways =
    expect (asking 1 14 [] [] 1 2 0 gets 0 ∷ []) (asking 1 6 (7 ∷ []) [] (at 0 1) 0 0) 0 (entity_is 7 level (at 0 1) ∷ [])
    -- the officer's and the releaser's roles do not help
    ∷ expect (asking 1 14 [] [] 1 5 0 gets 0 ∷ []) (asking 1 6 (7 ∷ []) [] (at 0 1) 0 0) 12 (entity_is 7 level (at 1 0) ∷ [])
    -- the same level, and a higher one, take no role
    ∷ expect [] (asking 1 6 (7 ∷ []) [] (at 1 0) 0 0) 0 (entity_is 7 level (at 1 0) ∷ [])
    ∷ expect [] (asking 1 6 (7 ∷ []) [] (at 1 1) 0 0) 0 (entity_is 7 level (at 1 1) ∷ [])
    ∷ []

pub s1_sideways_holds : all_pass s1 s1_sideways ≡ true
unfolding opened s1 s1_sheet s1_sideways
s1_sideways_holds = refl
