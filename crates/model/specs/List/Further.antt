-- This file serves the proofs only: the statement of the list does not use it.
-- Document 01, "The refusal ladder"; rule 10.3: what is left of the step's ladder for the list, the rungs from 7 on of a request to show what a
-- reference names.
use Rattle.std.specs.Prelude.{Bool, ◌&&◌, ◌||◌, not, List, ℕ, eqb}
use Rattle.model.specs.Basics.Choice.{pick}
use Rattle.model.specs.Level.{at_most}
use Rattle.model.specs.List.Listing.{showing}
use Rattle.model.specs.Request.Asked.{asked}
use Rattle.model.specs.Request.Conditions.{is_entity, level_of, show_no_room}
use Rattle.model.specs.Request.Ladder.{bars, permits}
use Rattle.model.specs.Request.Operations.{number_of, to_show}
use Rattle.model.specs.Request.Reference.{basis, resolve}
use Rattle.model.specs.Request.Words.{request_of}
use Rattle.model.specs.Tables.Words.{Tables, clearance, devices}
use Rattle.model.specs.Request.Refusals as refusal

-- the state check's answer, of its three tests: the length, well-formed, secure
abbrev pub checked : Bool → Bool → Bool → ℕ
checked a w s = pick a (pick w (pick s refusal.accepted refusal.not_secure) refusal.not_well_formed) refusal.bad_length

-- the rungs that ask who requests, and n where neither applies
abbrev pub asker : Bool → Bool → ℕ → ℕ
asker unknown off n = pick unknown refusal.unknown_requester (pick off refusal.not_logged_on n)

-- the rungs from 7 on: nowhere, not permitted, not cleared, no entity, too high, no room
abbrev pub rungs : (nowhere shut barred other above full : Bool) → ℕ
rungs nowhere shut barred other above full =
    pick nowhere refusal.no_such_name (pick shut refusal.no_access (pick barred refusal.marked (pick other refusal.wrong_kind
    (pick above refusal.level_or_roles (pick full refusal.no_room refusal.accepted)))))

-- those rungs of the entity e, by the entities w
abbrev pub further_at : Tables → ℕ → List ℕ → List ℕ → ℕ → ℕ
further_at d u r w e =
    rungs (eqb e 0) (not (permits d u (number_of to_show) 1 e)) (bars d (d.user u clearance) w) (not (is_entity d e))
    (not (at_most (level_of d e) (d.user u clearance)) || not (at_most (level_of d e) (level_of d (devices d u))))
    (show_no_room d (asked d (request_of (showing u r))))

unfoldable pub further : Tables → ℕ → List ℕ → ℕ
further d u r = further_at d u r (basis d r) (resolve d r)

-- what those rungs but 14 ask of the entity e that a reference leads to, where the way is barred or not
abbrev pub asks : Tables → ℕ → ℕ → Bool → Bool
asks d u e c = not (eqb e 0) && (permits d u (number_of to_show) 1 e && (not c && (is_entity d e
    && (at_most (level_of d e) (d.user u clearance) && at_most (level_of d e) (level_of d (devices d u))))))
