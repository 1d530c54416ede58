-- Document 01, "The request and its operations"; document 02, M-101; rule 5.5, what an operand must be; rule 5.4, the ranges of arguments; and the
-- operations' own conditions, in the words of rule 6.
use Rattle.std.specs.Prelude.{Bool, ◌&&◌, ◌||◌, not, true, suc, ℕ, eqb, leb, ltb}
use Rattle.model.specs.Basics.Tests.{every, imp}
use Rattle.model.specs.Effect.Places.{draft_sort, leave, object_sort, vacant}
use Rattle.model.specs.Effect.Screens.{spot}
use Rattle.model.specs.Level.{at_most, downgrader, drops, level_count, officer, role_count, role_sets, subset}
use Rattle.model.specs.Request.Asked.{Asked, has_role, named_triple, own}
use Rattle.model.specs.State.Check.{parent, secure_test}
use Rattle.model.specs.State.Climb.{climb}
use Rattle.model.specs.State.Secure.{labelled}
use Rattle.model.specs.Tables.Kinds.{screen}
use Rattle.model.specs.Tables.Rows.{seek}
use Rattle.model.specs.Tables.Words.{Tables, authorised, clearance, container_kind, current, device_kind, devices, draft_type}
use Rattle.model.specs.Tables.Words.{entity_count, held, kinds, level, missed, object_kind, operation_count, place_count, places}
use Rattle.model.specs.Tables.Words.{position_count, present, released_type, sum_most, triples, type, used_places, user_count, who_most}

-- Rule 5.5: what an operand must be.
abbrev pub Kind : Type 0
Kind = Tables → ℕ → Bool

unfoldable pub is_any : Kind
is_any d e = leb object_kind (kinds d e)

unfoldable pub is_entity : Kind
is_entity d e = leb object_kind (kinds d e) && leb (kinds d e) container_kind

unfoldable pub is_container : Kind
is_container d e = eqb (kinds d e) container_kind

-- Rule 5.5 says device of a terminal (operation 12) and of a screen (17 and 18), so one test serves all three.
unfoldable pub is_device : Kind
is_device d e = eqb (kinds d e) device_kind

unfoldable pub is_draft : Kind
is_draft d e = eqb (kinds d e) container_kind && eqb (d.entity e type) draft_type

-- Rule 5.4: the range of an argument.
abbrev pub Range : Type 0
Range = ℕ → Bool

unfoldable pub between : ℕ → ℕ → Range
between low high n = leb low n && leb n high

unfoldable pub free : Range
free n = true

unfoldable pub unused : Range
unused n = eqb n 0

unfoldable pub a_level : Range
a_level n = ltb n level_count

unfoldable pub some_roles : Range
some_roles n = ltb n role_sets

unfoldable pub a_user : Range
a_user n = between 1 user_count n

unfoldable pub a_sort : Range
a_sort n = between object_sort draft_sort n

unfoldable pub a_flag : Range
a_flag n = leb n 1

unfoldable pub a_sum : Range
a_sum n = between 1 sum_most n

unfoldable pub a_who : Range
a_who n = between 1 who_most n

unfoldable pub an_operation : Range
an_operation n = between 1 operation_count n

unfoldable pub a_position : Range
a_position n = between 1 position_count n

-- A condition of an operation: whether it applies to what is asked.
abbrev pub Condition : Type 0
Condition = Tables → Asked → Bool

abbrev pub level_of : Tables → ℕ → ℕ
level_of d e = d.entity e level

-- Rules 5.6, 6.6 and 6.14 to 6.19: the requester does not have the role now.
unfoldable pub lacks : ℕ → Condition
lacks r d s = not (has_role d s.user r)

-- Rule 6.1, 13: the new level is too high for the container; 14: no number or no place is left.
unfoldable pub create_above : Condition
create_above d s = not (at_most s.b (level_of d s.first))

unfoldable pub create_no_room : Condition
create_no_room d s = not (leb (vacant d) entity_count) || leb place_count (used_places d s.first)

-- Rule 6.2: e stands on some screen.
unfoldable pub on_screen : Tables → ℕ → Bool
on_screen d e = not (every entity_count (λ v. imp (screen (kinds d (suc v)))
    (not (ltb (seek e (places d (suc v)) (used_places d (suc v))) (used_places d (suc v))))))

-- Rule 6.2, 15: it holds something, is on a screen, or is released.
unfoldable pub delete_forbidden : Condition
delete_forbidden d s = not (eqb (used_places d s.first) 0) || (on_screen d s.first || eqb (d.entity s.first type) released_type)

-- Rules 6.3 and 6.5, 13: the first operand is too high for the second.
unfoldable pub first_above : Condition
first_above d s = not (at_most (level_of d s.first) (level_of d s.second))

-- Rule 6.3, 14: full even when the entity has left its old place; 15: the container is the entity or lies in it.
unfoldable pub move_no_room : Condition
move_no_room d s = leb place_count (used_places (leave s.first d) s.second)

unfoldable pub move_inside : Condition
move_inside d s = climb (parent (kinds d) (used_places d) (places d)) (suc entity_count) s.second s.first

-- Rule 6.6, 12: the level drops, by no downgrader.
unfoldable pub level_dropped : Condition
level_dropped d s = drops s.a (level_of d s.first) && lacks downgrader d s

-- Rules 6.6, 6.15 and 6.18, 13: with that word changed the tables are not secure.
unfoldable pub insecure : (Asked → Tables → Tables) → Condition
insecure f d s = not (secure_test (f s d))

-- Rule 6.8, 14: a new triple, and no place for it.
unfoldable pub grant_no_room : Condition
grant_no_room d s = leb place_count (seek (named_triple s) (triples d s.first) place_count) && leb place_count (seek 0 (triples d s.first) place_count)

-- Rule 6.10, 13: too high for the user or for the screen; 14: not there yet, and no place; 15: a value without its label.
unfoldable pub show_above : Condition
show_above d s = not (at_most (level_of d s.first) (d.user s.user clearance)) || not (at_most (level_of d s.first) (level_of d (own d s)))

unfoldable pub show_no_room : Condition
show_no_room d s = leb (used_places d (own d s)) (spot (own d s) s.first d) && leb place_count (used_places d (own d s))

unfoldable pub show_unlabelled : Condition
show_unlabelled d s = not (labelled s.a)

-- Rule 6.12, 15: the requester is on already, or somebody is on that device.
unfoldable pub login_taken : Condition
login_taken d s = not (eqb (own d s) 0) || not (every user_count (λ u. not (eqb (devices d (suc u)) s.first)))

-- Rules 6.14 to 6.16, 11: there is no user a.
unfoldable pub user_absent : Condition
user_absent d s = eqb (d.user s.a present) 0

-- Rule 6.14, 11: no user a, or one who is off and is to have roles; 12: another's, by no officer; 13: not all authorised.
unfoldable pub roles_off : Condition
roles_off d s = user_absent d s || (eqb (devices d s.a) 0 && not (eqb s.b 0))

unfoldable pub roles_of_another : Condition
roles_of_another d s = not (eqb s.a s.user) && lacks officer d s

unfoldable pub roles_unauthorised : Condition
roles_unauthorised d s = not (subset role_count s.b (d.user s.a authorised))

-- Rule 6.16, 13: user a acts with a role that b leaves out.
unfoldable pub current_outside : Condition
current_outside d s = not (subset role_count (d.user s.a current) s.b)

-- Rule 6.17, 13: the device stands above the new maximum.
unfoldable pub device_above : Condition
device_above d s = not (at_most (level_of d s.first) s.a)

-- Rule 6.18, 12: the level of a device that is not the requester's own drops, by no downgrader.
unfoldable pub device_dropped : Condition
device_dropped d s = drops s.a (level_of d s.first) && (not (eqb s.first (own d s)) && lacks downgrader d s)

-- Rule 6.20, 16: nothing is held, or another refusal or number.
unfoldable pub not_acknowledged : Condition
not_acknowledged d s = eqb (d.user s.user held) 0 || (not (eqb s.a (d.user s.user held)) || not (eqb s.b (d.user s.user missed)))
