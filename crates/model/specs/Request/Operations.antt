-- Document 01, "The request and its operations"; document 02, M-101; rule 6: the twenty operations, and their table: operands, arguments, own conditions,
-- effect.
use Rattle.std.specs.Prelude.{Bool, ◌||◌, false, true, List, [], ◌∷◌, ℕ, eqb}
use Rattle.std.proofs.Math.Option.{Option, none, some}
use Rattle.model.specs.Effect.Places.{create, delete, move, sort_kind, sort_type, vacant}
use Rattle.model.specs.Effect.Screens.{clear, login, logout, show}
use Rattle.model.specs.Effect.Triples.{grant, revoke}
use Rattle.model.specs.Effect.Words.{acknowledge, copy, edit, release, set_authorised, set_clearance, set_current, set_level, set_mark}
use Rattle.model.specs.Effect.Words.{set_maximum}
use Rattle.model.specs.Level.{officer, releasing}
use Rattle.model.specs.Request.Asked.{Asked, named_triple, own}
use Rattle.model.specs.Request.Conditions.{Condition, Kind, Range, a_flag, a_level, a_position, a_sort, a_sum, a_user, a_who, an_operation}
use Rattle.model.specs.Request.Conditions.{create_above, create_no_room, current_outside, delete_forbidden, device_above, device_dropped}
use Rattle.model.specs.Request.Conditions.{first_above, free, grant_no_room, insecure, is_any, is_container, is_device, is_draft, is_entity}
use Rattle.model.specs.Request.Conditions.{lacks, level_dropped, login_taken, move_inside, move_no_room, not_acknowledged, roles_of_another}
use Rattle.model.specs.Request.Conditions.{roles_off, roles_unauthorised, show_above, show_no_room, show_unlabelled, some_roles, user_absent}
use Rattle.model.specs.Tables.Words.{Tables}
use Rattle.model.specs.Request.Refusals as refusal

pub data Op : Type 0 where
  to_create to_delete to_move to_edit to_copy to_level to_mark to_grant to_revoke to_show : Op
  to_clear to_login to_logout to_current to_clearance to_authorised to_maximum to_device_level to_release to_acknowledge : Op

-- one refusal of a row: its number, and when it applies
pub data Refusal : Type 0 where
  refuse : ℕ → Condition → Refusal

pub record Row : Type 0 where
  -- what each operand must be
  pub operands : List Kind
  -- the ranges of a, b and c, as many of them as are used
  pub arguments : List Range
  -- refusals 11 to 16
  pub conditions : List Refusal
  pub effect : Asked → Tables → Tables

abbrev pub takes : List Kind → List Range → (Asked → Tables → Tables) → List Refusal → Row
takes k r e c = record { operands = k; arguments = r; conditions = c; effect = e }

abbrev pub level_effect : Asked → Tables → Tables
level_effect s = set_level s.first s.a

abbrev pub clearance_effect : Asked → Tables → Tables
clearance_effect s = set_clearance s.a s.b

-- The table of rule 6: operands, arguments, effect; own conditions.
abbrev pub row_of : Op → Row
row_of to_create = takes (is_container ∷ []) (a_sort ∷ a_level ∷ []) (λ s d. create (vacant d) s.first (sort_kind s.a) (sort_type s.a) s.b d)
    (refuse refusal.level_or_roles create_above ∷ refuse refusal.no_room create_no_room ∷ [])
row_of to_delete = takes (is_entity ∷ []) [] (λ s. delete s.first)
    (refuse refusal.arrangement delete_forbidden ∷ [])
row_of to_move = takes (is_entity ∷ is_container ∷ []) [] (λ s. move s.first s.second)
    (refuse refusal.level_or_roles first_above ∷ refuse refusal.no_room move_no_room ∷ refuse refusal.arrangement move_inside ∷ [])
row_of to_edit = takes (is_entity ∷ []) (free ∷ []) (λ s. edit s.first s.a)
    []
row_of to_copy = takes (is_entity ∷ is_entity ∷ []) [] (λ s. copy s.first s.second)
    (refuse refusal.level_or_roles first_above ∷ [])
row_of to_level = takes (is_entity ∷ []) (a_level ∷ []) level_effect
    (refuse refusal.role_missing level_dropped ∷ refuse refusal.level_or_roles (insecure level_effect) ∷ [])
row_of to_mark = takes (is_container ∷ []) (a_flag ∷ []) (λ s. set_mark s.first s.a)
    []
row_of to_grant = takes (is_any ∷ []) (a_who ∷ an_operation ∷ a_position ∷ []) (λ s. grant s.first (named_triple s))
    (refuse refusal.no_room grant_no_room ∷ [])
row_of to_revoke = takes (is_any ∷ []) (a_who ∷ an_operation ∷ a_position ∷ []) (λ s. revoke s.first (named_triple s))
    []
row_of to_show = takes (is_entity ∷ []) (a_sum ∷ []) (λ s d. show (own d s) s.first s.a d)
    (refuse refusal.level_or_roles show_above ∷ refuse refusal.no_room show_no_room ∷ refuse refusal.arrangement show_unlabelled ∷ [])
row_of to_clear = takes [] [] (λ s d. clear (own d s) d)
    []
row_of to_login = takes (is_device ∷ []) [] (λ s. login s.user s.first)
    (refuse refusal.arrangement login_taken ∷ [])
row_of to_logout = takes [] [] (λ s. logout s.user)
    []
row_of to_current = takes [] (a_user ∷ some_roles ∷ []) (λ s. set_current s.a s.b)
    (refuse refusal.no_such_user roles_off ∷ refuse refusal.role_missing roles_of_another ∷ refuse refusal.level_or_roles roles_unauthorised ∷ [])
row_of to_clearance = takes [] (a_user ∷ a_level ∷ []) clearance_effect
    (refuse refusal.no_such_user user_absent ∷ refuse refusal.role_missing (lacks officer) ∷ refuse refusal.level_or_roles (insecure clearance_effect) ∷ [])
row_of to_authorised = takes [] (a_user ∷ some_roles ∷ []) (λ s. set_authorised s.a s.b)
    (refuse refusal.no_such_user user_absent ∷ refuse refusal.role_missing (lacks officer) ∷ refuse refusal.level_or_roles current_outside ∷ [])
row_of to_maximum = takes (is_device ∷ []) (a_level ∷ []) (λ s. set_maximum s.first s.a)
    (refuse refusal.role_missing (lacks officer) ∷ refuse refusal.level_or_roles device_above ∷ [])
row_of to_device_level = takes (is_device ∷ []) (a_level ∷ []) level_effect
    (refuse refusal.role_missing device_dropped ∷ refuse refusal.level_or_roles (insecure level_effect) ∷ [])
row_of to_release = takes (is_draft ∷ []) [] (λ s. release s.user s.first)
    (refuse refusal.role_missing (lacks releasing) ∷ [])
row_of to_acknowledge = takes [] (free ∷ free ∷ []) (λ s. acknowledge s.user)
    (refuse refusal.not_acknowledged not_acknowledged ∷ [])

-- the operations' numbers
abbrev pub number_of : Op → ℕ
number_of to_create = 1
number_of to_delete = 2
number_of to_move = 3
number_of to_edit = 4
number_of to_copy = 5
number_of to_level = 6
number_of to_mark = 7
number_of to_grant = 8
number_of to_revoke = 9
number_of to_show = 10
number_of to_clear = 11
number_of to_login = 12
number_of to_logout = 13
number_of to_current = 14
number_of to_clearance = 15
number_of to_authorised = 16
number_of to_maximum = 17
number_of to_device_level = 18
number_of to_release = 19
number_of to_acknowledge = 20

unfoldable pub operations : List Op
operations =
    to_create ∷ to_delete ∷ to_move ∷ to_edit ∷ to_copy ∷ to_level ∷ to_mark ∷ to_grant ∷ to_revoke ∷ to_show
    ∷ to_clear ∷ to_login ∷ to_logout ∷ to_current ∷ to_clearance ∷ to_authorised ∷ to_maximum ∷ to_device_level ∷ to_release ∷ to_acknowledge ∷ []

-- the operation of a number, if it is one
unfoldable pub with_number : ℕ → List Op → Option Op
with_number n [] = none
with_number n (o ∷ os) = elim (eqb (number_of o) n) [ true ↦ some o | false ↦ with_number n os ]

unfoldable pub op_of : ℕ → Option Op
op_of n = with_number n operations

-- Rule 7.6: login and acknowledge are open to a requester who is not logged on.
abbrev pub open_logged_off : Op → Bool
open_logged_off o = eqb (number_of o) (number_of to_login) || eqb (number_of o) (number_of to_acknowledge)
