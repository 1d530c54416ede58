-- What operands of the right kinds are, what arguments in their ranges are, and where each condition of rule 6 does not apply.
use Rattle.std.specs.Prelude.{◌≢◌, ◌≡◌, ◌<◌, ◌≤◌, ℕ, T, leb}
use Rattle.std.proofs.Common.{inl, inr, arith}
use Rattle.model.specs.Basics.Agree.{Agrees, agrees_T, agrees_and, agrees_as, agrees_eq, agrees_le, agrees_not}
use Rattle.model.specs.Basics.Fails.{Fails, fails_agreed, fails_and, fails_le, fails_not, fails_or, fails_where}
use Rattle.model.specs.Effect.Places.{leave, vacant}
use Rattle.model.specs.Effect.Screens.{spot}
use Rattle.model.specs.Level.{AtMost, Drops, Subset, at_most, downgrader, officer, role_count, subset}
use Rattle.model.proofs.LevelLaws.{drops_agrees}
use Rattle.model.specs.Request.Asked.{Asked, HasRole, named_triple, own}
use Rattle.model.specs.Request.Conditions.{between, create_above, create_no_room, current_outside, delete_forbidden, device_above}
use Rattle.model.specs.Request.Conditions.{device_dropped, first_above, grant_no_room, insecure, is_any, is_container, is_device, is_draft}
use Rattle.model.specs.Request.Conditions.{is_entity, lacks, level_dropped, level_of, login_taken, move_inside, move_no_room}
use Rattle.model.specs.Request.Conditions.{not_acknowledged, on_screen, roles_of_another, roles_off, roles_unauthorised, show_above}
use Rattle.model.specs.Request.Conditions.{show_no_room, show_unlabelled, user_absent}
use Rattle.model.specs.Request.Form.{Between}
use Rattle.model.proofs.Request.TestLaws.{inside_agrees, nobody_agrees, role_agrees, screen_agrees}
use Rattle.model.specs.State.AgreeSecure.{secure_agrees}
use Rattle.model.specs.State.Depth.{Within}
use Rattle.model.specs.State.Secure.{Secure, labelled}
use Rattle.model.specs.State.WellFormed.{Holds, InTables, Thing, WellFormed}
use Rattle.model.specs.Tables.Kinds.{Screen, Terminal}
use Rattle.model.specs.Tables.RowLaws.{sought}
use Rattle.model.specs.Tables.Rows.{Sought, seek}
use Rattle.model.specs.Tables.Words.{Tables, authorised, clearance, container_kind, current, device_kind, devices, draft_type}
use Rattle.model.specs.Tables.Words.{entity_count, held, kinds, missed, object_kind, place_count, present, released_type, triples, type}
use Rattle.model.specs.Tables.Words.{used_places}

-- Rule 5.5: `any` is an object, a container or a device,
pub any_agrees : (d : Tables) (e : ℕ) → Agrees (is_any d e) (object_kind ≤ kinds d e)
unfolding is_any
any_agrees d e = agrees_le object_kind (kinds d e)

-- an entity is an object or a container,
pub thing_agrees : (d : Tables) (e : ℕ) → Agrees (is_entity d e) (Thing d e)
unfolding is_entity
thing_agrees d e = agrees_and (agrees_le object_kind (kinds d e)) (agrees_le (kinds d e) container_kind)

-- a container is of kind 2,
pub container_agrees : (d : Tables) (e : ℕ) → Agrees (is_container d e) (kinds d e ≡ container_kind)
unfolding is_container
container_agrees d e = agrees_eq (kinds d e) container_kind

-- a device of kind 3,
pub device_agrees : (d : Tables) (e : ℕ) → Agrees (is_device d e) (kinds d e ≡ device_kind)
unfolding is_device
device_agrees d e = agrees_eq (kinds d e) device_kind

-- and a draft is a container of type 1.
pub draft_agrees : (d : Tables) (e : ℕ) → Agrees (is_draft d e) ((kinds d e ≡ container_kind) × (d.entity e type ≡ draft_type))
unfolding is_draft
draft_agrees d e = agrees_and (agrees_eq (kinds d e) container_kind) (agrees_eq (d.entity e type) draft_type)

-- Rule 5.4: a range goes from one number up to another.
pub between_agrees : (m n x : ℕ) → Agrees (between m n x) (Between m n x)
unfolding between
between_agrees m n x = agrees_and (agrees_le m x) (agrees_le x n)

module _ (d : Tables) (s : Asked) where
  -- Rules 6.15 to 6.17 and 6.19: no refusal 12 where the requester has the role.
  pub lacks_fails : (r : ℕ) → Fails (lacks r d s) (HasRole d s.user r)
  unfolding lacks
  lacks_fails r = fails_not (role_agrees d s.user r)

  -- Rule 6.1: no refusal 13 where b is at most the container's level,
  pub create_above_fails : Fails (create_above d s) (AtMost s.b (level_of d s.first))
  unfolding create_above
  create_above_fails = fails_not (agrees_T (at_most s.b (level_of d s.first)))

  -- and no 14 where a number is left and the container has a free place.
  pub create_no_room_fails : Fails (create_no_room d s) ((vacant d ≤ entity_count) × (used_places d s.first < place_count))
  unfolding create_no_room
  create_no_room_fails = fails_or (fails_not (agrees_le (vacant d) entity_count)) (fails_le place_count (used_places d s.first))

  -- Rules 6.3 and 6.5: no refusal 13 where the first's level is at most the second's.
  pub first_above_fails : Fails (first_above d s) (AtMost (level_of d s.first) (level_of d s.second))
  unfolding first_above
  first_above_fails = fails_not (agrees_T (at_most (level_of d s.first) (level_of d s.second)))

  -- Rule 6.3: no refusal 14 where the container has a free place once the entity has left.
  pub move_no_room_fails : Fails (move_no_room d s) (used_places (leave s.first d) s.second < place_count)
  unfolding move_no_room
  move_no_room_fails = fails_le place_count (used_places (leave s.first d) s.second)

  -- Rule 6.6: no refusal 12 exactly where it is a downgrader who asks, if the level drops.
  pub level_dropped_fails : Fails (level_dropped d s) (Drops s.a (level_of d s.first) → HasRole d s.user downgrader)
  unfolding level_dropped
  level_dropped_fails = fails_and (drops_agrees s.a (level_of d s.first)) (lacks_fails downgrader)

  -- Rules 6.6, 6.15 and 6.18: no refusal 13 where the tables, well-formed afterwards, are secure too.
  pub insecure_fails : (f : Asked → Tables → Tables) → WellFormed (f s d) → Fails (insecure f d s) (Secure (f s d))
  unfolding insecure
  insecure_fails f w = fails_not (secure_agrees (f s d) w)

  -- Rule 6.8: no refusal 14 where the triple is there, or a free place for it.
  pub grant_no_room_fails : Fails (grant_no_room d s)
      (seek (named_triple s) (triples d s.first) place_count ≡ place_count → seek 0 (triples d s.first) place_count < place_count)
  unfolding grant_no_room
  grant_no_room_fails =
      fails_and (at_end_lem (seek (named_triple s) (triples d s.first) place_count) (sought (named_triple s) (triples d s.first) place_count))
      (fails_le place_count (seek 0 (triples d s.first) place_count))
    where
      at_end_lem : (k : ℕ) → Sought (named_triple s) (triples d s.first) place_count k → Agrees (leb place_count k) (k ≡ place_count)
      at_end_lem k (inl z) = agrees_as (λ h. omega (arith, z.0)) (λ e. omega arith) (agrees_le place_count k)
      at_end_lem k (inr z) = agrees_as (λ h. z.0) (λ e. omega arith) (agrees_le place_count k)

  -- Rule 6.10: no refusal 13 where user and screen both stand at or above it;
  pub show_above_fails : Fails (show_above d s)
      (AtMost (level_of d s.first) (d.user s.user clearance) × AtMost (level_of d s.first) (level_of d (own d s)))
  unfolding show_above
  show_above_fails = fails_or (fails_not (agrees_T (at_most (level_of d s.first) (d.user s.user clearance))))
      (fails_not (agrees_T (at_most (level_of d s.first) (level_of d (own d s)))))

  -- no 14 where the device shows the entity already, or has a free place;
  pub show_no_room_fails : Fails (show_no_room d s) (used_places d (own d s) ≤ spot (own d s) s.first d → used_places d (own d s) < place_count)
  unfolding show_no_room
  show_no_room_fails = fails_and (agrees_le (used_places d (own d s)) (spot (own d s) s.first d)) (fails_le place_count (used_places d (own d s)))

  -- and no 15 where the value comes with its label.
  pub show_unlabelled_fails : Fails (show_unlabelled d s) (T (labelled s.a))
  unfolding show_unlabelled
  show_unlabelled_fails = fails_not (agrees_T (labelled s.a))

  -- Rules 6.15 and 6.16: no refusal 11 where user a is present.
  pub user_absent_fails : Fails (user_absent d s) (d.user s.a present ≢ 0)
  unfolding user_absent
  user_absent_fails = fails_agreed (agrees_eq (d.user s.a present) 0)

  -- Rule 6.14: no refusal 11 where user a is present and asks for no role while logged off;
  pub roles_off_fails : Fails (roles_off d s) ((d.user s.a present ≢ 0) × (devices d s.a ≡ 0 → s.b ≡ 0))
  unfolding roles_off
  roles_off_fails = fails_or user_absent_fails (fails_and (agrees_eq (devices d s.a) 0) (fails_not (agrees_eq s.b 0)))

  -- no 12 where the roles of another are set by an officer;
  pub roles_of_another_fails : Fails (roles_of_another d s) (s.a ≢ s.user → HasRole d s.user officer)
  unfolding roles_of_another
  roles_of_another_fails = fails_and (agrees_not (agrees_eq s.a s.user)) (lacks_fails officer)

  -- and no 13 where user a is authorised for all of b.
  pub roles_unauthorised_fails : Fails (roles_unauthorised d s) (Subset role_count s.b (d.user s.a authorised))
  unfolding roles_unauthorised
  roles_unauthorised_fails = fails_not (agrees_T (subset role_count s.b (d.user s.a authorised)))

  -- Rule 6.16: no refusal 13 where the current roles are within b.
  pub current_outside_fails : Fails (current_outside d s) (Subset role_count (d.user s.a current) s.b)
  unfolding current_outside
  current_outside_fails = fails_not (agrees_T (subset role_count (d.user s.a current) s.b))

  -- Rule 6.17: no refusal 13 where the device's level is at most a.
  pub device_above_fails : Fails (device_above d s) (AtMost (level_of d s.first) s.a)
  unfolding device_above
  device_above_fails = fails_not (agrees_T (at_most (level_of d s.first) s.a))

  -- Rule 6.18: no refusal 12 exactly where it is a downgrader who asks, if the level drops and the device is not the requester's own.
  pub device_dropped_fails : Fails (device_dropped d s) (Drops s.a (level_of d s.first) → s.first ≢ own d s → HasRole d s.user downgrader)
  unfolding device_dropped
  device_dropped_fails = fails_and (drops_agrees s.a (level_of d s.first))
      (fails_and (agrees_not (agrees_eq s.first (own d s))) (lacks_fails downgrader))

  -- Rule 6.20: no refusal 16 where a refusal is held, a is that refusal, and b is the number missed.
  pub not_acknowledged_fails : Fails (not_acknowledged d s)
      ((d.user s.user held ≢ 0) × ((s.a ≡ d.user s.user held) × (s.b ≡ d.user s.user missed)))
  unfolding not_acknowledged
  not_acknowledged_fails = fails_or (fails_agreed (agrees_eq (d.user s.user held) 0))
      (fails_or (fails_not (agrees_eq s.a (d.user s.user held))) (fails_not (agrees_eq s.b (d.user s.user missed))))

  module _ (w : WellFormed d) where
    -- Rule 6.2: no refusal 15 where the entity holds nothing, no screen shows it, and it is not released.
    pub delete_forbidden_fails : Fails (delete_forbidden d s)
        ((used_places d s.first ≡ 0) × (((x : ℕ) → Screen (kinds d x) → Holds d x s.first → ⊥) × (d.entity s.first type ≢ released_type)))
    unfolding delete_forbidden
    delete_forbidden_fails = fails_or (fails_not (agrees_eq (used_places d s.first) 0))
        (fails_or (fails_where (on_screen d s.first) (screen_agrees d w s.first)) (fails_agreed (agrees_eq (d.entity s.first type) released_type)))

    -- Rule 6.3: no refusal 15 where the container is neither the entity nor inside it.
    pub move_inside_fails : Fails (move_inside d s) (Within (InTables d) s.second s.first → ⊥)
    unfolding move_inside
    move_inside_fails = fails_agreed (inside_agrees d w s.second s.first)

    -- Rule 6.12: no refusal 15 where the requester is logged off and nobody is on the device.
    pub login_taken_fails : Terminal (kinds d s.first) → Fails (login_taken d s) ((own d s ≡ 0) × ((x : ℕ) → devices d x ≢ s.first))
    unfolding login_taken
    login_taken_fails k = fails_or (fails_not (agrees_eq (own d s) 0))
        (fails_not (nobody_agrees d w s.first (w.entity_numbers s.first (λ q. omega arith)).0))
