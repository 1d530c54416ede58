-- What the tests of the operations' own refusals say where they apply (rules 6.1 to 6.20). Of those that are not here `Request/ConditionLaws` says
-- where they do not apply, and `fails_agrees` turns that round.
use Rattle.std.proofs.Math.Bool.{Bool, not}
use Rattle.std.specs.Prelude.{◌≢◌, ◌⊎◌, ◌≡◌, refl, T, ltb}
use Prim.Native.Nat.{◌≤◌, suc, ℕ}
use Rattle.std.proofs.Common.{arith}
use Rattle.std.proofs.Math.Dec.{eqb}
use Rattle.model.specs.Basics.Agree.{Agrees, agrees_T, agrees_and, agrees_as, agrees_but, agrees_eq, agrees_exception, agrees_not}
use Rattle.model.specs.Basics.Agree.{agrees_or, agrees_some, agrees_twice}
use Rattle.model.specs.Basics.Fails.{fails_agrees, fails_where}
use Rattle.model.specs.Basics.Tests.{every, imp}
use Rattle.model.specs.Level.{AtMost, Bit, Drops, at_most, bit, downgrader, officer}
use Rattle.model.proofs.LevelLaws.{drops_agrees}
use Rattle.model.specs.Request.Applies.{EightOthers, Full}
use Rattle.model.specs.Request.Asked.{Asked, HasRole, named_triple, own}
use Rattle.model.proofs.Request.ConditionLaws.{lacks_fails}
use Rattle.model.specs.Request.Conditions.{create_no_room, delete_forbidden, device_dropped, grant_no_room, lacks, level_dropped, level_of, login_taken}
use Rattle.model.specs.Request.Conditions.{move_inside, move_no_room, not_acknowledged, on_screen, roles_of_another, roles_off, show_above}
use Rattle.model.specs.Request.Conditions.{show_no_room, show_unlabelled, user_absent}
use Rattle.model.specs.Request.RoomLaws.{full_agrees, moved_agrees, none_agrees, numbers_agrees, others_agrees, shown_agrees}
use Rattle.model.proofs.Request.TestLaws.{inside_agrees, nobody_agrees, screen_agrees}
use Rattle.model.specs.State.AgreeLinks.{member_agrees}
use Rattle.model.specs.State.Depth.{Within}
use Rattle.model.specs.State.Secure.{labelled}
use Rattle.model.specs.State.WellFormed.{Holds, InTables, WellFormed}
use Rattle.model.specs.Tables.KindLaws.{screen_kind_agrees}
use Rattle.model.specs.Tables.Kinds.{Screen, Terminal, screen}
use Rattle.model.specs.Tables.Rows.{seek}
use Rattle.model.specs.Tables.Words.{Tables, absent_kind, clearance, container_kind, devices, entity_count, held, kinds, label_bit, missed}
use Rattle.model.specs.Tables.Words.{place_count, places, present, released_type, triples, type, used_places, user_count, value_bit}

module _ (d : Tables) (s : Asked) where
  -- Rules 6.15 to 6.17 and 6.19, 12: the requester does not have the role.
  pub lacks_agrees : (r : ℕ) → Agrees (lacks r d s) (HasRole d s.user r → ⊥)
  lacks_agrees r = fails_agrees (lacks_fails d s r)

  -- Rule 6.6, 12: a level that drops, by no downgrader.
  pub level_dropped_agrees : Agrees (level_dropped d s) (Drops s.a (level_of d s.first) × (HasRole d s.user downgrader → ⊥))
  unfolding level_dropped
  level_dropped_agrees = agrees_and (drops_agrees s.a (level_of d s.first)) (lacks_agrees downgrader)

  -- Rule 6.8, 14: eight other triples.
  pub grant_no_room_agrees : Agrees (grant_no_room d s) (EightOthers (triples d s.first) (named_triple s))
  unfolding grant_no_room
  grant_no_room_agrees = others_agrees (triples d s.first) (named_triple s) (none_agrees (named_triple s) (triples d s.first) place_count)
      (none_agrees 0 (triples d s.first) place_count)

  -- Rule 6.10, 13: too high for the requester, or for the device;
  pub show_above_agrees : Agrees (show_above d s)
      ((AtMost (level_of d s.first) (d.user s.user clearance) → ⊥) ⊎ (AtMost (level_of d s.first) (level_of d (own d s)) → ⊥))
  unfolding show_above
  show_above_agrees = agrees_or (agrees_not (agrees_T (at_most (level_of d s.first) (d.user s.user clearance))))
      (agrees_not (agrees_T (at_most (level_of d s.first) (level_of d (own d s)))))

  -- 15: a value without its label.
  pub show_unlabelled_agrees : Agrees (show_unlabelled d s) (Bit value_bit s.a × (Bit label_bit s.a → ⊥))
  unfolding show_unlabelled labelled
  show_unlabelled_agrees = agrees_but (bit label_bit s.a) (agrees_T (bit value_bit s.a)) (agrees_not (agrees_T (bit label_bit s.a)))

  -- Rules 6.14 to 6.16, 11: user a is absent,
  pub user_absent_agrees : Agrees (user_absent d s) (d.user s.a present ≡ 0)
  unfolding user_absent
  user_absent_agrees = agrees_eq (d.user s.a present) 0

  -- or is off and is to have roles;
  pub roles_off_agrees : Agrees (roles_off d s) ((d.user s.a present ≡ 0) ⊎ ((devices d s.a ≡ 0) × (s.b ≢ 0)))
  unfolding roles_off
  roles_off_agrees = agrees_or user_absent_agrees (agrees_and (agrees_eq (devices d s.a) 0) (agrees_not (agrees_eq s.b 0)))

  -- 12: another's roles, by no officer.
  pub roles_of_another_agrees : Agrees (roles_of_another d s) ((s.a ≢ s.user) × (HasRole d s.user officer → ⊥))
  unfolding roles_of_another
  roles_of_another_agrees = agrees_and (agrees_not (agrees_eq s.a s.user)) (lacks_agrees officer)

  -- Rule 6.18, 12: a level that drops, on a device that is not the requester's own, by no downgrader.
  pub device_dropped_agrees : Agrees (device_dropped d s)
      (Drops s.a (level_of d s.first) × ((s.first ≢ own d s) × (HasRole d s.user downgrader → ⊥)))
  unfolding device_dropped
  device_dropped_agrees =
      agrees_and (drops_agrees s.a (level_of d s.first)) (agrees_and (agrees_not (agrees_eq s.first (own d s))) (lacks_agrees downgrader))

  -- Rule 6.20, 16: nothing is held, or another refusal, or another number is missed.
  pub not_acknowledged_agrees : Agrees (not_acknowledged d s)
      ((d.user s.user held ≡ 0) ⊎ ((s.a ≢ d.user s.user held) ⊎ (s.b ≢ d.user s.user missed)))
  unfolding not_acknowledged
  not_acknowledged_agrees = agrees_or (agrees_eq (d.user s.user held) 0)
      (agrees_or (agrees_not (agrees_eq s.a (d.user s.user held))) (agrees_not (agrees_eq s.b (d.user s.user missed))))

  module _ (w : WellFormed d) where
    -- Rule 6.1, 14: every number is taken, or every place of the container.
    pub create_no_room_agrees : Agrees (create_no_room d s)
        (((e : ℕ) → 1 ≤ e → e ≤ entity_count → kinds d e ≢ absent_kind) ⊎ Full (places d s.first))
    unfolding create_no_room
    create_no_room_agrees =
        agrees_or (numbers_agrees d) (full_agrees (places d s.first) (used_places d s.first) (w.entities s.first).filled.packed)

    -- Rule 6.2, 15: it holds something,
    filled_agrees : (e : ℕ) → Agrees (not (eqb (used_places d e) 0)) ((c : ℕ) × Holds d e c)
    filled_agrees e =
        agrees_as (λ h. (places d e 0, (0, omega arith, refl))) (λ z h. omega (arith, z.1.1)) (agrees_not (agrees_eq (used_places d e) 0))

    -- a screen shows it,
    shown_somewhere : (e : ℕ) → Agrees (on_screen d e) ((v : ℕ) × Screen (kinds d v) × Holds d v e)
    unfolding on_screen
    shown_somewhere e = record { to = found; from = λ z. (fails_agrees (fails_where (on_screen d e) (screen_agrees d w e))).from (λ f. f z.0 z.1 z.2) }
      where
        unseen : ℕ → Bool
        unseen v = not (ltb (seek e (places d v) (used_places d v)) (used_places d v))

        found : T (not (every entity_count (λ v. imp (screen (kinds d (suc v))) (unseen (suc v))))) → (v : ℕ) × Screen (kinds d v) × Holds d v e
        found t =
            let z = (agrees_exception entity_count (λ v. imp (screen (kinds d (suc v))) (unseen (suc v))) (λ v. Screen (kinds d (suc v)) × Holds d (suc v) e)
            (λ v. agrees_but (unseen (suc v)) (screen_kind_agrees (kinds d (suc v)))
            (agrees_twice (member_agrees (places d (suc v)) (used_places d (suc v)) e)))).to t in
            (suc z.0, z.2.0, z.2.1)

    -- or it is released.
    pub delete_forbidden_agrees : Agrees (delete_forbidden d s) (((c : ℕ) × Holds d s.first c)
        ⊎ (((v : ℕ) × Screen (kinds d v) × Holds d v s.first) ⊎ (d.entity s.first type ≡ released_type)))
    unfolding delete_forbidden
    delete_forbidden_agrees =
        agrees_or (filled_agrees s.first) (agrees_or (shown_somewhere s.first) (agrees_eq (d.entity s.first type) released_type))

    -- Rule 6.3, 14: eight others stand in the container;
    pub move_no_room_agrees : kinds d s.second ≡ container_kind → Agrees (move_no_room d s) (EightOthers (places d s.second) s.first)
    unfolding move_no_room
    move_no_room_agrees box = moved_agrees d w s.first s.second box

    -- 15: the container is the entity, or lies in it.
    pub move_inside_agrees : Agrees (move_inside d s) (Within (InTables d) s.second s.first)
    unfolding move_inside
    move_inside_agrees = inside_agrees d w s.second s.first

    -- Rule 6.10, 14: the device shows eight others.
    pub show_no_room_agrees : Agrees (show_no_room d s) (EightOthers (places d (own d s)) s.first)
    unfolding show_no_room
    show_no_room_agrees = shown_agrees (places d (own d s)) (used_places d (own d s)) (w.entities (own d s)).filled.packed s.first

    -- Rule 6.12, 15: the requester is on already, or somebody is on that device.
    pub login_taken_agrees : Terminal (kinds d s.first) → Agrees (login_taken d s) ((own d s ≢ 0) ⊎ ((u : ℕ) × (devices d u ≡ s.first)))
    unfolding login_taken
    login_taken_agrees k = agrees_or (agrees_not (agrees_eq (own d s) 0)) record {
      to = λ t. let z = (agrees_some user_count (λ u. eqb (devices d (suc u)) s.first) (λ u. devices d (suc u) ≡ s.first)
          (λ u. agrees_eq (devices d (suc u)) s.first)).to t in (suc z.0, z.2);
      from = λ z. (agrees_not (nobody_agrees d w s.first (w.entity_numbers s.first (λ q. omega arith)).0)).from (λ f. f z.0 z.1);
    }
