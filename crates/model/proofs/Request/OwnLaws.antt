-- The operations' own refusals (rules 7.11 to 7.16) are those that rules 6.1 to 6.20 state: a number is refused exactly where the statement `Own` has it.
use Rattle.std.specs.Prelude.{◌&&◌, not, ◌≢◌, ◌⊎◌, ◌≡◌, refl, ◌<◌, ◌≤◌, ℕ, leb}
use Rattle.std.proofs.Common.{inl, inr, arith, lit<, lit≤}
use Rattle.std.proofs.Math.Dec.{T}
use Rattle.model.specs.Basics.Agree.{Agrees, agrees_and, agrees_as, agrees_le}
use Rattle.model.specs.Basics.Fails.{fails_agrees}
use Rattle.model.specs.Effect.WordsLaws.{clearance_well_formed, level_well_formed}
use Rattle.model.specs.Level.{AtMost, officer, releasing}
use Rattle.model.specs.Request.Allowed.{Operand}
use Rattle.model.specs.Request.Applies.{Full, Own, Suits, WithEntity, WithUser, acknowledge_nothing, acknowledge_number, acknowledge_other}
use Rattle.model.specs.Request.Applies.{authorised_absent, authorised_outside, authorised_role, clearance_absent, clearance_insecure, clearance_role}
use Rattle.model.specs.Request.Applies.{copy_above}
use Rattle.model.specs.Request.Applies.{create_above, create_number, create_place, current_absent, current_anothers, current_off, current_unauthorised}
use Rattle.model.specs.Request.Applies.{delete_filled, delete_released, delete_shown, device_dropped, device_insecure, grant_full, level_insecure}
use Rattle.model.specs.Request.Applies.{level_dropped, login_on, login_occupied, maximum_above, maximum_role, move_above, move_full, move_inside}
use Rattle.model.specs.Request.Applies.{release_role, show_above_screen, show_full, show_uncleared, show_unlabelled}
use Rattle.model.specs.Request.Asked.{Asked, operand, own}
use Rattle.model.proofs.Request.ConditionLaws.{create_above_fails, current_outside_fails, device_above_fails, first_above_fails, insecure_fails}
use Rattle.model.proofs.Request.ConditionLaws.{roles_unauthorised_fails, user_absent_fails}
use Rattle.model.specs.Request.Conditions.{insecure, level_of, user_absent}
use Rattle.model.specs.Request.Form.{InRange}
use Rattle.model.specs.Request.Ladder.{refused}
use Rattle.model.specs.Request.OneWordLaws.{entity_insecure, insecure_entity, insecure_user, user_insecure}
use Rattle.model.specs.Request.Operations.{Op, clearance_effect, level_effect, row_of, to_acknowledge, to_authorised, to_clear, to_clearance, to_copy}
use Rattle.model.specs.Request.Operations.{to_create, to_current, to_delete, to_device_level, to_edit, to_grant, to_level, to_login, to_logout, to_mark}
use Rattle.model.specs.Request.Operations.{to_maximum, to_move, to_release, to_revoke, to_show}
use Rattle.model.proofs.Request.OwnTestLaws.{create_no_room_agrees, delete_forbidden_agrees, device_dropped_agrees, grant_no_room_agrees, lacks_agrees}
use Rattle.model.proofs.Request.OwnTestLaws.{level_dropped_agrees, login_taken_agrees, move_inside_agrees, move_no_room_agrees}
use Rattle.model.proofs.Request.OwnTestLaws.{not_acknowledged_agrees, roles_of_another_agrees, roles_off_agrees, show_above_agrees, show_no_room_agrees}
use Rattle.model.proofs.Request.OwnTestLaws.{show_unlabelled_agrees, user_absent_agrees}
use Rattle.model.specs.Request.RefusedLaws.{AllRefusals, refused_of}
use Rattle.model.specs.State.Secure.{Secure}
use Rattle.model.specs.State.WellFormed.{Holds, WellFormed}
use Rattle.model.specs.Tables.Kinds.{Screen, Terminal}
use Rattle.model.specs.Tables.Words.{Tables, absent_kind, clearance, container_kind, devices, entity_count, held, kinds, level, missed, places}
use Rattle.model.specs.Tables.Words.{present, released_type, type}
use Rattle.model.specs.Request.Refusals as refusal

-- What rungs 2, 5 and 10 leave when they do not apply.
pub record Suited (o : Op) (s : Asked) (d : Tables) : Type 0 where
  pub well_formed : WellFormed d
  pub arguments : InRange o s.a s.b s.c
  pub operands : (k : ℕ) → Operand o k → Suits o k d (operand s k)

-- The operation's refusal 11 does not apply, where n is a higher one.
abbrev pub Spoken : ℕ → Op → Asked → Tables → Type 0
Spoken n o s d = refusal.no_such_user < n → T (not (refused refusal.no_such_user (row_of o).conditions d s))

module _ (d : Tables) (s : Asked) where
  -- the container that a move names, and the terminal that a login names
  second_box : Suited to_move s d → kinds d s.second ≡ container_kind
  second_box h = (h.operands 2 (lit≤ tt, lit≤ tt)).1 refl

  terminal : Suited to_login s d → Terminal (kinds d s.first)
  terminal h = h.operands 1 (lit≤ tt, lit≤ tt)

  -- Rules 6.6, 6.15 and 6.18, 13: the tables as they would be are well-formed, so that the test of rule 4 says what it should of them.
  level_agrees : Suited to_level s d → Agrees (insecure level_effect d s) ((d' : Tables) → WithEntity s.first level s.a d d' → Secure d' → ⊥)
  level_agrees h = agrees_as (entity_insecure s.first level s.a d) (insecure_entity s.first level s.a d)
      (fails_agrees (insecure_fails d s level_effect
      (level_well_formed d h.well_formed s.first s.a (h.operands 1 (lit≤ tt, lit≤ tt)).0 h.arguments.0)))

  device_level_agrees : Suited to_device_level s d
      → Agrees (insecure level_effect d s) ((d' : Tables) → WithEntity s.first level s.a d d' → Secure d' → ⊥)
  device_level_agrees h =
      let k : Screen (kinds d s.first) = h.operands 1 (lit≤ tt, lit≤ tt) in
      agrees_as (entity_insecure s.first level s.a d) (insecure_entity s.first level s.a d)
      (fails_agrees (insecure_fails d s level_effect (level_well_formed d h.well_formed s.first s.a (omega arith) h.arguments.0)))

  clearance_agrees : Suited to_clearance s d → T (not (user_absent d s))
      → Agrees (insecure clearance_effect d s) ((d' : Tables) → WithUser s.a clearance s.b d d' → Secure d' → ⊥)
  clearance_agrees h n = agrees_as (user_insecure s.a clearance s.b d) (insecure_user s.a clearance s.b d)
      (fails_agrees (insecure_fails d s clearance_effect
      (clearance_well_formed d h.well_formed s.a s.b ((user_absent_fails d s).to n) h.arguments.1.0)))

  -- Each refusal of each row is stated (rules 6.1 to 6.20).
  refusal_stated : (o : Op) → Suited o s d → AllRefusals (row_of o).conditions (λ n c. Spoken n o s d → T (c d s) → Own s d o n)
  unfolding refused
  refusal_stated to_create h =
      (λ b t. create_above ((fails_agrees (create_above_fails d s)).to t), (λ b t. room ((create_no_room_agrees d s h.well_formed).to t), tt))
    where
      room : ((e : ℕ) → 1 ≤ e → e ≤ entity_count → kinds d e ≢ absent_kind) ⊎ Full (places d s.first) → Own s d to_create refusal.no_room
      room (inl f) = create_number f
      room (inr f) = create_place f
  refusal_stated to_delete h = (λ b t. kept ((delete_forbidden_agrees d s h.well_formed).to t), tt)
    where
      kept : ((c : ℕ) × Holds d s.first c) ⊎ (((v : ℕ) × Screen (kinds d v) × Holds d v s.first) ⊎ (d.entity s.first type ≡ released_type))
          → Own s d to_delete refusal.arrangement
      kept (inl z) = delete_filled z.0 z.1
      kept (inr (inl z)) = delete_shown z.0 z.1 z.2
      kept (inr (inr e)) = delete_released e
  refusal_stated to_move h = (
    λ b t. move_above ((fails_agrees (first_above_fails d s)).to t),
    (λ b t. move_full ((move_no_room_agrees d s h.well_formed (second_box h)).to t), (λ b t. move_inside ((move_inside_agrees d s h.well_formed).to t), tt)),
  )
  refusal_stated to_edit h = tt
  refusal_stated to_copy h = (λ b t. copy_above ((fails_agrees (first_above_fails d s)).to t), tt)
  refusal_stated to_level h = (
    λ b t. let z = (level_dropped_agrees d s).to t in level_dropped z.0 z.1,
    (λ b t. level_insecure ((level_agrees h).to t), tt),
  )
  refusal_stated to_mark h = tt
  refusal_stated to_grant h = (λ b t. grant_full ((grant_no_room_agrees d s).to t), tt)
  refusal_stated to_revoke h = tt
  refusal_stated to_show h = (
    λ b t. above ((show_above_agrees d s).to t),
    (
      λ b t. show_full ((show_no_room_agrees d s h.well_formed).to t),
      (λ b t. let z = (show_unlabelled_agrees d s).to t in show_unlabelled z.0 z.1, tt),
    ),
  )
    where
      above : (AtMost (level_of d s.first) (d.user s.user clearance) → ⊥) ⊎ (AtMost (level_of d s.first) (level_of d (own d s)) → ⊥)
          → Own s d to_show refusal.level_or_roles
      above (inl f) = show_uncleared f
      above (inr f) = show_above_screen f
  refusal_stated to_clear h = tt
  refusal_stated to_login h = (λ b t. taken ((login_taken_agrees d s h.well_formed (terminal h)).to t), tt)
    where
      taken : (own d s ≢ 0) ⊎ ((u : ℕ) × (devices d u ≡ s.first)) → Own s d to_login refusal.arrangement
      taken (inl n) = login_on n
      taken (inr z) = login_occupied z.0 z.1
  refusal_stated to_logout h = tt
  refusal_stated to_current h = (
    λ b t. off ((roles_off_agrees d s).to t),
    (
      λ b t. let z = (roles_of_another_agrees d s).to t in current_anothers z.0 z.1,
      (λ b t. current_unauthorised ((fails_agrees (roles_unauthorised_fails d s)).to t), tt),
    ),
  )
    where
      off : (d.user s.a present ≡ 0) ⊎ ((devices d s.a ≡ 0) × (s.b ≢ 0)) → Own s d to_current refusal.no_such_user
      off (inl e) = current_absent e
      off (inr z) = current_off z.0 z.1
  refusal_stated to_clearance h = (
    λ b t. clearance_absent ((user_absent_agrees d s).to t),
    (
      λ b t. clearance_role ((lacks_agrees d s officer).to t),
      (λ b t. clearance_insecure ((clearance_agrees h (b (lit< tt))).to t), tt),
    ),
  )
  refusal_stated to_authorised h = (
    λ b t. authorised_absent ((user_absent_agrees d s).to t),
    (
      λ b t. authorised_role ((lacks_agrees d s officer).to t),
      (λ b t. authorised_outside ((fails_agrees (current_outside_fails d s)).to t), tt),
    ),
  )
  refusal_stated to_maximum h = (
    λ b t. maximum_role ((lacks_agrees d s officer).to t),
    (λ b t. maximum_above ((fails_agrees (device_above_fails d s)).to t), tt),
  )
  refusal_stated to_device_level h = (
    λ b t. let z = (device_dropped_agrees d s).to t in device_dropped z.0 z.1.0 z.1.1,
    (λ b t. device_insecure ((device_level_agrees h).to t), tt),
  )
  refusal_stated to_release h = (λ b t. release_role ((lacks_agrees d s releasing).to t), tt)
  refusal_stated to_acknowledge h = (λ b t. missing ((not_acknowledged_agrees d s).to t), tt)
    where
      missing : (d.user s.user held ≡ 0) ⊎ ((s.a ≢ d.user s.user held) ⊎ (s.b ≢ d.user s.user missed))
          → Own s d to_acknowledge refusal.not_acknowledged
      missing (inl e) = acknowledge_nothing e
      missing (inr (inl n)) = acknowledge_other n
      missing (inr (inr n)) = acknowledge_number n

  -- Each statement is of a number from 11 to 16, and its row refuses that number.
  Earned : Op → ℕ → Type 0
  Earned o n = (refusal.no_such_user ≤ n) × (n ≤ refusal.not_acknowledged) × (Suited o s d → Spoken n o s d → T (refused n (row_of o).conditions d s))

  of_row : {o : Op} {n : ℕ} → T (leb refusal.no_such_user n && leb n refusal.not_acknowledged)
      → (Suited o s d → Spoken n o s d → T (refused n (row_of o).conditions d s)) → Earned o n
  unfolding Earned
  of_row {n = n} t f = let r = (agrees_and (agrees_le refusal.no_such_user n) (agrees_le n refusal.not_acknowledged)).to t in (r.0, r.1, f)

  earned : {o : Op} {n : ℕ} → Own s d o n → Earned o n
  unfolding refused
  earned (create_above f) = of_row tt (λ h b. (fails_agrees (create_above_fails d s)).from f)
  earned (create_number f) = of_row tt (λ h b. (create_no_room_agrees d s h.well_formed).from (inl f))
  earned (create_place f) = of_row tt (λ h b. (create_no_room_agrees d s h.well_formed).from (inr f))
  earned (delete_filled c m) = of_row tt (λ h b. (delete_forbidden_agrees d s h.well_formed).from (inl (c, m)))
  earned (delete_shown v k m) = of_row tt (λ h b. (delete_forbidden_agrees d s h.well_formed).from (inr (inl (v, k, m))))
  earned (delete_released e) = of_row tt (λ h b. (delete_forbidden_agrees d s h.well_formed).from (inr (inr e)))
  earned (move_above f) = of_row tt (λ h b. (fails_agrees (first_above_fails d s)).from f)
  earned (move_full f) = of_row tt (λ h b. (move_no_room_agrees d s h.well_formed (second_box h)).from f)
  earned (move_inside i) = of_row tt (λ h b. (move_inside_agrees d s h.well_formed).from i)
  earned (copy_above f) = of_row tt (λ h b. (fails_agrees (first_above_fails d s)).from f)
  earned (level_dropped l f) = of_row tt (λ h b. (level_dropped_agrees d s).from (l, f))
  earned (level_insecure f) = of_row tt (λ h b. (level_agrees h).from f)
  earned (grant_full f) = of_row tt (λ h b. (grant_no_room_agrees d s).from f)
  earned (show_uncleared f) = of_row tt (λ h b. (show_above_agrees d s).from (inl f))
  earned (show_above_screen f) = of_row tt (λ h b. (show_above_agrees d s).from (inr f))
  earned (show_full f) = of_row tt (λ h b. (show_no_room_agrees d s h.well_formed).from f)
  earned (show_unlabelled v l) = of_row tt (λ h b. (show_unlabelled_agrees d s).from (v, l))
  earned (login_on n) = of_row tt (λ h b. (login_taken_agrees d s h.well_formed (terminal h)).from (inl n))
  earned (login_occupied u e) = of_row tt (λ h b. (login_taken_agrees d s h.well_formed (terminal h)).from (inr (u, e)))
  earned (current_absent e) = of_row tt (λ h b. (roles_off_agrees d s).from (inl e))
  earned (current_off e n) = of_row tt (λ h b. (roles_off_agrees d s).from (inr (e, n)))
  earned (current_anothers n f) = of_row tt (λ h b. (roles_of_another_agrees d s).from (n, f))
  earned (current_unauthorised f) = of_row tt (λ h b. (fails_agrees (roles_unauthorised_fails d s)).from f)
  earned (clearance_absent e) = of_row tt (λ h b. (user_absent_agrees d s).from e)
  earned (clearance_role f) = of_row tt (λ h b. (lacks_agrees d s officer).from f)
  earned (clearance_insecure f) = of_row tt (λ h b. (clearance_agrees h (b (lit< tt))).from f)
  earned (authorised_absent e) = of_row tt (λ h b. (user_absent_agrees d s).from e)
  earned (authorised_role f) = of_row tt (λ h b. (lacks_agrees d s officer).from f)
  earned (authorised_outside f) = of_row tt (λ h b. (fails_agrees (current_outside_fails d s)).from f)
  earned (maximum_role f) = of_row tt (λ h b. (lacks_agrees d s officer).from f)
  earned (maximum_above f) = of_row tt (λ h b. (fails_agrees (device_above_fails d s)).from f)
  earned (device_dropped l n f) = of_row tt (λ h b. (device_dropped_agrees d s).from (l, (n, f)))
  earned (device_insecure f) = of_row tt (λ h b. (device_level_agrees h).from f)
  earned (release_role f) = of_row tt (λ h b. (lacks_agrees d s releasing).from f)
  earned (acknowledge_nothing e) = of_row tt (λ h b. (not_acknowledged_agrees d s).from (inl e))
  earned (acknowledge_other n) = of_row tt (λ h b. (not_acknowledged_agrees d s).from (inr (inl n)))
  earned (acknowledge_number n) = of_row tt (λ h b. (not_acknowledged_agrees d s).from (inr (inr n)))

  pub own_number : {o : Op} {n : ℕ} → Own s d o n → (refusal.no_such_user ≤ n) × (n ≤ refusal.not_acknowledged)
  unfolding Earned
  own_number z = ((earned z).0, (earned z).1)

  -- Rules 7.11 to 7.16: a number is refused exactly where its refusal is stated.
  pub own_agrees : (o : Op) (n : ℕ) → Suited o s d → Spoken n o s d → Agrees (refused n (row_of o).conditions d s) (Own s d o n)
  unfolding Earned
  own_agrees o n h b = record {
    to = λ t. let z = refused_of n (row_of o).conditions d s (λ n c. Spoken n o s d → T (c d s) → Own s d o n) (refusal_stated o h) t in z.1 b z.2;
    from = λ z. (earned z).2 h b;
  }
