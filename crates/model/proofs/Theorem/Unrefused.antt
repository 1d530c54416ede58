-- An operation that is allowed has operands of the right kinds, and none of its own conditions applies (rungs 10 to 16).
use Rattle.std.specs.Prelude.{not, ℕ, T}
use Rattle.std.proofs.Common.{arith}
use Rattle.model.specs.Effect.WordsLaws.{clearance_well_formed, level_well_formed}
use Rattle.model.specs.Level.{officer, releasing}
use Rattle.model.specs.Request.Allowed.{Allowed}
use Rattle.model.specs.Request.Asked.{Asked, operand}
use Rattle.model.proofs.Request.ConditionLaws.{any_agrees, container_agrees, create_above_fails, create_no_room_fails}
use Rattle.model.proofs.Request.ConditionLaws.{current_outside_fails, delete_forbidden_fails, device_agrees, device_above_fails}
use Rattle.model.proofs.Request.ConditionLaws.{device_dropped_fails, draft_agrees, first_above_fails, grant_no_room_fails, insecure_fails}
use Rattle.model.proofs.Request.ConditionLaws.{lacks_fails, level_dropped_fails, login_taken_fails, move_inside_fails, move_no_room_fails}
use Rattle.model.proofs.Request.ConditionLaws.{not_acknowledged_fails, roles_of_another_fails, roles_off_fails, roles_unauthorised_fails}
use Rattle.model.proofs.Request.ConditionLaws.{show_above_fails, show_no_room_fails, show_unlabelled_fails, thing_agrees, user_absent_fails}
use Rattle.model.specs.Request.Ladder.{refused}
use Rattle.model.specs.Request.LadderLaws.{AllOperands}
use Rattle.model.specs.Request.Operations.{Op, clearance_effect, level_effect, row_of, to_acknowledge, to_authorised}
use Rattle.model.specs.Request.Operations.{to_clear, to_clearance, to_copy, to_create, to_current, to_delete, to_device_level, to_edit}
use Rattle.model.specs.Request.Operations.{to_grant, to_level, to_login, to_logout, to_mark, to_maximum, to_move, to_release, to_revoke}
use Rattle.model.specs.Request.Operations.{to_show}
use Rattle.model.specs.Request.RefusedLaws.{AllRefusals, refused_none}
use Rattle.model.specs.State.WellFormed.{WellFormed}
use Rattle.model.specs.Tables.Words.{Tables}

-- What rungs 10 to 16 leave when they do not apply.
pub record Unrefused (o : Op) (s : Asked) (d : Tables) : Type 0 where
  pub kinds : AllOperands 1 (row_of o).operands (λ k x. T (x d (operand s k)))
  pub own : (n : ℕ) → T (not (refused n (row_of o).conditions d s))

module _ (d : Tables) (w : WellFormed d) (s : Asked) where
  -- Each of the twenty (rules 6.1 to 6.20): the kinds of its operands, and its own conditions in the order of the table.
  parts : (o : Op) → Allowed o s d
      → AllOperands 1 (row_of o).operands (λ k x. T (x d (operand s k))) × AllRefusals (row_of o).conditions (λ k c. T (not (c d s)))
  parts to_create h = (
    ((container_agrees d s.first).from h.box, tt),
    ((create_above_fails d s).from h.low, ((create_no_room_fails d s).from (h.number, h.room), tt)),
  )
  parts to_delete h = (((thing_agrees d s.first).from h.thing, tt), ((delete_forbidden_fails d s w).from (h.empty, (h.unseen, h.kept)), tt))
  parts to_move h = (
    ((thing_agrees d s.first).from h.thing, ((container_agrees d s.second).from h.box, tt)),
    ((first_above_fails d s).from h.low, ((move_no_room_fails d s).from h.room, ((move_inside_fails d s w).from h.apart, tt))),
  )
  parts to_edit h = (((thing_agrees d s.first).from h, tt), tt)
  parts to_copy h = (
    ((thing_agrees d s.first).from h.thing, ((thing_agrees d s.second).from h.thing₂, tt)),
    ((first_above_fails d s).from h.low, tt),
  )
  parts to_level h =
      let i = (insecure_fails d s level_effect (level_well_formed d w s.first s.a h.thing.0 h.level_in)).from h.secure in
      (((thing_agrees d s.first).from h.thing, tt), ((level_dropped_fails d s).from h.downgrade, (i, tt)))
  parts to_mark h = (((container_agrees d s.first).from h.box, tt), tt)
  parts to_grant h = (((any_agrees d s.first).from h.here, tt), ((grant_no_room_fails d s).from h.room, tt))
  parts to_revoke h = (((any_agrees d s.first).from h.here, tt), tt)
  parts to_show h = (
    ((thing_agrees d s.first).from h.thing, tt),
    ((show_above_fails d s).from (h.clear, h.low), ((show_no_room_fails d s).from h.room, ((show_unlabelled_fails d s).from h.label, tt))),
  )
  parts to_clear h = (tt, tt)
  parts to_login h = (((device_agrees d s.first).from h.terminal, tt), ((login_taken_fails d s w h.terminal).from (h.off, h.free), tt))
  parts to_logout h = (tt, tt)
  parts to_current h =
      let r = (roles_unauthorised_fails d s).from h.authorised in
      (tt, ((roles_off_fails d s).from (h.present, h.off), ((roles_of_another_fails d s).from h.officer, (r, tt))))
  parts to_clearance h =
      let i = (insecure_fails d s clearance_effect (clearance_well_formed d w s.a s.b h.present h.level_in)).from h.secure in
      (tt, ((user_absent_fails d s).from h.present, ((lacks_fails d s officer).from h.officer, (i, tt))))
  parts to_authorised h =
      let c = (current_outside_fails d s).from h.within in
      (tt, ((user_absent_fails d s).from h.present, ((lacks_fails d s officer).from h.officer, (c, tt))))
  parts to_maximum h = (
    ((device_agrees d s.first).from h.screen, tt),
    ((lacks_fails d s officer).from h.officer, ((device_above_fails d s).from h.low, tt)),
  )
  parts to_device_level h =
      let i = (insecure_fails d s level_effect (level_well_formed d w s.first s.a (omega arith) h.level_in)).from h.secure in
      (((device_agrees d s.first).from h.screen, tt), ((device_dropped_fails d s).from h.downgrade, (i, tt)))
  parts to_release h = (((draft_agrees d s.first).from (h.box, h.draft), tt), ((lacks_fails d s releasing).from h.releaser, tt))
  parts to_acknowledge h = (tt, ((not_acknowledged_fails d s).from (h.holding, (h.refusal, h.missed)), tt))

-- What is allowed is refused by none of rungs 10 to 16.
pub allowed_unrefused : (o : Op) (d : Tables) → WellFormed d → (s : Asked) → Allowed o s d → Unrefused o s d
allowed_unrefused o d w s h =
    let z = parts d w s o h in
    record { kinds = z.0; own = λ n. refused_none n (row_of o).conditions d s z.1 }
