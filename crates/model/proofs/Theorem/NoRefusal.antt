-- An operation whose own rungs do not apply, on operands of the right kinds and arguments in their ranges, is allowed (rungs 5 and 10 to 16).
use Rattle.std.specs.Prelude.{not, ◌≡◌, ℕ, T}
use Rattle.std.proofs.Common.{arith}
use Rattle.model.specs.Effect.WordsLaws.{clearance_well_formed, level_well_formed}
use Rattle.model.specs.Level.{officer, releasing}
use Rattle.model.specs.Request.Allowed.{Allowed, On}
use Rattle.model.specs.Request.Asked.{Asked, named_triple, operand}
use Rattle.model.proofs.Request.ConditionLaws.{any_agrees, container_agrees, create_above_fails, create_no_room_fails}
use Rattle.model.proofs.Request.ConditionLaws.{current_outside_fails, delete_forbidden_fails, device_agrees, device_above_fails}
use Rattle.model.proofs.Request.ConditionLaws.{device_dropped_fails, draft_agrees, first_above_fails, grant_no_room_fails, insecure_fails}
use Rattle.model.proofs.Request.ConditionLaws.{lacks_fails, level_dropped_fails, login_taken_fails, move_inside_fails, move_no_room_fails}
use Rattle.model.proofs.Request.ConditionLaws.{not_acknowledged_fails, roles_of_another_fails, roles_off_fails, roles_unauthorised_fails}
use Rattle.model.proofs.Request.ConditionLaws.{show_above_fails, show_no_room_fails, show_unlabelled_fails, thing_agrees, user_absent_fails}
use Rattle.model.specs.Request.Form.{Between, InRange}
use Rattle.model.specs.Request.Ladder.{refused}
use Rattle.model.specs.Request.LadderLaws.{AllOperands}
use Rattle.model.proofs.Request.OperationLaws.{clear_wants, logout_wants, show_wants}
use Rattle.model.specs.Request.Operations.{Op, clearance_effect, level_effect, row_of, to_acknowledge, to_authorised, to_clear, to_clearance}
use Rattle.model.specs.Request.Operations.{to_copy, to_create, to_current, to_delete, to_device_level, to_edit, to_grant, to_level, to_login}
use Rattle.model.specs.Request.Operations.{to_logout, to_mark, to_maximum, to_move, to_release, to_revoke, to_show}
use Rattle.model.specs.State.WellFormed.{GoodTriple, WellFormed}
use Rattle.model.specs.Tables.Words.{Tables, operation_count, operation_in, position_count, position_of, triple_of, who_most, who_of}
use Rattle.model.specs.Request.Refusals as refusal

-- What rungs 5, 6 and 10 to 16 leave when they do not apply.
pub record NoRefusal (o : Op) (s : Asked) (d : Tables) : Type 0 where
  pub arguments : InRange o s.a s.b s.c
  pub on : On o d s.user
  pub kinds : AllOperands 1 (row_of o).operands (λ k x. T (x d (operand s k)))
  pub no11 : T (not (refused refusal.no_such_user (row_of o).conditions d s))
  pub no12 : T (not (refused refusal.role_missing (row_of o).conditions d s))
  pub no13 : T (not (refused refusal.level_or_roles (row_of o).conditions d s))
  pub no14 : T (not (refused refusal.no_room (row_of o).conditions d s))
  pub no15 : T (not (refused refusal.arrangement (row_of o).conditions d s))
  pub no16 : T (not (refused refusal.not_acknowledged (row_of o).conditions d s))

-- a triple made of three numbers in their ranges is a good one
triple_good : (w o p : ℕ) → Between 1 who_most w → Between 1 operation_count o → Between 1 position_count p → GoodTriple (triple_of w o p)
triple_good w o p hw ho hp =
    let a : who_of (triple_of w o p) ≡ w = omega arith in
    let b : operation_in (triple_of w o p) ≡ o = omega arith in
    let c : position_of (triple_of w o p) ≡ p = omega arith in
    record { who = rw a hw; operation = rw b ho; position = rw c hp }

-- arguments in the ranges of operations 8 and 9 name a good triple
named_good : (s : Asked) → InRange to_grant s.a s.b s.c → GoodTriple (named_triple s)
named_good s r = triple_good s.a s.b s.c r.0 r.1.0 r.1.1

module _ (d : Tables) (w : WellFormed d) (s : Asked) where
  -- What rungs 5, 6 and 10 to 16 leave is what each of the twenty operations asks (rules 6.1 to 6.20).
  pub no_refusal_allowed : (o : Op) → NoRefusal o s d → Allowed o s d
  unfolding refused
  no_refusal_allowed to_create h =
      let r = (create_no_room_fails d s).to h.no14 in
      record {
        box = (container_agrees d s.first).to h.kinds.0;
        sort = h.arguments.0;
        level_in = h.arguments.1.0;
        low = (create_above_fails d s).to h.no13;
        number = r.0;
        room = r.1;
      }
  no_refusal_allowed to_delete h =
      let f = (delete_forbidden_fails d s w).to h.no15 in
      record { thing = (thing_agrees d s.first).to h.kinds.0; empty = f.0; unseen = f.1.0; kept = f.1.1 }
  no_refusal_allowed to_move h = record {
    thing = (thing_agrees d s.first).to h.kinds.0;
    box = (container_agrees d s.second).to h.kinds.1.0;
    low = (first_above_fails d s).to h.no13;
    room = (move_no_room_fails d s).to h.no14;
    apart = (move_inside_fails d s w).to h.no15;
  }
  no_refusal_allowed to_edit h = (thing_agrees d s.first).to h.kinds.0
  no_refusal_allowed to_copy h = record {
    thing = (thing_agrees d s.first).to h.kinds.0;
    thing₂ = (thing_agrees d s.second).to h.kinds.1.0;
    low = (first_above_fails d s).to h.no13;
  }
  no_refusal_allowed to_level h =
      let t = (thing_agrees d s.first).to h.kinds.0 in
      let l = h.arguments.0 in
      record {
        thing = t;
        level_in = l;
        downgrade = (level_dropped_fails d s).to h.no12;
        secure = (insecure_fails d s level_effect (level_well_formed d w s.first s.a t.0 l)).to h.no13;
      }
  no_refusal_allowed to_mark h = record { box = (container_agrees d s.first).to h.kinds.0; flag = h.arguments.0 }
  no_refusal_allowed to_grant h = record {
    here = (any_agrees d s.first).to h.kinds.0;
    good = named_good s h.arguments;
    room = (grant_no_room_fails d s).to h.no14;
  }
  no_refusal_allowed to_revoke h = record { here = (any_agrees d s.first).to h.kinds.0; good = named_good s h.arguments }
  no_refusal_allowed to_show h =
      let l = (show_above_fails d s).to h.no13 in
      record {
        on = h.on show_wants;
        thing = (thing_agrees d s.first).to h.kinds.0;
        sum = h.arguments.0;
        low = l.1;
        clear = l.0;
        label = (show_unlabelled_fails d s).to h.no15;
        room = (show_no_room_fails d s).to h.no14;
      }
  no_refusal_allowed to_clear h = h.on clear_wants
  no_refusal_allowed to_login h =
      let k = (device_agrees d s.first).to h.kinds.0 in
      let f = (login_taken_fails d s w k).to h.no15 in
      record { terminal = k; off = f.0; free = f.1 }
  no_refusal_allowed to_logout h = h.on logout_wants
  no_refusal_allowed to_current h =
      let p = (roles_off_fails d s).to h.no11 in
      record {
        present = p.0;
        roles_in = h.arguments.1.0;
        off = p.1;
        officer = (roles_of_another_fails d s).to h.no12;
        authorised = (roles_unauthorised_fails d s).to h.no13;
      }
  no_refusal_allowed to_clearance h =
      let p = (user_absent_fails d s).to h.no11 in
      let l = h.arguments.1.0 in
      record {
        present = p;
        level_in = l;
        officer = (lacks_fails d s officer).to h.no12;
        secure = (insecure_fails d s clearance_effect (clearance_well_formed d w s.a s.b p l)).to h.no13;
      }
  no_refusal_allowed to_authorised h = record {
    present = (user_absent_fails d s).to h.no11;
    roles_in = h.arguments.1.0;
    officer = (lacks_fails d s officer).to h.no12;
    within = (current_outside_fails d s).to h.no13;
  }
  no_refusal_allowed to_maximum h = record {
    screen = (device_agrees d s.first).to h.kinds.0;
    level_in = h.arguments.0;
    officer = (lacks_fails d s officer).to h.no12;
    low = (device_above_fails d s).to h.no13;
  }
  no_refusal_allowed to_device_level h =
      let k = (device_agrees d s.first).to h.kinds.0 in
      let l = h.arguments.0 in
      record {
        screen = k;
        level_in = l;
        downgrade = (device_dropped_fails d s).to h.no12;
        secure = (insecure_fails d s level_effect (level_well_formed d w s.first s.a (omega arith) l)).to h.no13;
      }
  no_refusal_allowed to_release h =
      let k = (draft_agrees d s.first).to h.kinds.0 in
      record { box = k.0; draft = k.1; releaser = (lacks_fails d s releasing).to h.no12 }
  no_refusal_allowed to_acknowledge h =
      let n = (not_acknowledged_fails d s).to h.no16 in
      record { holding = n.0; refusal = n.1.0; missed = n.1.1 }
