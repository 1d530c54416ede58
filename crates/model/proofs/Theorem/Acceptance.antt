-- An answer 0 gives each condition that the effect relies on, for any tables of words and any request.
use Rattle.std.specs.Prelude.{false, not, ◌≡◌, ℕ, T}
use Rattle.std.proofs.Math.Option.{some}
use Rattle.model.specs.Basics.TestLaws.{is_false}
use Rattle.model.specs.Request.Allowed.{Accepted, Known, On}
use Rattle.model.specs.Request.Asked.{asked}
use Rattle.model.specs.Request.Form.{Fits}
use Rattle.model.specs.Request.Ladder.{answer, applies, ladder, leads_nowhere, no_access, not_cleared, not_logged_on, not_secure}
use Rattle.model.specs.Request.Ladder.{not_understood, not_well_formed, own_rung, refused, rung_at, unknown_user, wrong_kind}
use Rattle.model.specs.Request.LadderLaws.{answer_is}
use Rattle.model.proofs.Request.OperationLaws.{found_names}
use Rattle.model.specs.Request.Operations.{Op, op_of, row_of}
use Rattle.model.proofs.Request.RungLaws.{leads_nowhere_fails, no_access_fails, not_cleared_fails, not_logged_on_fails, not_secure_fails}
use Rattle.model.proofs.Request.RungLaws.{not_understood_fails, not_well_formed_fails, own_rung_fails, unknown_user_fails, wrong_kind_fails}
use Rattle.model.specs.Request.Words.{Request}
use Rattle.model.specs.State.Secure.{Good}
use Rattle.model.specs.State.WellFormed.{WellFormed}
use Rattle.model.specs.Tables.Layout.{Bounded}
use Rattle.model.specs.Tables.Words.{Tables}
use Rattle.model.proofs.Theorem.NoRefusal.{NoRefusal, no_refusal_allowed}
use Rattle.model.specs.Request.Refusals as refusal

-- Rules 7.2 and 7.3: where rungs 2 and 3 do not apply the tables are well-formed and secure.
pub judged : (d : Tables) (q : Request) → Bounded d → applies refusal.not_well_formed d q ≡ false → applies refusal.not_secure d q ≡ false → Good d
unfolding applies rung_at ladder
judged d q b e f =
    let w = (not_well_formed_fails d q b).to (is_false (not_well_formed d q) e) in
    (w, (not_secure_fails d q w).to (is_false (not_secure d q) f))

-- Rule 7.4: where rung 4 does not apply the requester is known.
pub requester_known : (d : Tables) (q : Request) → applies refusal.unknown_requester d q ≡ false → Known d q.user
unfolding applies rung_at ladder
requester_known d q e = (unknown_user_fails d q).to (is_false (unknown_user d q) e)

module _ (d : Tables) (q : Request) (e : answer d q ≡ refusal.accepted) where
  no : (n : ℕ) → applies n d q ≡ false
  no = (answer_is d q).accepted e

  -- Rules 7.2 and 7.3.
  pub accepted_good : Bounded d → Good d
  accepted_good b = judged d q b (no refusal.not_well_formed) (no refusal.not_secure)

  -- Rule 7.5.
  understood : (o : Op) × (op_of q.operation ≡ some o) × Fits o q
  unfolding applies rung_at ladder
  understood = (not_understood_fails d q).to (is_false (not_understood d q) (no refusal.bad_request))

  module _ (o : Op) (named : op_of q.operation ≡ some o) (f : Fits o q) where
    -- Rule 7.6.
    logged_on : On o d q.user
    unfolding applies rung_at ladder
    logged_on = (not_logged_on_fails d q o named).to (is_false (not_logged_on d q) (no refusal.not_logged_on))

    -- Rules 7.11 to 7.16: the operation's own conditions.
    own_clear : (n : ℕ) → own_rung n d q ≡ false → T (not (refused n (row_of o).conditions d (asked d q)))
    own_clear n h = (own_rung_fails d q o named n).to (is_false (own_rung n d q) h)

    no_refusal_lem : NoRefusal o (asked d q) d
    unfolding applies rung_at ladder asked
    no_refusal_lem = record {
      arguments = f.arguments;
      on = logged_on;
      kinds = (wrong_kind_fails d q o named).to (is_false (wrong_kind d q) (no refusal.wrong_kind));
      no11 = own_clear refusal.no_such_user (no refusal.no_such_user);
      no12 = own_clear refusal.role_missing (no refusal.role_missing);
      no13 = own_clear refusal.level_or_roles (no refusal.level_or_roles);
      no14 = own_clear refusal.no_room (no refusal.no_room);
      no15 = own_clear refusal.arrangement (no refusal.arrangement);
      no16 = own_clear refusal.not_acknowledged (no refusal.not_acknowledged);
    }

    accepted_by : WellFormed d → Accepted o d q
    unfolding applies rung_at ladder
    accepted_by w = record {
      meant = record {
        known = requester_known d q (no refusal.unknown_requester);
        named = found_names q o named;
        fitting = f;
        leading = (leads_nowhere_fails d q o named).to (is_false (leads_nowhere d q) (no refusal.no_such_name));
      };
      on = logged_on;
      permitted = (no_access_fails d q o named).to (is_false (no_access d q) (no refusal.no_access));
      cleared = (not_cleared_fails d q o named).to (is_false (not_cleared d q) (no refusal.marked));
      allowed = no_refusal_allowed d w (asked d q) o no_refusal_lem;
    }

  -- Every condition that an effect relies on.
  pub accepted : WellFormed d → (o : Op) × Accepted o d q
  accepted w = (understood.0, accepted_by understood.0 understood.1 understood.2 w)
