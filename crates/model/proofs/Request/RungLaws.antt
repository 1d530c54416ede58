-- Where the rungs of the ladder do not apply: the statement that each of rules 7.2 to 7.16 stands for.
use Rattle.std.specs.Prelude.{Bool, ◌&&◌, ◌≢◌, ◌≡◌, ℕ}
use Rattle.std.proofs.Math.Bool.{not}
use Rattle.std.proofs.Math.Option.{some}
use Rattle.std.proofs.Common.{arith}
use Rattle.std.proofs.Math.Dec.{T, eqb}
use Rattle.model.specs.Basics.Agree.{agrees_T, agrees_and, agrees_eq, agrees_le, agrees_not}
use Rattle.model.specs.Basics.Fails.{Fails, fails_T, fails_agreed, fails_and, fails_as, fails_not, fails_where}
use Rattle.model.specs.Request.Allowed.{Known, On, Open, Operand, Permitted}
use Rattle.model.specs.Request.Asked.{asked, basis_of, operand}
use Rattle.model.proofs.Request.FitLaws.{fits_agrees, operands_taken}
use Rattle.model.specs.Request.Form.{Fits}
use Rattle.model.specs.Request.Ladder.{bars, fits, leads_nowhere, no_access, not_cleared, not_logged_on, not_secure, not_understood}
use Rattle.model.specs.Request.Ladder.{not_well_formed, of_op, own_rung, permits, refused, some_operand, unknown_user, wrong_kind}
use Rattle.model.specs.Request.LadderLaws.{AllOperands, of_op_agrees, of_op_fails, positions_fail, some_operand_fails}
use Rattle.model.proofs.Request.OperationLaws.{wants_device_agrees}
use Rattle.model.specs.Request.Operations.{Op, number_of, op_of, open_logged_off, row_of}
use Rattle.model.proofs.Request.TestLaws.{open_agrees, permits_agrees}
use Rattle.model.specs.Request.Words.{Request}
use Rattle.model.specs.State.Agree.{well_formed_agrees}
use Rattle.model.specs.State.AgreeSecure.{secure_agrees}
use Rattle.model.specs.State.Secure.{Secure}
use Rattle.model.specs.State.WellFormed.{WellFormed}
use Rattle.model.specs.Tables.Layout.{Bounded}
use Rattle.model.specs.Tables.Words.{Tables, clearance, devices, present, user_count}

module _ (d : Tables) (q : Request) where
  -- Rule 7.2: the tables are well-formed.
  pub not_well_formed_fails : Bounded d → Fails (not_well_formed d q) (WellFormed d)
  unfolding not_well_formed
  not_well_formed_fails b = fails_not (well_formed_agrees d b)

  -- Rule 7.3: well-formed tables are secure.
  pub not_secure_fails : WellFormed d → Fails (not_secure d q) (Secure d)
  unfolding not_secure
  not_secure_fails w = fails_not (secure_agrees d w)

  -- Rule 7.4: the requester is known.
  pub unknown_user_fails : Fails (unknown_user d q) (Known d q.user)
  unfolding unknown_user
  unknown_user_fails = fails_as (λ z. record { low = z.0.0; high = z.0.1; there = z.1 }) (λ z. ((z.low, z.high), z.there))
      (fails_not (agrees_and (agrees_and (agrees_le 1 q.user) (agrees_le q.user user_count)) (agrees_not (agrees_eq (d.user q.user present) 0))))

  -- Rule 7.5: the request names an operation, and fits it.
  pub not_understood_fails : Fails (not_understood d q) ((o : Op) × (op_of q.operation ≡ some o) × Fits o q)
  unfolding not_understood
  not_understood_fails = fails_as (λ z. (z.0, z.1, (fits_agrees z.0 q).to z.2)) (λ z. (z.0, z.1, (fits_agrees z.0 q).from z.2))
      (fails_not (of_op_agrees q (λ o. fits o q)))

  -- The further rungs are asked of the operation that is named.
  module _ (o : Op) (named : op_of q.operation ≡ some o) where
    -- a question put to each operand
    operands_fail : (p : Op → ℕ → Bool) (P : ℕ → Type 0) → ((k : ℕ) → Fails (p o k) (P k))
        → Fails (of_op q (λ o. some_operand 1 (row_of o).operands (λ k x. p o k))) ((k : ℕ) → Operand o k → P k)
    operands_fail p P f = of_op_fails q o named (λ o. some_operand 1 (row_of o).operands (λ k x. p o k))
        (fails_as (λ g k h. g k h.0 (omega (arith, h.1, operands_taken o))) (λ g k l h. g k (l, omega (arith, operands_taken o)))
        (positions_fail 1 (row_of o).operands (p o) P f))

    -- Rule 7.6: the requester is logged on, where the operation wants that.
    pub not_logged_on_fails : Fails (not_logged_on d q) (On o d q.user)
    unfolding not_logged_on
    not_logged_on_fails = of_op_fails q o named (λ o. not (open_logged_off o) && eqb (devices d q.user) 0)
        (fails_and (wants_device_agrees o) (fails_agreed (agrees_eq (devices d q.user) 0)))

    -- Rule 7.7: each reference leads somewhere.
    pub leads_nowhere_fails : Fails (leads_nowhere d q) ((k : ℕ) → Operand o k → operand (asked d q) k ≢ 0)
    unfolding leads_nowhere
    leads_nowhere_fails = operands_fail (λ o k. eqb (operand (asked d q) k) 0) (λ k. operand (asked d q) k ≢ 0)
        (λ k. fails_agreed (agrees_eq (operand (asked d q) k) 0))

    -- Rule 7.8: each operand permits it.
    pub no_access_fails : Fails (no_access d q) ((k : ℕ) → Operand o k → Permitted d q.user (number_of o) k (operand (asked d q) k))
    unfolding no_access
    no_access_fails = operands_fail (λ o k. not (permits d q.user (number_of o) k (operand (asked d q) k)))
        (λ k. Permitted d q.user (number_of o) k (operand (asked d q) k)) (λ k. fails_not (permits_agrees d q.user (number_of o) k (operand (asked d q) k)))

    -- Rule 7.9: the way to each operand is open.
    pub not_cleared_fails : Fails (not_cleared d q) ((k : ℕ) → Operand o k → Open d q.user (basis_of (asked d q) k))
    unfolding not_cleared
    not_cleared_fails =
        operands_fail (λ o k. bars d (d.user q.user clearance) (basis_of (asked d q) k)) (λ k. Open d q.user (basis_of (asked d q) k))
        (λ k. fails_where (bars d (d.user q.user clearance) (basis_of (asked d q) k)) (open_agrees d q.user (basis_of (asked d q) k)))

    -- Rule 7.10: each operand is of the kind that is asked.
    pub wrong_kind_fails : Fails (wrong_kind d q) (AllOperands 1 (row_of o).operands (λ k x. T (x d (operand (asked d q) k))))
    unfolding wrong_kind
    wrong_kind_fails = of_op_fails q o named (λ o. some_operand 1 (row_of o).operands (λ k x. not (x d (operand (asked d q) k))))
        (some_operand_fails 1 (row_of o).operands (λ k x. not (x d (operand (asked d q) k))) (λ k x. T (x d (operand (asked d q) k)))
        (λ k x. fails_not (agrees_T (x d (operand (asked d q) k)))))

    -- Rules 7.11 to 7.16: the operation's own condition of that number does not apply.
    pub own_rung_fails : (n : ℕ) → Fails (own_rung n d q) (T (not (refused n (row_of o).conditions d (asked d q))))
    unfolding own_rung
    own_rung_fails n =
        of_op_fails q o named (λ o. refused n (row_of o).conditions d (asked d q)) (fails_T (refused n (row_of o).conditions d (asked d q)))
