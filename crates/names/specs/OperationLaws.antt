-- Rule 6: which numbers are read as operations; and a choice over the code's operations leaves none of the model's over.
use Rattle.std.specs.Prelude.{◌≡◌, ◌≤◌, ℕ}
use Rattle.std.proofs.Math.Option.{Option, none, some}
use Rattle.std.proofs.Common.{◌∙◌, ap, arith, refl}
use Rattle.model.proofs.Request.OperationLaws.{number_op_of, number_range, op_of_number}
use Rattle.model.specs.Request.Operations as model
use Rattle.model.specs.Tables.Words.{operation_count}
use Rattle.names.specs.Operations.{meant}
use Rattle.names.specs.declared.op.Op.{Op}
use Rattle.names.specs.declared.op.Op.TheVariants.{Create, Delete, Move, Edit, Copy, SetLevel, SetMark, Grant, Revoke, Show, Clear, Login, Logout}
use Rattle.names.specs.declared.op.Op.TheVariants.{CurrentRoles, Clearance, AuthorisedRoles, Maximum, DeviceLevel, Release, Acknowledge}

-- a number out of their range is read as none
pub read_as_none : (n : ℕ) → (1 ≤ n → n ≤ operation_count → ⊥) → model.op_of n ≡ none
read_as_none n h = go (model.op_of n) refl
  where
    go : (m : Option model.Op) → model.op_of n ≡ m → m ≡ none
    go none e = refl
    go (some o) e =
        let k = op_of_number n o e in
        let r = number_range o in
        absurd (h (omega arith) (omega arith))

-- an operation's number is read as that operation
pub read_as : (n : ℕ) (o : Op) → n ≡ model.number_of (meant o) → model.op_of n ≡ some (meant o)
read_as n o e = ap model.op_of e ∙ number_op_of (meant o)

-- every operation of the model is one of the code's
pub all_meant : (o : model.Op) → (p : Op) × (meant p ≡ o)
all_meant model.to_create = (Create, refl)
all_meant model.to_delete = (Delete, refl)
all_meant model.to_move = (Move, refl)
all_meant model.to_edit = (Edit, refl)
all_meant model.to_copy = (Copy, refl)
all_meant model.to_level = (SetLevel, refl)
all_meant model.to_mark = (SetMark, refl)
all_meant model.to_grant = (Grant, refl)
all_meant model.to_revoke = (Revoke, refl)
all_meant model.to_show = (Show, refl)
all_meant model.to_clear = (Clear, refl)
all_meant model.to_login = (Login, refl)
all_meant model.to_logout = (Logout, refl)
all_meant model.to_current = (CurrentRoles, refl)
all_meant model.to_clearance = (Clearance, refl)
all_meant model.to_authorised = (AuthorisedRoles, refl)
all_meant model.to_maximum = (Maximum, refl)
all_meant model.to_device_level = (DeviceLevel, refl)
all_meant model.to_release = (Release, refl)
all_meant model.to_acknowledge = (Acknowledge, refl)
