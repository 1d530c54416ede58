-- Rule 6: the operation of the model that each of the code's is, and what reads a number as one of them.
use Rattle.std.specs.Prelude.{MatchResult, Result, ◌≡◌, ℕ}
use Rattle.std.proofs.Math.Option.{none}
use Rattle.names.specs.declared.op.Op.{Op}
use Rattle.names.specs.declared.op.Op.TheVariants.{Create, Delete, Move, Edit, Copy, SetLevel, SetMark, Grant, Revoke, Show, Clear, Login, Logout}
use Rattle.names.specs.declared.op.Op.TheVariants.{CurrentRoles, Clearance, AuthorisedRoles, Maximum, DeviceLevel, Release, Acknowledge}
use Rattle.names.specs.declared.op.Position.{Position}
use Rattle.names.specs.declared.op.Position.TheVariants.{First, Second}
use Rattle.names.specs.declared.op.UnknownOperation.{UnknownOperation}
use Rattle.model.specs.Request.Operations as model
use Rattle.model.specs.Tables.Words.{position_count}

abbrev pub meant : Op → model.Op
meant Create = model.to_create
meant Delete = model.to_delete
meant Move = model.to_move
meant Edit = model.to_edit
meant Copy = model.to_copy
meant SetLevel = model.to_level
meant SetMark = model.to_mark
meant Grant = model.to_grant
meant Revoke = model.to_revoke
meant Show = model.to_show
meant Clear = model.to_clear
meant Login = model.to_login
meant Logout = model.to_logout
meant CurrentRoles = model.to_current
meant Clearance = model.to_clearance
meant AuthorisedRoles = model.to_authorised
meant Maximum = model.to_maximum
meant DeviceLevel = model.to_device_level
meant Release = model.to_release
meant Acknowledge = model.to_acknowledge

-- a number is read as the operation that it is the number of, and refused where it is none's
abbrev pub Decodes : ℕ → Result Op UnknownOperation → Type 0
Decodes n r = MatchResult r (λ o. n ≡ model.number_of (meant o)) (λ e. (e.0 ≡ n) × (model.op_of n ≡ none))

-- Rule 3.22: the positions of operands, from 1 on
abbrev pub position_of : Position → ℕ
position_of First = 1
position_of Second = position_count
