-- Rule 7: the number of each refusal, and of an answer.
use Rattle.std.specs.Prelude.{Result, Ok, Err, ℕ}
use Rattle.names.specs.declared.refusal.Refusal.{Refusal}
use Rattle.names.specs.declared.refusal.Refused.{Refused}
use Rattle.names.specs.declared.refusal.Refusal.TheVariants.{BadLength, NotWellFormed, NotSecure, UnknownRequester, BadRequest, NotLoggedOn, NoSuchName}
use Rattle.names.specs.declared.refusal.Refusal.TheVariants.{NoAccess, Marked, WrongKind, NoSuchUser, RoleMissing, LevelOrRoles, NoRoom, Arrangement}
use Rattle.names.specs.declared.refusal.Refusal.TheVariants.{NotAcknowledged, TooShort, NotARequest}
use Rattle.model.specs.Request.Refusals as refusal

-- Rule 7: the refusals' numbers
abbrev pub number_of : Refusal → ℕ
number_of BadLength = refusal.bad_length
number_of NotWellFormed = refusal.not_well_formed
number_of NotSecure = refusal.not_secure
number_of UnknownRequester = refusal.unknown_requester
number_of BadRequest = refusal.bad_request
number_of NotLoggedOn = refusal.not_logged_on
number_of NoSuchName = refusal.no_such_name
number_of NoAccess = refusal.no_access
number_of Marked = refusal.marked
number_of WrongKind = refusal.wrong_kind
number_of NoSuchUser = refusal.no_such_user
number_of RoleMissing = refusal.role_missing
number_of LevelOrRoles = refusal.level_or_roles
number_of NoRoom = refusal.no_room
number_of Arrangement = refusal.arrangement
number_of NotAcknowledged = refusal.not_acknowledged
number_of TooShort = refusal.too_short
number_of NotARequest = refusal.not_a_request

-- Rule 7: an answer's number is that of its refusal, and 0 where nothing was refused
abbrev pub answer_number : {A : Type 0} → Result A Refusal → ℕ
answer_number (Ok x) = refusal.accepted
answer_number (Err r) = number_of r

-- Rule 8.6: the answer's number of a call that also tells a number, and that number: a count, or what goes with the refusal
abbrev pub refused_no : {A : Type 0} → Result A Refused → ℕ
refused_no (Ok x) = refusal.accepted
refused_no (Err e) = number_of e.by

abbrev pub told : Result ℕ Refused → ℕ
told (Ok n) = n
told (Err e) = e.number

-- the same of a call that tells nothing where it accepts
abbrev pub told_bare : {A : Type 0} → Result A Refused → ℕ
told_bare (Ok x) = 0
told_bare (Err e) = e.number
