-- Rule 7: no refusal has the number of an accepted request.
use Rattle.std.specs.Prelude.{◌≤◌}
use Rattle.std.proofs.Common.{lit≤}
use Rattle.names.specs.Refusals.{number_of}
use Rattle.names.specs.declared.refusal.Refusal.{Refusal}
use Rattle.names.specs.declared.refusal.Refusal.TheVariants.{BadLength, NotWellFormed, NotSecure, UnknownRequester, BadRequest, NotLoggedOn, NoSuchName}
use Rattle.names.specs.declared.refusal.Refusal.TheVariants.{NoAccess, Marked, WrongKind, NoSuchUser, RoleMissing, LevelOrRoles, NoRoom, Arrangement}
use Rattle.names.specs.declared.refusal.Refusal.TheVariants.{NotAcknowledged, TooShort, NotARequest}

pub refusal_some : (r : Refusal) → 1 ≤ number_of r
refusal_some BadLength = lit≤ tt
refusal_some NotWellFormed = lit≤ tt
refusal_some NotSecure = lit≤ tt
refusal_some UnknownRequester = lit≤ tt
refusal_some BadRequest = lit≤ tt
refusal_some NotLoggedOn = lit≤ tt
refusal_some NoSuchName = lit≤ tt
refusal_some NoAccess = lit≤ tt
refusal_some Marked = lit≤ tt
refusal_some WrongKind = lit≤ tt
refusal_some NoSuchUser = lit≤ tt
refusal_some RoleMissing = lit≤ tt
refusal_some LevelOrRoles = lit≤ tt
refusal_some NoRoom = lit≤ tt
refusal_some Arrangement = lit≤ tt
refusal_some NotAcknowledged = lit≤ tt
refusal_some TooShort = lit≤ tt
refusal_some NotARequest = lit≤ tt
