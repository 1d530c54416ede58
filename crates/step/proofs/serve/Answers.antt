use Rattle.std.specs.Prelude.{refl}
use Rattle.names.specs.declared.op.Op.TheVariants.{Acknowledge, AuthorisedRoles, Clear, Clearance, CurrentRoles, Logout}
use Rattle.step.specs.DispatchLaws.{for_none}
use Rattle.step.proofs.serve.Goals as goal

pub clear-requires : goal.clear-requires
clear-requires c = for_none _ Clear c.in-Clear.is c.requires.0 c.requires.1 refl

pub logout-requires : goal.logout-requires
logout-requires c = for_none _ Logout c.in-Logout.is c.requires.0 c.requires.1 refl

pub current_roles-requires : goal.current_roles-requires
current_roles-requires c = for_none _ CurrentRoles c.in-CurrentRoles.is c.requires.0 c.requires.1 refl

pub clearance-requires : goal.clearance-requires
clearance-requires c = for_none _ Clearance c.in-Clearance.is c.requires.0 c.requires.1 refl

pub authorised_roles-requires : goal.authorised_roles-requires
authorised_roles-requires c = for_none _ AuthorisedRoles c.in-AuthorisedRoles.is c.requires.0 c.requires.1 refl

pub acknowledge-requires : goal.acknowledge-requires
acknowledge-requires c = for_none _ Acknowledge c.in-Acknowledge.is c.requires.0 c.requires.1 refl
