use Rattle.std.proofs.Common.{◌∙◌}
use Rattle.model.specs.Request.Asked.{has_role}
use Rattle.tables.proofs.users.has_role.Goals as goal

pub returns : goal.returns
unfolding has_role
returns c = c.has_bit.ensures ∙ rw c.current.ensures
