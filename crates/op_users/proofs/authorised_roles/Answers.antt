use Rattle.std.proofs.Common.{◌∙◌}
use Rattle.op_users.specs.UserLaws.{authorised_13, authorised_done, authorised_in, of_authorised}
use Rattle.op_users.proofs.authorised_roles.Goals as goal

pub named_user-requires : goal.named_user-requires
named_user-requires c = of_authorised _ _ _ c.requires

pub current-requires : goal.current-requires
current-requires c = authorised_in _ _ _ _ c.in_ok-a.ensures.is c.requires

pub returns-then-not-roles_within : goal.returns-then-not-roles_within
returns-then-not-roles_within c =
    authorised_13 _ _ _ c.requires _ c.in_ok-a.ensures _ c.b-b.ensures _ (c.roles_within.ensures ∙ rw c.current.ensures)
    c.if-not-roles_within.true

pub set_authorised-requires : goal.set_authorised-requires
set_authorised-requires c = authorised_in _ _ _ _ c.in_ok-a.ensures.is c.requires

pub returns : goal.returns
returns c =
    authorised_done _ _ _ c.requires _ c.in_ok-a.ensures _ c.b-b.ensures _ (c.roles_within.ensures ∙ rw c.current.ensures)
    c.if-not-roles_within.false _ c.set_authorised.ensures
