use Rattle.std.proofs.Common.{◌∙◌}
use Rattle.op_users.specs.UserLaws.{current_11, current_12, current_13, current_done, current_in}
use Rattle.op_users.proofs.current_roles.Goals as goal

pub present-requires : goal.present-requires
present-requires c = current_in _ _ _ _ c.a.ensures c.requires

pub device-requires : goal.device-requires
device-requires c = current_in _ _ _ _ c.a.ensures c.requires

pub returns-then-present-device : goal.returns-then-present-device
returns-then-present-device c =
    current_11 _ _ _ c.requires _ _ _ _ c.a.ensures c.b-b.ensures c.present.ensures c.device.ensures c.if-present-device.true

pub returns-then-ne-has_role : goal.returns-then-ne-has_role
returns-then-ne-has_role c =
    current_12 _ _ _ c.requires _ _ _ _ c.a.ensures c.b-b.ensures c.present.ensures c.device.ensures c.if-present-device.false _
    c.has_role.ensures (rw c.ne.ensures at c.if-ne-has_role.true)

pub returns-then-not-roles_within : goal.returns-then-not-roles_within
returns-then-not-roles_within c =
    current_13 _ _ _ c.requires _ _ _ _ c.a.ensures c.b-b.ensures c.present.ensures c.device.ensures c.if-present-device.false _
    c.has_role.ensures (rw c.ne.ensures at c.if-ne-has_role.false) _ (c.roles_within.ensures ∙ rw c.authorised.ensures)
    c.if-not-roles_within.true

pub returns : goal.returns
returns c =
    current_done _ _ _ c.requires _ _ _ _ c.a.ensures c.b-b.ensures c.present.ensures c.device.ensures c.if-present-device.false _
    c.has_role.ensures (rw c.ne.ensures at c.if-ne-has_role.false) _ (c.roles_within.ensures ∙ rw c.authorised.ensures) c.if-not-roles_within.false _
    c.set_current.ensures
