use Rattle.op_users.specs.UserLaws.{clearance_in, clearance_tried, of_clearance}
use Rattle.op_users.proofs.clearance.Goals as goal

pub named_user-requires : goal.named_user-requires
named_user-requires c = of_clearance _ _ _ c.requires

pub try_clearance-requires : goal.try_clearance-requires
try_clearance-requires c = (clearance_in _ _ _ _ c.in_ok-a.ensures.is c.requires, c.requires.climbed.ready.good)

pub returns : goal.returns
returns c = clearance_tried _ _ _ c.requires _ c.in_ok-a.ensures _ c.b.ensures _ _ c.try_clearance.ensures
