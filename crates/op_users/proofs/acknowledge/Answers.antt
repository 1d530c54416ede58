use Rattle.std.proofs.Common.{◌∙◌}
use Rattle.op_users.specs.UserLaws.{acknowledge_16, acknowledge_done}
use Rattle.op_users.proofs.acknowledge.Goals as goal

pub returns-then-h-a : goal.returns-then-h-a
returns-then-h-a c =
    acknowledge_16 _ _ _ c.requires _ _ _ _ c.a.ensures c.b.ensures c.held-h.ensures c.missed.ensures
    c.if-h-a.true

pub returns : goal.returns
returns c =
    acknowledge_done _ _ _ c.requires _ _ _ _ c.a.ensures c.b.ensures c.held-h.ensures c.missed.ensures c.if-h-a.false _
    (c.set_held.ensures ∙ rw (c.set_held_op.ensures, c.set_missed.ensures))
