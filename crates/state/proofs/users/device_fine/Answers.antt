use Rattle.std.proofs.Common.{arith}
use Rattle.state.specs.UserLaws.{on_alone, on_none, on_other}
use Rattle.state.proofs.users.device_fine.Goals as goal

pub returns-then-n-eq0 : goal.returns-then-n-eq0
returns-then-n-eq0 c = on_none _ _ _ c.device-d.ensures c.if-n-eq0.true

pub returns-then-not-is_terminal : goal.returns-then-not-is_terminal
returns-then-not-is_terminal c =
    on_other _ _ _ c.device-d.ensures c.if-n-eq0.false _ c.kind_or_zero.ensures _
    c.is_terminal.ensures c.if-not-is_terminal.true

pub returns : goal.returns
returns c =
    on_alone _ _ _ c.device-d.ensures c.if-n-eq0.false _ c.kind_or_zero.ensures _ c.is_terminal.ensures
    c.if-not-is_terminal.false _ (omega arith) _ c.nobody_on.ensures
