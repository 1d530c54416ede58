use Rattle.std.proofs.Common.{◌-◌, arith, refl}
use Rattle.model.specs.Script.Windows.{report_bytes}
use borrow.Author.Tests.{lt-leb}
use Rattle.script.proofs.windows.had_room.Goals as goal

pub returns-then-len-n : goal.returns-then-len-n
returns-then-len-n c = rw (lt-leb report_bytes (c.args.len - c.args.n) (omega (arith, c.if-len-n.true))) refl
