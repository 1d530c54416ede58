use Rattle.std.proofs.Common.{◌-◌, arith}
use Rattle.disclosure.specs.EntryLaws.{last_stored}
use Rattle.model.specs.Request.Words.{name_count}
use Rattle.disclosure.proofs.walk.put_last.Goals as goal

pub returns : goal.returns
returns c =
    last_stored c.args.room.now _ c.args.at (name_count - c.args.left) _ _ c.args.last _ (omega arith) (omega arith)
    (omega arith) c.requires.2 c.put_names.ensures
