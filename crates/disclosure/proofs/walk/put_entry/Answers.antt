use Rattle.std.proofs.Common.{◌-◌, arith}
use Rattle.disclosure.specs.EntryLaws.{entry_stored}
use Rattle.model.specs.Request.Words.{name_count}
use Rattle.disclosure.proofs.walk.put_entry.Goals as goal

pub returns : goal.returns
returns c =
    entry_stored c.args.room.now _ c.args.at (name_count - c.args.left) _ (omega arith) c.requires.1
    c.put_names.ensures
