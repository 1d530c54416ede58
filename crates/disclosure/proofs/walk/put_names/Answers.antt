use Rattle.disclosure.specs.EntryLaws.{names_stored}
use Rattle.disclosure.proofs.walk.put_names.Goals as goal

pub returns : goal.returns
returns c = names_stored c.args.room.now c.args.at c.args.n c.args.names c.requires.1
