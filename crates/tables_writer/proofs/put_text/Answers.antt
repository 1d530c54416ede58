use Rattle.record_writer.specs.ChainLaws.{text_adds, text_room, text_room2}
use Rattle.tables_writer.proofs.put_text.Goals as goal

pub put_users-requires : goal.put_users-requires
put_users-requires c = (c.requires.0.long, text_room c.args.tables.now c.args.out.now c.requires.1)

pub put_entities-requires : goal.put_entities-requires
put_entities-requires c = (c.requires.0, text_room2 c.args.tables.now c.args.out.now c.requires.1 c.put_users.ensures)

pub returns : goal.returns
returns c = text_adds c.args.tables.now c.args.out.now c.requires.1 c.put_users.ensures c.put_entities.ensures
