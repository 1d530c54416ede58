use Rattle.record_writer.specs.ChainLaws.{triple_puts, triple_room, triple_room2, triple_room3, triple_room4, triple_room5}
use Rattle.record_writer.proofs.values.put_triple.Goals as goal

pub put_bytes-requires : goal.put_bytes-requires
put_bytes-requires c =
    triple_room c.args.x c.args.out.now
    c.requires

pub put_number-requires : goal.put_number-requires
put_number-requires c =
    triple_room2 c.args.x c.args.out.now c.requires c.put_bytes.ensures

pub put_part-requires : goal.put_part-requires
put_part-requires c =
    triple_room3 c.args.x c.args.out.now c.requires c.put_bytes.ensures
    c.put_number.ensures

pub put_part-requires-2 : goal.put_part-requires-2
put_part-requires-2 c =
    triple_room4 c.args.x c.args.out.now c.requires c.put_bytes.ensures c.put_number.ensures
    c.put_part.ensures

pub put_byte-requires : goal.put_byte-requires
put_byte-requires c =
    triple_room5 c.args.x c.args.out.now c.requires c.put_bytes.ensures c.put_number.ensures
    c.put_part.ensures c.put_part-2.ensures

pub returns : goal.returns
returns c =
    triple_puts c.args.x c.args.out.now c.requires c.put_bytes.ensures c.put_number.ensures
    c.put_part.ensures c.put_part-2.ensures c.put_byte.ensures
