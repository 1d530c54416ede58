use Rattle.record_writer.specs.ChainLaws.{place_puts, place_room, place_room2, place_room3, place_room4}
use Rattle.record_writer.proofs.values.put_place.Goals as goal

pub put_bytes-requires : goal.put_bytes-requires
put_bytes-requires c =
    place_room c.args.e c.args.s c.args.out.now c.requires

pub put_number-requires : goal.put_number-requires
put_number-requires c =
    place_room2 c.args.e c.args.s c.args.out.now c.requires c.put_bytes.ensures

pub put_part-requires : goal.put_part-requires
put_part-requires c =
    place_room3 c.args.e c.args.s c.args.out.now c.requires c.put_bytes.ensures
    c.put_number.ensures

pub put_byte-requires : goal.put_byte-requires
put_byte-requires c =
    place_room4 c.args.e c.args.s c.args.out.now c.requires c.put_bytes.ensures c.put_number.ensures
    c.put_part.ensures

pub returns : goal.returns
returns c =
    place_puts c.args.e c.args.s c.args.out.now c.requires c.put_bytes.ensures c.put_number.ensures
    c.put_part.ensures c.put_byte.ensures
