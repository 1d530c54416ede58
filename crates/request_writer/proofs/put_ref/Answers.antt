use Rattle.std.proofs.Common.{[], ◌++◌, ◌∷◌}
use Rattle.lines.specs.AddsLaws.{adds_both, adds_room}
use Rattle.lines.specs.PutsLaws.{room_first}
use Rattle.model.specs.Text.Lines.{line, line_end}
use Rattle.model.specs.Text.References.{joined}
use Rattle.request_writer.proofs.put_ref.Goals as goal

pub put_bytes-requires : goal.put_bytes-requires
unfolding line
put_bytes-requires c = room_first c.args.key.now (joined c.args.names.now ++ (line_end ∷ [])) _ c.requires

pub put_names-requires : goal.put_names-requires
unfolding line
put_names-requires c =
    room_first (joined c.args.names.now) (line_end ∷ []) _ (adds_room (joined c.args.names.now ++ (line_end ∷ [])) c.requires c.put_bytes.ensures)

pub put_byte-requires : goal.put_byte-requires
unfolding line
put_byte-requires c =
    adds_room (line_end ∷ []) (adds_room (joined c.args.names.now ++ (line_end ∷ [])) c.requires c.put_bytes.ensures) c.put_names.ensures

pub returns : goal.returns
unfolding line
returns c =
    adds_both c.requires c.put_bytes.ensures
    (adds_both (adds_room (joined c.args.names.now ++ (line_end ∷ [])) c.requires c.put_bytes.ensures) c.put_names.ensures c.put_byte.ensures)
