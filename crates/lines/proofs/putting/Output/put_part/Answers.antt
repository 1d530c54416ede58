use Rattle.std.proofs.Common.{[], ◌∷◌}
use Rattle.model.specs.Text.Numbers.{digits}
use Rattle.model.specs.Text.References.{dot_byte}
use Rattle.lines.specs.AddsLaws.{adds_both, adds_room}
use Rattle.lines.proofs.putting.Output.put_part.Goals as goal

pub put_number-requires : goal.put_number-requires
put_number-requires c = adds_room {s = dot_byte ∷ []} (digits c.args.v) c.requires c.put_byte.ensures

pub returns : goal.returns
returns c = adds_both {s = dot_byte ∷ []} {t = digits c.args.v} c.requires c.put_byte.ensures c.put_number.ensures
