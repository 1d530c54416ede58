use Rattle.std.proofs.Common.{◌-◌}
use Rattle.lines.specs.Adds.{Adds}
use Rattle.model.specs.Tables.Layout.{tables_of}
use Rattle.tables_text.specs.TextOf.{series}
use Rattle.record_writer.specs.FieldAt.{user_line_at}
use Rattle.record_writer.proofs.users.put_user_lines.Given as goal

abbrev pub invariant-loop-j : goal.invariant-loop-j
invariant-loop-j l = Adds (series (l.j - 1) 1 (user_line_at (tables_of l.tables) l.u.0)) l.fn.out l.out
