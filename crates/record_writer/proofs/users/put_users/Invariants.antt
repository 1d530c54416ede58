use Rattle.lines.specs.Adds.{Adds}
use Rattle.model.specs.Tables.Layout.{tables_of}
use Rattle.tables_text.specs.TextOf.{series, user_text}
use Rattle.record_writer.proofs.users.put_users.Given as goal

abbrev pub invariant-loop-k : goal.invariant-loop-k
invariant-loop-k l = Adds (series l.k 1 (user_text (tables_of l.tables))) l.fn.out l.out
