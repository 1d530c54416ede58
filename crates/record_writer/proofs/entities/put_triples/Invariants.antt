use Rattle.lines.specs.Adds.{Adds}
use Rattle.model.specs.Tables.Layout.{tables_of}
use Rattle.tables_text.specs.TextOf.{series, triple_at}
use Rattle.record_writer.proofs.entities.put_triples.Given as goal

abbrev pub invariant-loop-k : goal.invariant-loop-k
invariant-loop-k l = Adds (series l.k 0 (triple_at (tables_of l.tables) l.e.0)) l.fn.out l.out
