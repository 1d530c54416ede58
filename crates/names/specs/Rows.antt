-- Rule 2.3: the number of each row of an entity, which is how many rows come before it.
use Rattle.std.specs.Prelude.{ℕ}
use Rattle.names.specs.declared.row.Row.{Row}
use Rattle.names.specs.declared.row.Row.TheVariants.{Places, Sums, Triples}

abbrev pub row_number : Row → ℕ
row_number Places = 0
row_number Sums = 1
row_number Triples = 2
