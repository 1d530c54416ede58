-- How far a row of stores has come.
use Rattle.std.specs.Prelude.{ℕ, ltb}
use Rattle.model.specs.Tables.Edits.{Edit}
use Rattle.model.specs.Tables.Layout.{offset}
use Rattle.model.specs.Tables.Words.{EntityWord, Tables, triple, triples}
use Rattle.rows.specs.Rows.{stored_to}

-- the triples of e, those of c as far as i
abbrev pub copied_to : ℕ → ℕ → Tables → ℕ → Tables
copied_to e c d i = stored_to triple e (triples d c) d i

-- the first f words of a record set to zero
abbrev pub blank_to : ℕ → Edit EntityWord
blank_to f = record { touched = λ g. ltb (offset g) f; value = λ g. 0 }
