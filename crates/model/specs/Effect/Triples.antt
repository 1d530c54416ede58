-- Document 01, "The request and its operations"; rules 6.8 and 6.9: the effects on access triples.
use Rattle.std.specs.Prelude.{ℕ, ltb}
use Rattle.model.specs.Basics.Choice.{pick}
use Rattle.model.specs.Tables.Edits.{on_entity, row}
use Rattle.model.specs.Tables.Rows.{replace, seek, without}
use Rattle.model.specs.Tables.Words.{Tables, place_count, triple, triples}

-- a row of triples with t: as it is where t is there, else t in its first free place
abbrev pub granted : ℕ → (ℕ → ℕ) → ℕ → ℕ
granted t r = pick (ltb (seek t r place_count) place_count) r (replace (seek 0 r place_count) t r)

-- Rule 6.8: e has the triple t, last if it is new.
abbrev pub grant : ℕ → ℕ → Tables → Tables
grant e t d = on_entity e (row triple (granted t (triples d e))) d

-- Rule 6.9: e has the triple t no more; later ones close up.
abbrev pub revoke : ℕ → ℕ → Tables → Tables
revoke e t d = on_entity e (row triple (without t (triples d e) place_count)) d
