-- Document 01, "The refusal ladder"; rule 10.6: how many continuations there can be by at most k further names, and how many entries a list
-- can have.
use Rattle.std.specs.Prelude.{◌*◌, ◌+◌, pred, suc, zero, ℕ}
use Rattle.model.specs.Request.Words.{name_count}
use Rattle.model.specs.Tables.Words.{entity_count, place_count}

-- one by no name, and for each of eight places those by one name fewer: 1, 9, 73, 585
abbrev pub reach : ℕ → ℕ
reach zero = 1
reach (suc k) = 1 + place_count * reach k

-- each of 64 first names, with at most three after it: 37,440
abbrev pub most_entries : ℕ
most_entries = entity_count * reach (pred name_count)
