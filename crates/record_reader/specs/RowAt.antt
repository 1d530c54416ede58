-- What reading the line of a place or of a triple at an index of some bytes answers.
use Rattle.std.specs.Prelude.{List, ◌≡◌, Some, None, Option, ◌≤◌, ℕ, drop, length}
use Rattle.lines.specs.NumberAt.{next_of, number_of}
use Rattle.lines.specs.declared.reading.Number.{Number}
use Rattle.model.specs.Text.Lines.{read_line}
use Rattle.model.specs.Text.Numbers.{Read, bad, got}
use Rattle.record_reader.specs.declared.rows.Placed.{Placed}
use Rattle.tables_text.specs.Keys.{content_key, triple_key}
use Rattle.tables_text.specs.Values.{Place, dot_number, read_place, read_triple}

-- the answer r for a number after a dot
pub record DotAt (s : List ℕ) (at : ℕ) (r : Option Number) : Type 0 where
  pub is : number_of s r ≡ dot_number (drop at s)
  pub within : next_of r ≤ length s

-- what an answer for a place says of the bytes s
abbrev pub placed_of : List ℕ → Option Placed → Read Place
placed_of s (Some x) = got (record { entity = x.entity; sum = x.sum }) (drop x.next s)
placed_of s None = bad

-- where reading goes on
abbrev pub after_of : Option Placed → ℕ
after_of (Some x) = x.next
after_of None = 0

-- Rule 16.2: the answer r for the line of a place,
pub record PlaceAt (s : List ℕ) (at : ℕ) (r : Option Placed) : Type 0 where
  pub is : placed_of s r ≡ read_line content_key read_place (drop at s)
  pub within : after_of r ≤ length s

-- and for that of a triple.
pub record TripleAt (s : List ℕ) (at : ℕ) (r : Option Number) : Type 0 where
  pub is : number_of s r ≡ read_line triple_key read_triple (drop at s)
  pub within : next_of r ≤ length s
