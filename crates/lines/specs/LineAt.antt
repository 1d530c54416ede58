-- What reading a key, or a line with a number, at an index of some bytes answers.
use Rattle.std.specs.Prelude.{List, ◌≡◌, ◌≤◌, Some, None, Option, ℕ, drop, length}
use Rattle.lines.specs.NumberAt.{next_of, number_of}
use Rattle.lines.specs.declared.reading.Number.{Number}
use Rattle.model.specs.Text.Lines.{behind, read_line}
use Rattle.model.specs.Text.Numbers.{Read, bad, got, number}

-- what an answer says of the bytes s: the bytes from its index on, or that the key does not stand there
abbrev pub found_of : List ℕ → Option ℕ → Read (Unit {0})
found_of s (Some i) = got tt (drop i s)
found_of s None = bad

-- where reading goes on
abbrev pub end_of : Option ℕ → ℕ
end_of (Some i) = i
end_of None = 0

-- the answer r for a key, and it leads no further than to the end of the bytes s
pub record KeyAt (s : List ℕ) (at : ℕ) (key : List ℕ) (r : Option ℕ) : Type 0 where
  pub is : found_of s r ≡ behind key (drop at s)
  pub within : end_of r ≤ length s

-- Rule 11.1: the answer r for a line with that key and a number.
pub record LineAt (s : List ℕ) (at : ℕ) (key : List ℕ) (r : Option Number) : Type 0 where
  pub is : number_of s r ≡ read_line key number (drop at s)
  pub within : next_of r ≤ length s
