-- What reading a number at an index of some bytes answers.
use Rattle.std.specs.Prelude.{List, ◌≡◌, ◌<◌, ◌≤◌, Some, None, Option, ℕ, drop, length}
use Rattle.lines.specs.declared.reading.Digits.{Digits}
use Rattle.lines.specs.declared.reading.Number.{Number}
use Rattle.model.specs.Text.Numbers.{Read, bad, got, more, most, number}

-- what an answer says of the bytes s: the value and the bytes from its index on, or that there is none
abbrev pub number_of : List ℕ → Option Number → Read ℕ
number_of s (Some x) = got x.v (drop x.next s)
number_of s None = bad

-- where reading goes on
abbrev pub next_of : Option Number → ℕ
next_of (Some x) = x.next
next_of None = 0

-- Rule 11.2: the answer r for the bytes s from an index on, and it leads no further than to their end.
pub record NumberAt (s : List ℕ) (at : ℕ) (r : Option Number) : Type 0 where
  pub is : number_of s r ≡ number (drop at s)
  pub within : next_of r ≤ length s

-- The same rule: what the digits from an index on make of a number that has begun with v. It fits, and the answer leads no further than to the
-- end of the bytes, or it is too large.
pub record DigitsAt (s : List ℕ) (at v : ℕ) (r : Digits) : Type 0 where
  pub fits : r.v ≤ most → (more v (drop at s) ≡ got r.v (drop r.end s)) × (r.end ≤ length s)
  pub over : most < r.v → more v (drop at s) ≡ bad
