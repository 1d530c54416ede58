-- What reading names at an index of some bytes, into the front of a room, answers.
use Rattle.std.specs.Prelude.{List, ◌≡◌, Some, None, Option, ◌-◌, ◌≤◌, ℕ, drop, length, take}
use Rattle.model.specs.Request.Words.{name_count}
use Rattle.model.specs.Text.Numbers.{Read, bad, got}
use Rattle.request_reader.specs.declared.Names.{Names}

-- so many names may follow the first of a reference
abbrev pub further_most : ℕ
further_most = name_count - 1

-- what an answer says of the bytes s, where p stands in the room: the names and the bytes after them, or that there are none
abbrev pub names_of : List ℕ → List ℕ → Option Names → Read (List ℕ)
names_of s p (Some x) = got (take x.n p) (drop x.end s)
names_of s p None = bad

abbrev pub count_of : Option Names → ℕ
count_of (Some x) = x.n
count_of None = 0

-- where reading goes on
abbrev pub last_of : Option Names → ℕ
last_of (Some x) = x.end
last_of None = 0

-- where names were read, the room after them is as it was
abbrev pub Kept : List ℕ → List ℕ → Option Names → Type 0
Kept o p (Some x) = drop x.n p ≡ drop x.n o
Kept o p None = Unit {0}

-- The answer r of the reading x of the bytes s, at most k names, in the room o, which is now p.
pub record NamesIs (s : List ℕ) (x : Read (List ℕ)) (k : ℕ) (o p : List ℕ) (r : Option Names) : Type 0 where
  pub is : names_of s p r ≡ x
  pub within : last_of r ≤ length s
  pub few : count_of r ≤ k
  pub kept : Kept o p r
