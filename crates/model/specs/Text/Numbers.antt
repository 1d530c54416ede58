-- Document 01, "Request text"; rule 11.2: a number as text, decimal and without leading zeros: how it is written, and how it is read.
use Rattle.std.specs.Prelude.{Bool, false, List, [], ◌∷◌, ◌%◌, ◌*◌, ◌+◌, ◌-◌, ◌/◌, suc, zero, ℕ, eqb, leb, ltb}
use Rattle.model.specs.Basics.Choice.{pick}

-- What reading the front of some bytes gives: a value and the bytes after it, or that there is none.
pub data Read (A : Type 0) : Type 0 where
  got : A → List ℕ → Read A
  bad : Read A

-- Rule 11.2: the largest number, that of 32 bits.
abbrev pub most : ℕ
most = 4294967295

-- how many digits it has, and what the numbers of so many digits stay below
abbrev pub digit_count : ℕ
digit_count = 10

abbrev pub digits_end : ℕ
digits_end = 10000000000

-- Rule 11.2: numbers are decimal.
abbrev pub base : ℕ
base = 10

-- the bytes of the digits 0 and 9
abbrev pub zero_byte : ℕ
zero_byte = 48

abbrev pub nine_byte : ℕ
nine_byte = 57

abbrev pub is_digit : ℕ → Bool
is_digit b = pick (ltb b zero_byte) false (leb b nine_byte)

-- the digits of n, at most k of them, in front of what follows
abbrev pub spell : ℕ → ℕ → List ℕ → List ℕ
spell zero n rest = rest
spell (suc k) n rest = pick (ltb n base) ((zero_byte + n) ∷ rest) (spell k (n / base) ((zero_byte + n % base) ∷ rest))

-- Rule 11.2: the digits of a number that has at most ten, as bytes.
unfoldable pub digits : ℕ → List ℕ
digits n = spell digit_count n []

-- what follows, where v was read so far
abbrev pub more : ℕ → List ℕ → Read ℕ
more v [] = got v []
more v (b ∷ bs) =
    pick (is_digit b)
    (pick (leb (v * base + (b - zero_byte)) most) (more (v * base + (b - zero_byte)) bs) bad)
    (got v (b ∷ bs))

-- Rule 11.2: a number at the front of some bytes: 0 alone, or digits of which the first is not 0. It is read as far as its digits go, and
-- so a digit after a leading 0 is left over.
abbrev pub number : List ℕ → Read ℕ
number [] = bad
number (b ∷ bs) = pick (is_digit b) (pick (eqb b zero_byte) (got 0 bs) (more (b - zero_byte) bs)) bad
