-- Document 01, "Request text"; rules 12.1 and 12.5: the tables as the bytes of a file.
use Rattle.std.specs.Prelude.{List, [], ◌∷◌, ◌%◌, ◌*◌, ◌+◌, ◌/◌, ℕ, eqb, get_or, length}
use Rattle.model.specs.Basics.Choice.{pick}
use Rattle.model.specs.Tables.Layout.{word_count}
use Rattle.model.specs.Tables.WordsOf.{first_values}

-- Rule 12.1: a word has four bytes, and the file 9,216.
abbrev pub word_bytes : ℕ
word_bytes = 4

abbrev pub file_bytes : ℕ
file_bytes = 9216

-- A byte is one of 256. The second, third and fourth byte of a word weigh so much.
abbrev pub byte_values : ℕ
byte_values = 256

abbrev pub second_weight : ℕ
second_weight = 256

abbrev pub third_weight : ℕ
third_weight = 65536

abbrev pub fourth_weight : ℕ
fourth_weight = 16777216

-- the word of four bytes, the lowest first
abbrev pub of_bytes : ℕ → ℕ → ℕ → ℕ → ℕ
of_bytes a b c d = a + second_weight * b + third_weight * c + fourth_weight * d

-- Rule 12.1: word i of the bytes s.
abbrev pub word_in : List ℕ → ℕ → ℕ
word_in s i = of_bytes (get_or s (word_bytes * i) 0) (get_or s (word_bytes * i + 1) 0) (get_or s (word_bytes * i + 2) 0) (get_or s (word_bytes * i + 3) 0)

-- Rules 12.1 and 12.5: the tables that a file gives. Where its size is another there are none, and so no request finds 2,304 words.
unfoldable pub state_of : List ℕ → List ℕ
state_of s = pick (eqb (length s) file_bytes) (first_values word_count (word_in s)) []

-- Rule 12.1: the bytes of some words, four a word and the lowest first.
unfoldable pub bytes_of : List ℕ → List ℕ
bytes_of [] = []
bytes_of (w ∷ ws) = (w % byte_values) ∷ (w / second_weight % byte_values) ∷ (w / third_weight % byte_values) ∷ (w / fourth_weight % byte_values) ∷ bytes_of ws
