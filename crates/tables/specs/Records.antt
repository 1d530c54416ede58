-- What the words of a kind of record have in common.
use Rattle.std.specs.Prelude.{List, ◌≡◌, ◌*◌, ◌+◌, ◌-◌, ◌<◌, ◌≤◌, ℕ, get_or, set}
use Rattle.model.specs.Tables.Layout.{tables_of, word_count}
use Rattle.model.specs.Tables.Words.{Tables}
use Rattle.tables.specs.Singles.{RecordIn, single_count}

-- where word f of record n stands: the first record begins at `begin`
abbrev pub spot : (begin width n f : ℕ) → ℕ
spot begin width n f = begin + (n - 1) * width + f

-- A kind of record of words W: the word at each place is read there and stored there, and its first words are its single ones.
pub record RecordLaws {W : Type 0} (begin width count : ℕ) (at single : ℕ → W) (read : Tables → ℕ → W → ℕ)
    (stored : ℕ → W → ℕ → Tables → Tables) : Type 0 where
  pub inside : (n f : ℕ) → 1 ≤ n → n ≤ count → f < width → spot begin width n f < word_count
  pub reads : (t : List ℕ) (n f : ℕ) → RecordIn count t n → f < width → get_or t (spot begin width n f) 0 ≡ read (tables_of t) n (at f)
  pub stores : (t : List ℕ) (n f v : ℕ) → RecordIn count t n → f < width
      → tables_of (set t (spot begin width n f) v) ≡ stored n (at f) v (tables_of t)
  pub singles : (f : ℕ) → f < single_count → (f < width) × (at f ≡ single f)
