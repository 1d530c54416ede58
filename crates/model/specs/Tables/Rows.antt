-- Document 01, "The tables"; rules 3.4 and 3.5: a row of places, of which the used ones come first and are distinct, and the rest is zero; and what
-- can be done to a row.
use Rattle.std.specs.Prelude.{◌≢◌, ◌⊎◌, ◌≡◌, ◌<◌, ◌≤◌, pred, suc, zero, ℕ, eqb, ltb}
use Rattle.model.specs.Basics.Choice.{pick}
use Rattle.model.specs.Tables.Words.{place_count}

-- the first n places are used
pub record Packed (row : ℕ → ℕ) (n : ℕ) : Type 0 where
  pub room : n ≤ place_count
  pub used : (i : ℕ) → i < n → 1 ≤ row i
  pub rest : (i : ℕ) → n ≤ i → row i ≡ 0
  pub distinct : (i j : ℕ) → i < n → j < n → row i ≡ row j → i ≡ j

-- c stands in one of the first n places
abbrev pub Member : (ℕ → ℕ) → ℕ → ℕ → Type 0
Member row n c = (i : ℕ) × (i < n) × (row i ≡ c)

-- v at place k
abbrev pub replace : ℕ → ℕ → (ℕ → ℕ) → ℕ → ℕ
replace k v row i = pick (eqb i k) v (row i)

-- place k is taken out, and the later ones close up
abbrev pub close : ℕ → (ℕ → ℕ) → ℕ → ℕ
close k row i = pick (ltb i k) (row i) (row (suc i))

-- the first place with v among n, or n
unfoldable pub seek : ℕ → (ℕ → ℕ) → ℕ → ℕ
seek v row zero = zero
seek v row (suc n) = pick (eqb (row zero) v) zero (suc (seek v (λ i. row (suc i)) n))

-- where `seek` has stopped: at v, or past the end of a row without v
abbrev pub Sought : ℕ → (ℕ → ℕ) → ℕ → ℕ → Type 0
Sought v row n k = ((k < n) × (row k ≡ v)) ⊎ ((k ≡ n) × ((i : ℕ) → i < n → row i ≢ v))

-- the row without v, and how many it then has; the same row where v is not in it
abbrev pub without : ℕ → (ℕ → ℕ) → ℕ → ℕ → ℕ
without v row n = close (seek v row n) row

abbrev pub left : ℕ → (ℕ → ℕ) → ℕ → ℕ
left v row n = pick (ltb (seek v row n) n) (pred n) n
