-- Document 01, "The tables"; rule 2.3: the rows of a record read as lists: what stands in its used places, what is shown of each, and its access
-- triples; and how such a list is shortened by one entry. Nothing here says how a row is edited.
use mathlib.Core.List.{List, Memᴰ, [], ◌++◌, ◌∷◌}
use Rattle.std.specs.Prelude.{◌≡◌, suc, zero, ℕ}
use Rattle.model.specs.Tables.Words.{Tables, place_count, places, sums, triples, used_places}
use Rattle.model.specs.Tables.WordsOf.{first_values}

-- Rule 3.4: what stands in x, a container or a screen: its used places in order.
abbrev pub contents : Tables → ℕ → List ℕ
contents d x = first_values (used_places d x) (places d x)

-- Rule 2.4: how much x shows of each of them, in the same order.
abbrev pub content_sums : Tables → ℕ → List ℕ
content_sums d x = first_values (used_places d x) (sums d x)

-- the numbers of a list that are not zero, in order
unfoldable pub nonzero : List ℕ → List ℕ
nonzero [] = []
nonzero (zero ∷ l) = nonzero l
nonzero (suc n ∷ l) = suc n ∷ nonzero l

-- Rule 3.5: the access triples of x: those of its eight words that are not zero, in order.
abbrev pub access_list : Tables → ℕ → List ℕ
access_list d x = nonzero (first_values place_count (triples d x))

-- Rule 6, closing up: a list after the entry v was taken out of it.
pub record TakenOut (v : ℕ) (before after : List ℕ) : Type 0 where
  -- what stood before v stands first, what stood behind v follows, both in their order; v alone is gone
  pub closed : (p s : List ℕ) → before ≡ p ++ (v ∷ s) → after ≡ p ++ s
  -- where v did not stand, the list is the same
  pub kept : (Memᴰ v before → ⊥) → after ≡ before
