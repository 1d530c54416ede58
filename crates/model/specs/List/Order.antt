-- Document 01, "The refusal ladder"; rule 10.5: the order of references, each a list of names.
use mathlib.Core.List.{List, Memᴰ, [], ◌∷◌}
use Rattle.std.specs.Prelude.{◌⊎◌, ◌≡◌, ◌<◌, ℕ}

-- One reference stands before another: its name is the smaller where they first differ, or the other continues it.
abbrev pub Before : List ℕ → List ℕ → Type 0
Before [] [] = ⊥
Before [] (y ∷ ys) = Unit {0}
Before (x ∷ xs) [] = ⊥
Before (x ∷ xs) (y ∷ ys) = (x < y) ⊎ ((x ≡ y) × Before xs ys)

-- Each reference of a list stands before all that follow it.
abbrev pub Sorted : List (List ℕ) → Type 0
Sorted [] = Unit {0}
Sorted (r ∷ rs) = ((s : List ℕ) → Memᴰ s rs → Before r s) × Sorted rs
