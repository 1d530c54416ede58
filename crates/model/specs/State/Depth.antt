-- Document 01, "The tables"; rule 3.14: "inside at any depth", over any relation H b a, which says that a stands directly in b.
use Rattle.std.specs.Prelude.{◌⊎◌, ◌≡◌, ℕ}

pub data Inside (H : ℕ → ℕ → Type 0) : ℕ → ℕ → Type 0 where
  direct : {a b : ℕ} → H b a → Inside H a b
  deeper : {a b c : ℕ} → Inside H a b → H c b → Inside H a c

-- it, or inside it
abbrev pub Within : (ℕ → ℕ → Type 0) → ℕ → ℕ → Type 0
Within H a b = (a ≡ b) ⊎ Inside H a b
