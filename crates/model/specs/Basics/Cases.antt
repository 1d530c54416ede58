-- How a proof goes on in two cases. What is taken apart stands first, so that its type is known in both.
use Rattle.std.specs.Prelude.{Bool, false, true, ◌⊎◌, ◌≡◌, refl, ◌<◌, ◌≤◌, ℕ, ltb}
use Rattle.std.proofs.Common.{inl, inr, ltb-false, ltb-true}

pub cases : {P Q C : Type 0} → P ⊎ Q → (P → C) → (Q → C) → C
cases (inl p) f g = f p
cases (inr q) f g = g q

-- which of two numbers is less
pub lt_or_le : (a b : ℕ) → (a < b) ⊎ (b ≤ a)
lt_or_le a b = go (ltb a b) refl
  where
    go : (t : Bool) → ltb a b ≡ t → (a < b) ⊎ (b ≤ a)
    go true e = inl (ltb-true a b e)
    go false e = inr (ltb-false a b e)

pub true_or_false : (t : Bool) → (t ≡ true) ⊎ (t ≡ false)
true_or_false true = inl refl
true_or_false false = inr refl
