-- An array as code begins with it.
use Rattle.std.specs.Prelude.{◌≡◌, refl, suc, zero, ℕ, get_or, replicate}

-- every word of a list of zeros is zero, and so is what is past its end
pub getD_zeros : (n i : ℕ) → get_or {A = ℕ} (replicate n 0) i 0 ≡ 0
getD_zeros zero i = refl
getD_zeros (suc n) zero = refl
getD_zeros (suc n) (suc i) = getD_zeros n i
