-- Rule 11.2: a part of a number's digits that is always as long.
use Rattle.std.specs.Prelude.{List, [], ◌∷◌, ◌%◌, ◌+◌, ◌/◌, ℕ}
use Rattle.model.specs.Text.Numbers.{zero_byte}

-- the digits of a number below 10,000, with zeros in front of it where it has fewer than four
unfoldable pub four : ℕ → List ℕ
four n = (zero_byte + n / 1000) ∷ (zero_byte + n / 100 % 10) ∷ (zero_byte + n / 10 % 10) ∷ (zero_byte + n % 10) ∷ []
