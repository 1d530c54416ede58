-- Reading a number at an index, by the tests of its bytes.
use Rattle.std.specs.Prelude.{◌⊎◌, false, true, List, ◌≡◌, refl, Some, None, ◌*◌, ◌+◌, ◌-◌, ◌<◌, ◌≤◌, ℕ, eqb, drop, get_or, length}
use Rattle.std.proofs.Common.{◌∙◌, sym, zero-le, add-one, arith, drop_of_length-le, drop-cons, eqb-true, le-leb, le-ltb, lt-ltb, ne_eqb}
use Rattle.std.proofs.lemmas.Bool.{eqb-false, lt-leb}
use Rattle.lines.specs.NumberAt.{NumberAt}
use Rattle.lines.specs.declared.reading.Number.{Number}
use Rattle.model.specs.Basics.Cases.{cases, true_or_false}
use Rattle.model.specs.Text.Numbers.{bad, got, is_digit, more, most, nine_byte, number, zero_byte}

-- the byte at an index
abbrev pub byte : List ℕ → ℕ → ℕ
byte s i = get_or s i 0

-- which bytes are digits
pub low : (b : ℕ) → b < zero_byte → is_digit b ≡ false
low b h = rw (lt-ltb b zero_byte h)

pub high : (b : ℕ) → nine_byte < b → is_digit b ≡ false
high b h = rw (le-ltb b zero_byte (omega arith), lt-leb b nine_byte h)

pub digit : (b : ℕ) → zero_byte ≤ b → b ≤ nine_byte → is_digit b ≡ true
digit b h l = rw (le-ltb b zero_byte h, le-leb b nine_byte l)

pub other : (b : ℕ) → (b < zero_byte) ⊎ (nine_byte < b) → is_digit b ≡ false
other b h = cases h (low b) (high b)

-- no number is read, or one is
pub number_bad : {s : List ℕ} {at : ℕ} → number (drop at s) ≡ bad → NumberAt s at None
number_bad e = record { is = sym e; within = zero-le }

pub number_got : {s : List ℕ} {at v i : ℕ} {r : Number} → r ≡ record { v = v; next = i } → i ≤ length s → number (drop at s) ≡ got v (drop i s)
    → NumberAt s at (Some r)
number_got e h g = rw e (record { is = sym g; within = h })

module _ (s : List ℕ) (i : ℕ) where
  -- the first byte: there is none, or it is no digit
  pub number_end : length s ≤ i → number (drop i s) ≡ bad
  number_end h = rw (drop_of_length-le s {i = i} h)

  pub number_other : i < length s → is_digit (byte s i) ≡ false → number (drop i s) ≡ bad
  number_other l h = rw (drop-cons s i 0 l, h)

  -- or it is 0, and then the number is 0
  pub number_zero : i < length s → byte s i ≡ zero_byte → number (drop i s) ≡ got 0 (drop (i + 1) s)
  number_zero l e = rw (add-one, drop-cons s i 0 l, e)

  -- or another digit, and then more may follow
  pub number_first : {b : ℕ} → i < length s → b ≡ byte s i → zero_byte ≤ b → b ≤ nine_byte → (b ≡ zero_byte → ⊥)
      → number (drop i s) ≡ more (b - zero_byte) (drop (i + 1) s)
  number_first {b} l e h g n = rw (add-one, drop-cons s i 0 l, ← e, digit b h g, ne_eqb b zero_byte n)

  -- a further byte: there is none, or it is no digit
  pub more_end : (v : ℕ) → length s ≤ i → more v (drop i s) ≡ got v (drop i s)
  more_end v h = rw (drop_of_length-le s {i = i} h)

  pub more_other : (v : ℕ) → i < length s → is_digit (byte s i) ≡ false → more v (drop i s) ≡ got v (drop i s)
  more_other v l h = rw (drop-cons s i 0 l, h)

  -- or a digit, with which the number is too large
  pub more_over : (v : ℕ) → i < length s → zero_byte ≤ byte s i → byte s i ≤ nine_byte → most < v * 10 + (byte s i - zero_byte)
      → more v (drop i s) ≡ bad
  more_over v l h g o = rw (drop-cons s i 0 l, digit (byte s i) h g, lt-leb (v * 10 + (byte s i - zero_byte)) most o)

  -- or still fits
  pub more_turn : (v : ℕ) → i < length s → zero_byte ≤ byte s i → byte s i ≤ nine_byte → v * 10 + (byte s i - zero_byte) ≤ most
      → more v (drop i s) ≡ more (v * 10 + (byte s i - zero_byte)) (drop (i + 1) s)
  more_turn v l h g o = rw (add-one, drop-cons s i 0 l, digit (byte s i) h g, le-leb (v * 10 + (byte s i - zero_byte)) most o)

-- a digit in front of a byte that is none is the whole number
pub number_one : (s : List ℕ) (i : ℕ) → i + 1 < length s → zero_byte ≤ byte s i → byte s i ≤ nine_byte → is_digit (byte s (i + 1)) ≡ false
    → number (drop i s) ≡ got (byte s i - zero_byte) (drop (i + 1) s)
number_one s i l h g e =
    cases (true_or_false (eqb (byte s i) zero_byte))
    (λ z. let q : byte s i ≡ zero_byte = eqb-true (byte s i) zero_byte z in number_zero s i (omega arith) q ∙ rw q)
    (λ n. number_first s i (omega arith) refl h g (eqb-false (byte s i) zero_byte n) ∙ more_other s (i + 1) (byte s i - zero_byte) l e)
