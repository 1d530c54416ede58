-- How many lines end in some bytes (rule 16.5): in the line of a value exactly one, since neither its key nor its value has an LF.
use Rattle.std.specs.Prelude.{List, [], ◌++◌, ◌∷◌, ◌≡◌, refl, ◌%◌, ◌+◌, ◌/◌, suc, zero, ℕ}
use Rattle.std.proofs.Common.{arith, le-ltb, lt-ltb, ne_eqb}
use Rattle.model.specs.Basics.Cases.{cases, lt_or_le}
use Rattle.model.specs.Text.Lines.{line, line_end}
use Rattle.model.specs.Text.Numbers.{base, digit_count, digits, spell, zero_byte}
use Rattle.model.specs.Text.References.{dotted, joined}
use Rattle.model.specs.Text.Unfinished.{ends}

pub ends_append : (a b : List ℕ) → ends (a ++ b) ≡ ends a + ends b
ends_append [] b = omega arith
ends_append (c ∷ a) b = omega (arith, ends_append a b)

-- the byte of a digit ends no line
ends_digit : (d : ℕ) (x : List ℕ) → ends ((zero_byte + d) ∷ x) ≡ ends x
ends_digit d x =
    let n : zero_byte + d ≡ line_end → ⊥ = λ q. omega arith in
    rw (ne_eqb (zero_byte + d) line_end n) (omega arith)

ends_spell : (k n : ℕ) (x : List ℕ) → ends (spell k n x) ≡ ends x
ends_spell zero n x = refl
ends_spell (suc k) n x =
    cases (lt_or_le n base)
    (λ h. rw (lt-ltb n base h) (ends_digit n x))
    (λ h. rw (le-ltb n base h) (omega (arith, ends_spell k (n / base) ((zero_byte + n % base) ∷ x), ends_digit (n % base) x)))

pub ends_digits : (n : ℕ) → ends (digits n) ≡ 0
unfolding digits
ends_digits n = ends_spell digit_count n []

ends_dotted : (ns : List ℕ) → ends (dotted ns) ≡ 0
ends_dotted [] = refl
ends_dotted (n ∷ ns) = omega (arith, ends_append (digits n) (dotted ns), ends_digits n, ends_dotted ns)

pub ends_joined : (ns : List ℕ) → ends (joined ns) ≡ 0
ends_joined [] = refl
ends_joined (n ∷ ns) = omega (arith, ends_append (digits n) (dotted ns), ends_digits n, ends_dotted ns)

pub ends_line : (key v : List ℕ) → ends key ≡ 0 → ends v ≡ 0 → ends (line key v) ≡ 1
unfolding line
ends_line key v a b = omega (arith, ends_append key (v ++ (line_end ∷ [])), ends_append v (line_end ∷ []))
