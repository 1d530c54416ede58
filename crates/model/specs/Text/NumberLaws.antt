-- The laws of numbers as text: the two equations by which a number is written, and that reading and writing are inverse.
use Rattle.std.specs.Prelude.{Bool, false, true, List, [], ◌++◌, ◌∷◌, ◌≡◌, refl, ◌%◌, ◌*◌, ◌+◌, ◌-◌, ◌/◌, ◌<◌, ◌^◌, ◌≤◌, pred, suc, zero, ℕ, eqb, leb, ltb}
use Rattle.std.specs.Prelude.{length}
use Rattle.std.proofs.Common.{append_assoc, ◌∙◌, ap, sym, pow-suc, arith, length-append, eqb-true, le-leb, le-ltb, leb-true, lt-ltb, ltb-false, ne_eqb}
use Rattle.model.specs.Basics.Cases.{cases, lt_or_le, true_or_false}
use Rattle.model.specs.Text.Numbers.{bad, base, digit_count, digits, digits_end, got, is_digit, more, most, nine_byte, number, spell}
use Rattle.model.specs.Text.Numbers.{zero_byte}
use Rattle.std.proofs.lemmas.Bool.{eqb-false}

-- ---- writing: the two equations by which code writes a number

-- what follows stands after the digits
spell_onto : (k n : ℕ) (x y : List ℕ) → spell k n (x ++ y) ≡ spell k n x ++ y
spell_onto zero n x y = refl
spell_onto (suc k) n x y =
    cases (lt_or_le n base)
    (λ h. rw (lt-ltb n base h))
    (λ h. rw (le-ltb n base h) (spell_onto k (n / base) ((zero_byte + n % base) ∷ x) y))

-- one digit of room more changes nothing
spell_more : (k n : ℕ) (x : List ℕ) → n < base ^ suc k → spell (suc (suc k)) n x ≡ spell (suc k) n x
spell_more zero n x h = let l : n < base = h in rw (lt-ltb n base l)
spell_more (suc k) n x h =
    let h' : n < base ^ suc k * base = rw (pow-suc base (suc k)) at h in
    cases (lt_or_le n base)
    (λ l. rw (lt-ltb n base l))
    (λ l. rw (le-ltb n base l) (spell_more k (n / base) ((zero_byte + n % base) ∷ x) (omega arith)))

-- a number below ten is one digit,
pub digits_small : (n : ℕ) → n < base → digits n ≡ (zero_byte + n) ∷ []
unfolding digits
digits_small n h = rw (lt-ltb n base h)

-- and any other one its last digit after those of its tenth
pub digits_step : (n : ℕ) → base ≤ n → n < digits_end → digits n ≡ digits (n / base) ++ ((zero_byte + n % base) ∷ [])
unfolding digits
digits_step n h l =
    let last = (zero_byte + n % base) ∷ [] in
    rw (le-ltb n base h) (sym (spell_more (pred (pred digit_count)) (n / base) last (omega arith)) ∙ spell_onto digit_count (n / base) [] last)

-- ---- reading what was written

-- bytes that do not go on with a digit
abbrev pub Stops : List ℕ → Type 0
Stops [] = Unit {0}
Stops (b ∷ x) = is_digit b ≡ false

-- the byte of a digit is one
pub digit_is : (d : ℕ) → d < base → is_digit (zero_byte + d) ≡ true
digit_is d h = rw (le-ltb (zero_byte + d) zero_byte (omega arith), le-leb (zero_byte + d) nine_byte (omega arith))

more_digit : (v d : ℕ) (x : List ℕ) → d < base → v * base + d ≤ most → more v ((zero_byte + d) ∷ x) ≡ more (v * base + d) x
more_digit v d x h l =
    let e : zero_byte + d - zero_byte ≡ d = omega arith in
    rw (digit_is d h, e, le-leb (v * base + d) most l)

more_stops : (v : ℕ) (x : List ℕ) → Stops x → more v x ≡ got v x
more_stops v [] t = refl
more_stops v (b ∷ x) t = rw t

more_last : (n : ℕ) (x : List ℕ) → n ≤ most → more (n / base) ((zero_byte + n % base) ∷ x) ≡ more n x
more_last n x l =
    let e : n / base * base + n % base ≡ n = omega arith in
    more_digit (n / base) (n % base) x (omega arith) (omega arith) ∙ rw e

number_small : (n : ℕ) (x : List ℕ) → 0 < n → n < base → number (digits n ++ x) ≡ more n x
number_small n x p s =
    let e : zero_byte + n - zero_byte ≡ n = omega arith in
    let ne : zero_byte + n ≡ zero_byte → ⊥ = λ q. omega arith in
    rw (digits_small n s, digit_is n s, ne_eqb (zero_byte + n) zero_byte ne, e)

-- the last digit, in front of what follows
pub digits_onto : (n : ℕ) (x : List ℕ) → base ≤ n → n ≤ most → digits n ++ x ≡ digits (n / base) ++ ((zero_byte + n % base) ∷ x)
digits_onto n x s l = rw (digits_step n s (omega arith)) (append_assoc (digits (n / base)) ((zero_byte + n % base) ∷ []) x)

number_digits : (k n : ℕ) (x : List ℕ) → 0 < n → n ≤ most → n < base ^ k → number (digits n ++ x) ≡ more n x
number_digits zero n x p l h = let h' : n < 1 = h in absurd (omega arith)
number_digits (suc k) n x p l h =
    let h' : n < base ^ k * base = rw (pow-suc base k) at h in
    cases (lt_or_le n base)
    (λ s. number_small n x p s)
    (λ s. rw (digits_onto n x s l) (number_digits k (n / base) ((zero_byte + n % base) ∷ x) (omega arith) (omega arith) (omega arith) ∙ more_last n x l))

-- a number that is written is read again, in front of whatever does not go on with a digit
pub number_there : (n : ℕ) (x : List ℕ) → n ≤ most → Stops x → number (digits n ++ x) ≡ got n x
number_there zero x l t = rw (digits_small 0 (omega arith))
number_there (suc n) x l t = number_digits digit_count (suc n) x (omega arith) l (omega arith) ∙ more_stops (suc n) x t

-- ---- writing what was read

-- a digit is one of ten bytes
pub digit_of : (b : ℕ) → is_digit b ≡ true → (zero_byte ≤ b) × (b ≤ nine_byte)
digit_of b e = go (ltb b zero_byte) refl
  where
    go : (t : Bool) → ltb b zero_byte ≡ t → (zero_byte ≤ b) × (b ≤ nine_byte)
    go true h = let z : ◌≡◌ {A = Bool} true false = sym e ∙ rw h in let y : ◌≡◌ {A = ℕ} 0 1 = cc in absurd (omega arith)
    go false h = (ltb-false b zero_byte h, leb-true b nine_byte (rw h at e))

-- s is a number that fits, and what follows
pub record Back (s : List ℕ) (n : ℕ) (rest : List ℕ) : Type 0 where
  pub fits : n ≤ most
  pub same : s ≡ digits n ++ rest

-- the digits of a number and one more
digits_snoc : (v b : ℕ) (s : List ℕ) → 0 < v → (zero_byte ≤ b) × (b ≤ nine_byte) → v * base + (b - zero_byte) ≤ most
    → digits v ++ (b ∷ s) ≡ digits (v * base + (b - zero_byte)) ++ s
digits_snoc v b s p d l =
    let q : (v * base + (b - zero_byte)) / base ≡ v = omega arith in
    let r : zero_byte + (v * base + (b - zero_byte)) % base ≡ b = omega arith in
    sym (digits_onto (v * base + (b - zero_byte)) s (omega arith) l ∙ rw (q, r))

more_back : (s : List ℕ) (v n : ℕ) (rest : List ℕ) → 0 < v → v ≤ most → more v s ≡ got n rest → Back (digits v ++ s) n rest
more_back [] v n rest p l e =
    let en : v ≡ n = cc in
    let er : [] ≡ rest = cc in
    rw (← en, ← er) (record { fits = l; same = refl })
more_back (b ∷ s) v n rest p l e =
    cases (true_or_false (is_digit b))
    (λ h. cases (true_or_false (leb (v * base + (b - zero_byte)) most))
    (λ g. rw (digits_snoc v b s p (digit_of b h) (leb-true (v * base + (b - zero_byte)) most g))
    (more_back s (v * base + (b - zero_byte)) n rest (omega arith) (leb-true (v * base + (b - zero_byte)) most g) (rw (h, g) at e)))
    (λ g. let z : bad ≡ got n rest = rw (h, g) at e in let y : ◌≡◌ {A = ℕ} 0 1 = cc in absurd (omega arith)))
    (λ h. let z : got v (b ∷ s) ≡ got n rest = rw h at e in
    let en : v ≡ n = cc in
    let er : b ∷ s ≡ rest = cc in
    rw (← en, ← er) (record { fits = l; same = refl }))

digits_byte : (b : ℕ) → (zero_byte ≤ b) × (b ≤ nine_byte) → digits (b - zero_byte) ≡ b ∷ []
digits_byte b d = let e : zero_byte + (b - zero_byte) ≡ b = omega arith in digits_small (b - zero_byte) (omega arith) ∙ rw e

-- what is read as a number is what is written of it
pub number_back : (s : List ℕ) (n : ℕ) (rest : List ℕ) → number s ≡ got n rest → Back s n rest
number_back [] n rest e = let y : ◌≡◌ {A = ℕ} 0 1 = cc in absurd (omega arith)
number_back (b ∷ s) n rest e =
    cases (true_or_false (is_digit b))
    (λ h. cases (true_or_false (eqb b zero_byte))
    (λ g. let z : got 0 s ≡ got n rest = rw (h, g) at e in
    let en : 0 ≡ n = cc in
    let er : s ≡ rest = cc in
    let eb : b ≡ zero_byte = eqb-true b zero_byte g in
    rw (← en, ← er, eb) (record { fits = omega arith; same = rw (digits_small 0 (omega arith)) }))
    (λ g. let d : (zero_byte ≤ b) × (b ≤ nine_byte) = digit_of b h in
    let ne : b ≡ zero_byte → ⊥ = eqb-false b zero_byte g in
    let w : Back (digits (b - zero_byte) ++ s) n rest = more_back s (b - zero_byte) n rest (omega arith) (omega arith) (rw (h, g) at e) in
    rw (digits_byte b d) at w))
    (λ h. let z : bad ≡ got n rest = rw h at e in let y : ◌≡◌ {A = ℕ} 0 1 = cc in absurd (omega arith))

-- a digit more after leaves the first byte
digits_longer : (n b : ℕ) (s : List ℕ) → base ≤ n → n ≤ most → digits (n / base) ≡ b ∷ s → digits n ≡ b ∷ (s ++ ((zero_byte + n % base) ∷ []))
digits_longer n b s h l e = digits_step n h (omega arith) ∙ ap (λ d. d ++ ((zero_byte + n % base) ∷ [])) e

-- the first byte of a number is a digit
pub digits_first : (n : ℕ) → n ≤ most → (b : ℕ) × (s : List ℕ) × (digits n ≡ b ∷ s) × (is_digit b ≡ true)
digits_first n l = go digit_count n l (omega arith)
  where
    go : (k n : ℕ) → n ≤ most → n < base ^ suc k → (b : ℕ) × (s : List ℕ) × (digits n ≡ b ∷ s) × (is_digit b ≡ true)
    go zero n l h = let h' : n < base = h in (zero_byte + n, [], digits_small n h', digit_is n h')
    go (suc k) n l h =
        let h' : n < base ^ suc k * base = rw (pow-suc base (suc k)) at h in
        cases (lt_or_le n base)
        (λ s. (zero_byte + n, [], digits_small n s, digit_is n s))
        (λ s. let w : (b : ℕ) × (s : List ℕ) × (digits (n / base) ≡ b ∷ s) × (is_digit b ≡ true) = go k (n / base) (omega arith) (omega arith) in
        (w.0, w.1 ++ ((zero_byte + n % base) ∷ []), digits_longer n w.0 w.1 s l w.2, w.3))

-- ---- how long a number is

spell_length : (k n : ℕ) (x : List ℕ) → length (spell (suc k) n x) ≤ suc k + length x
spell_length zero n x = cases (lt_or_le n base) (λ h. rw (lt-ltb n base h) (omega arith)) (λ h. rw (le-ltb n base h) (omega arith))
spell_length (suc k) n x =
    cases (lt_or_le n base)
    (λ h. rw (lt-ltb n base h) (omega arith))
    (λ h. rw (le-ltb n base h) (omega (arith, spell_length k (n / base) ((zero_byte + n % base) ∷ x))))

-- at most ten digits; one of a number below ten, and of any other one more than of its tenth
pub length_most : (n : ℕ) → length (digits n) ≤ digit_count
unfolding digits
length_most n = spell_length (pred digit_count) n []

pub length_small : (n : ℕ) → n < base → 1 ≡ length (digits n)
length_small n h = rw (digits_small n h)

pub length_step : (n : ℕ) → base ≤ n → n < digits_end → length (digits (n / base)) + 1 ≡ length (digits n)
length_step n h l = rw (digits_step n h l, length-append)
