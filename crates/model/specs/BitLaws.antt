-- What the bits of a number say of it: its low part, its sets of bits and their masks, for any count of bits.
use Rattle.std.specs.Prelude.{Bool, false, true, ◌≡◌, ◌%◌, ◌*◌, ◌+◌, ◌-◌, ◌/◌, ◌<◌, ◌^◌, ◌≤◌, suc, zero, ℕ, T, eqb}
use Rattle.std.proofs.Common.{◌∙◌, ap, ap₂, subst, sym, mul-le-mul_right, one-add, arith}
use Rattle.std.proofs.Math.Nat.{mod-one, zero-div}
use Rattle.std.proofs.lemmas.Nat.{and_le_l, and_le_r, and_mod, and_shr, mod-pow-add}
use Rattle.std.specs.Int.Bits.{bit_and}
use Rattle.std.proofs.Math.Pow.{field, high, low, mod-mod-pow, ones_lt, ones_split}
use Rattle.model.specs.Basics.Agree.{Agrees, agrees_T, agrees_as, agrees_eq, agrees_every, agrees_imp}
use Rattle.model.specs.Basics.Choice.{Same, it, other, same}
use Rattle.model.specs.Basics.TestLaws.{equal_bools, every_same}
use Rattle.model.specs.Basics.Tests.{imp}
use Rattle.model.specs.Level.{Bit, Subset, bit, subset}

-- bit i is the digit of weight 2 ^ i
pub bit_agrees : (i n : ℕ) → Agrees (bit i n) (n / 2 ^ i % 2 ≡ 1)
unfolding bit
bit_agrees i n = agrees_eq (n / 2 ^ i % 2) 1

-- the empty set has no bit
pub bit_zero : (i : ℕ) → Bit i 0 → ⊥
bit_zero i t = omega (arith, rw (zero-div (2 ^ i)) at ((bit_agrees i 0).to t))

-- a width over i is the bits above bit i, bit i, and the i bits below it
width : (k i : ℕ) → i < k → k ≡ k - suc i + 1 + i
width k i h = omega arith

-- the low k bits of n are the first k bits of n
pub bit_low : (k i n : ℕ) → i < k → bit i (n % 2 ^ k) ≡ bit i n
unfolding bit
bit_low k i n h = ap (λ (x : ℕ). eqb x 1) digit
  where
    digit : n % 2 ^ k / 2 ^ i % 2 ≡ n / 2 ^ i % 2
    digit =
        ap (λ (w : ℕ). n % 2 ^ w / 2 ^ i % 2) (width k i h)
        ∙ ap (λ (x : ℕ). x % 2) (field n (k - suc i + 1) i)
        ∙ mod-mod-pow (n / 2 ^ i) (k - suc i) 1

-- what stands above the low k bits is none of the first k
pub bit_above : (k i hi lo : ℕ) → i < k → lo < 2 ^ k → bit i (hi * 2 ^ k + lo) ≡ bit i lo
bit_above k i hi lo h l = sym (bit_low k i (hi * 2 ^ k + lo) h) ∙ ap (bit i) (low hi k l)

-- the low k + 1 bits are bit k and the low k bits
low_suc : (k n : ℕ) → n % 2 ^ suc k ≡ n / 2 ^ k % 2 * 2 ^ k + n % 2 ^ k
low_suc k n = ap (λ (w : ℕ). n % 2 ^ w) (sym (one-add k)) ∙ mod-pow-add n 1 k

-- where bit i is in b if it is in a, the digit of a is no greater
digit_le : (i a b : ℕ) → (Bit i a → Bit i b) → a / 2 ^ i % 2 ≤ b / 2 ^ i % 2
digit_le i a b f = go (eqb (a / 2 ^ i % 2) 1) (same (a / 2 ^ i % 2) 1)
  where
    go : (s : Bool) → Same (a / 2 ^ i % 2) 1 s → a / 2 ^ i % 2 ≤ b / 2 ^ i % 2
    go true (it e) = omega (arith, (bit_agrees i b).to (f ((bit_agrees i a).from e)))
    go false (other e) = omega arith

-- numbers with the same first k bits have the same low part
pub same_bits : (k a b : ℕ) → ((i : ℕ) → i < k → bit i a ≡ bit i b) → a % 2 ^ k ≡ b % 2 ^ k
same_bits zero a b h = mod-one a ∙ sym (mod-one b)
same_bits (suc k) a b h =
    let lows = same_bits k a b (λ i l. h i (omega arith)) in
    let top = h k (omega arith) in
    let one = digit_le k a b (λ t. subst T top t) in
    let two = digit_le k b a (λ t. subst T (sym top) t) in
    let digits : a / 2 ^ k % 2 ≡ b / 2 ^ k % 2 = omega arith in
    low_suc k a ∙ ap₂ (λ (x y : ℕ). x * 2 ^ k + y) digits lows ∙ sym (low_suc k b)

-- a set is in another if each of its bits is
pub subset_agrees : (k a b : ℕ) → Agrees (subset k a b) ((i : ℕ) → i < k → Bit i a → Bit i b)
unfolding subset
subset_agrees k a b =
    agrees_every k (λ i. imp (bit i a) (bit i b)) (λ i. Bit i a → Bit i b) (λ i. agrees_imp (agrees_T (bit i a)) (agrees_T (bit i b)))

-- every set is in itself
pub subset_refl : (k a : ℕ) → Subset k a a
subset_refl k a = (subset_agrees k a a).from (λ i h t. t)

-- a set in a set that is in a third is in the third
pub subset_trans : (k a b c : ℕ) → Subset k a b → Subset k b c → Subset k a c
subset_trans k a b c s t = (subset_agrees k a c).from (λ i h x. (subset_agrees k b c).to t i h ((subset_agrees k a b).to s i h x))

-- the empty set is in every set
pub subset_zero : (k b : ℕ) → Subset k 0 b
subset_zero k b = (subset_agrees k 0 b).from (λ i h t. absurd (bit_zero i t))

-- only the low k bits are asked about
pub subset_low : (k a b : ℕ) → subset k (a % 2 ^ k) (b % 2 ^ k) ≡ subset k a b
unfolding subset
subset_low k a b = every_same k (asked (a % 2 ^ k) (b % 2 ^ k)) (asked a b) (λ i h. ap₂ imp (bit_low k i a h) (bit_low k i b h))
  where
    asked : ℕ → ℕ → ℕ → Bool
    asked m n i = imp (bit i m) (bit i n)

-- a set in another is no greater as a number
pub subset→≤ : (k a b : ℕ) → Subset k a b → a % 2 ^ k ≤ b % 2 ^ k
subset→≤ k a b s = go k ((subset_agrees k a b).to s)
  where
    go : (k : ℕ) → ((i : ℕ) → i < k → Bit i a → Bit i b) → a % 2 ^ k ≤ b % 2 ^ k
    go zero f = omega (arith, mod-one a)
    go (suc k) f =
        let lows = go k (λ i l. f i (omega arith)) in
        omega (arith, low_suc k a, low_suc k b, mul-le-mul_right (2 ^ k) (digit_le k a b (f k (omega arith))))

-- the set of all k bits has each of them
pub bit_ones : (k i : ℕ) → i < k → Bit i (2 ^ k - 1)
bit_ones k i h = (bit_agrees i (2 ^ k - 1)).from digit
  where
    digit : (2 ^ k - 1) / 2 ^ i % 2 ≡ 1
    digit =
        ap (λ (w : ℕ). (2 ^ w - 1) / 2 ^ i % 2) (width k i h)
        ∙ ap (λ (x : ℕ). x / 2 ^ i % 2) (ones_split (k - suc i + 1) i)
        ∙ ap (λ (x : ℕ). x % 2) (high (2 ^ (k - suc i + 1) - 1) i (ones_lt i))
        ∙ ap (λ (x : ℕ). x % 2) (ones_split (k - suc i) 1)
        ∙ low (2 ^ (k - suc i) - 1) 1 (ones_lt 1)

-- every set is in the set of all k bits
pub subset_ones : (k a : ℕ) → Subset k a (2 ^ k - 1)
subset_ones k a = (subset_agrees k a (2 ^ k - 1)).from (λ i h t. bit_ones k i h)

-- a bit is in the meet of two sets if it is in both
pub bit_and_lem : (i a b : ℕ) → Agrees (bit i (bit_and a b)) (Bit i a × Bit i b)
bit_and_lem i a b = agrees_as {P = bit_and a b / 2 ^ i % 2 ≡ 1} parts whole (bit_agrees i (bit_and a b))
  where
    digit : bit_and a b / 2 ^ i % 2 ≡ bit_and (a / 2 ^ i % 2) (b / 2 ^ i % 2)
    digit = ap (λ (x : ℕ). x % 2) (and_shr a b i) ∙ and_mod (a / 2 ^ i) (b / 2 ^ i) 1

    parts : bit_and a b / 2 ^ i % 2 ≡ 1 → Bit i a × Bit i b
    parts e = (
      (bit_agrees i a).from (omega (arith, digit, and_le_l (a / 2 ^ i % 2) (b / 2 ^ i % 2))),
      (bit_agrees i b).from (omega (arith, digit, and_le_r (a / 2 ^ i % 2) (b / 2 ^ i % 2))),
    )

    whole : Bit i a × Bit i b → bit_and a b / 2 ^ i % 2 ≡ 1
    whole t = digit ∙ ap₂ bit_and ((bit_agrees i a).to t.0) ((bit_agrees i b).to t.1)

-- a set is in another if its mask meets the other's in itself
pub subset_mask : (k a b : ℕ) → Agrees (subset k a b) (bit_and (a % 2 ^ k) (b % 2 ^ k) ≡ a % 2 ^ k)
subset_mask k a b = agrees_as {P = (i : ℕ) → i < k → Bit i a → Bit i b} meet inside (subset_agrees k a b)
  where
    kept : ((i : ℕ) → i < k → Bit i a → Bit i b) → (i : ℕ) → i < k → bit i (bit_and a b) ≡ bit i a
    kept f i h = equal_bools (bit i (bit_and a b)) (bit i a) (λ t. ((bit_and_lem i a b).to t).0) (λ t. (bit_and_lem i a b).from (t, f i h t))

    meet : ((i : ℕ) → i < k → Bit i a → Bit i b) → bit_and (a % 2 ^ k) (b % 2 ^ k) ≡ a % 2 ^ k
    meet f = sym (and_mod a b k) ∙ same_bits k (bit_and a b) a (kept f)

    shared : bit_and (a % 2 ^ k) (b % 2 ^ k) ≡ a % 2 ^ k → (i : ℕ) → i < k → bit i a ≡ bit i (bit_and a b)
    shared e i h = sym (bit_low k i a h) ∙ ap (bit i) (sym e ∙ sym (and_mod a b k)) ∙ bit_low k i (bit_and a b) h

    inside : bit_and (a % 2 ^ k) (b % 2 ^ k) ≡ a % 2 ^ k → (i : ℕ) → i < k → Bit i a → Bit i b
    inside e i h t = ((bit_and_lem i a b).to (subst T (shared e i h) t)).1
