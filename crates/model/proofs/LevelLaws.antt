-- The order of levels: a partial order over every width of the compartments, with a lowest and a highest level.
use Rattle.std.specs.Prelude.{Bool, false, not, true, ◌↔◌, ◌≢◌, ◌⊎◌, ◌≡◌, refl, ◌%◌, ◌*◌, ◌+◌, ◌-◌, ◌/◌, ◌<◌, ◌^◌, ◌≤◌, ℕ, T}
use Rattle.std.proofs.Common.{inl, inr, subst, sym, div-lt_iff_lt-mul, mul-le-mul_right, arith, T_not, pow_pos}
use Rattle.std.proofs.Math.Nat.{zero-div}
use Rattle.std.proofs.Math.Arith.{mul_pred}
use Rattle.std.proofs.Math.Pow.{high, ones_lt, split}
use Rattle.model.specs.Basics.Agree.{Agrees, agrees_T, agrees_and, agrees_but, agrees_exception, agrees_le, agrees_not}
use Rattle.model.specs.Basics.Cases.{cases, lt_or_le}
use Rattle.model.specs.Basics.TestLaws.{is_false, is_true}
use Rattle.model.specs.Basics.Tests.{every, imp}
use Rattle.model.specs.BitLaws.{bit_above, bit_ones, bit_zero, subset_agrees, subset_low, subset→≤}
use Rattle.model.specs.Level.{AtMost, AtMostOver, Bit, Drops, Lower, Sideways, Subset, at_most, at_most_over, bit, compartment_count, drops}
use Rattle.model.specs.Level.{level_count, rank, rank_count, subset}

-- a relation that is reflexive, transitive and antisymmetric
pub record PartialOrder (A : Type 0) (R : A → A → Type 0) : Type 0 where
  pub reflexive : (a : A) → R a a
  pub transitive : (a b c : A) → R a b → R b c → R a c
  pub antisymmetric : (a b : A) → R a b → R b a → a ≡ b

-- a level is at most another if its rank is and each of its compartments is one of the other's
pub at_most_agrees : (k a b : ℕ) → Agrees (at_most_over k a b) ((rank k a ≤ rank k b) × ((i : ℕ) → i < k → Bit i a → Bit i b))
unfolding at_most_over
at_most_agrees k a b = agrees_and (agrees_le (rank k a) (rank k b)) (subset_agrees k a b)

-- the same, where the compartments are sets of their own
pub at_most_over_bounds : (k a b : ℕ) → AtMostOver k a b → (rank k a ≤ rank k b) × Subset k (a % 2 ^ k) (b % 2 ^ k)
at_most_over_bounds k a b t =
    let z = (at_most_agrees k a b).to t in
    (z.0, subst T (sym (subset_low k a b)) ((subset_agrees k a b).from z.1))

-- a level at most another is no greater as a number; that this is not enough is `incomparable`
pub at_most_over→≤ : (k a b : ℕ) → AtMostOver k a b → a ≤ b
unfolding rank
at_most_over→≤ k a b t =
    let z = (at_most_agrees k a b).to t in
    let lows = subset→≤ k a b ((subset_agrees k a b).from z.1) in
    omega (arith, split a k, split b k, mul-le-mul_right (2 ^ k) z.0)

-- every level is at most itself
pub at_most_over_refl : (k a : ℕ) → AtMostOver k a a
at_most_over_refl k a = (at_most_agrees k a a).from (omega arith, λ i h t. t)

-- a level at most one that is at most a third is at most the third
pub at_most_over_trans : (k a b c : ℕ) → AtMostOver k a b → AtMostOver k b c → AtMostOver k a c
at_most_over_trans k a b c s t =
    let x = (at_most_agrees k a b).to s in
    let y = (at_most_agrees k b c).to t in
    (at_most_agrees k a c).from (omega arith, λ i h p. y.1 i h (x.1 i h p))

-- where a level is not at most another, its rank is higher, or it has a compartment that the other lacks
pub at_most_over_fails : (k a b : ℕ) → (AtMostOver k a b → ⊥) ↔ ((rank k b < rank k a) ⊎ ((i : ℕ) × (i < k) × (Bit i a × (Bit i b → ⊥))))
unfolding subset
at_most_over_fails k a b = (λ n. cases (lt_or_le (rank k b) (rank k a)) inl (λ h. inr (lacking.to (without n h))), λ z t. back z ((at_most_agrees k a b).to t))
  where
    lacking : Agrees (not (subset k a b)) ((i : ℕ) × (i < k) × (Bit i a × (Bit i b → ⊥)))
    lacking = agrees_exception k (λ i. imp (bit i a) (bit i b)) (λ i. Bit i a × (Bit i b → ⊥))
        (λ i. agrees_but (bit i b) (agrees_T (bit i a)) (agrees_not (agrees_T (bit i b))))

    without : (AtMostOver k a b → ⊥) → rank k a ≤ rank k b → T (not (subset k a b))
    without n h = (agrees_not (agrees_T (subset k a b))).from (λ t. n ((at_most_agrees k a b).from (h, (subset_agrees k a b).to t)))

    back : (rank k b < rank k a) ⊎ ((i : ℕ) × (i < k) × (Bit i a × (Bit i b → ⊥))) → (rank k a ≤ rank k b) × ((i : ℕ) → i < k → Bit i a → Bit i b) → ⊥
    back (inl h) t = omega (arith, t.0)
    back (inr z) t = z.2.1 (t.1 z.0 z.1 z.2.0)

-- two levels that are at most each other are one: each is no greater than the other as a number
pub at_most_over_antisym : (k a b : ℕ) → AtMostOver k a b → AtMostOver k b a → a ≡ b
at_most_over_antisym k a b s t = omega (arith, at_most_over→≤ k a b s, at_most_over→≤ k b a t)

-- the levels are in a partial order, whatever the width of the compartments
pub levels_ordered : (k : ℕ) → PartialOrder ℕ (AtMostOver k)
levels_ordered k = record { reflexive = at_most_over_refl k; transitive = at_most_over_trans k; antisymmetric = at_most_over_antisym k }

-- the level 0 is at most every level
pub at_most_over_lowest : (k b : ℕ) → AtMostOver k 0 b
unfolding rank
at_most_over_lowest k b = (at_most_agrees k 0 b).from (omega (arith, zero-div (2 ^ k)), λ i h t. absurd (bit_zero i t))

-- of the levels of r ranks, the one with the highest rank and all compartments is at least every one
pub at_most_over_highest : (k r a : ℕ) → a < r * 2 ^ k → AtMostOver k a (r * 2 ^ k - 1)
unfolding rank
at_most_over_highest k r a h = rw parts ((at_most_agrees k a ((r - 1) * 2 ^ k + (2 ^ k - 1))).from (ranked, λ i l t. all i l))
  where
    inside : a / 2 ^ k < r
    inside = (div-lt_iff_lt-mul (pow_pos k)).1 h

    parts : r * 2 ^ k - 1 ≡ (r - 1) * 2 ^ k + (2 ^ k - 1)
    parts = mul_pred (omega (arith, inside)) (pow_pos k)

    ranked : a / 2 ^ k ≤ ((r - 1) * 2 ^ k + (2 ^ k - 1)) / 2 ^ k
    ranked = omega (arith, inside, high (r - 1) k (ones_lt k))

    all : (i : ℕ) → i < k → Bit i ((r - 1) * 2 ^ k + (2 ^ k - 1))
    all i l = subst T (sym (bit_above k i (r - 1) (2 ^ k - 1) l (ones_lt k))) (bit_ones k i l)

-- the order at the desk's width
pub at_most_ordered : PartialOrder ℕ AtMost
unfolding at_most
at_most_ordered = levels_ordered compartment_count

-- the desk's lowest level
pub at_most_lowest : (b : ℕ) → AtMost 0 b
unfolding at_most
at_most_lowest b = at_most_over_lowest compartment_count b

-- the desk's highest level, 1,023
pub at_most_highest : (a : ℕ) → a < level_count → AtMost a (level_count - 1)
unfolding at_most
at_most_highest a h = at_most_over_highest compartment_count rank_count a h

-- 256 is of a higher rank, and 1 has a compartment that 256 lacks
pub incomparable : (AtMost (2 ^ compartment_count) 1 → ⊥) × (AtMost 1 (2 ^ compartment_count) → ⊥)
unfolding at_most at_most_over rank subset every imp bit
incomparable = (λ t. t, λ t. t)

-- the test of `Drops` and its reading
pub drops_agrees : (a b : ℕ) → Agrees (drops a b) (Drops a b)
unfolding drops
drops_agrees a b = agrees_not (agrees_T (at_most b a))

-- an equal level is no drop
pub drops_differs : (a b : ℕ) → Drops a b → a ≢ b
drops_differs a b n e = n (subst (AtMost b) (sym e) (at_most_ordered.reflexive b))

-- a strictly lower level is a drop
pub lower_drops : (a b : ℕ) → Lower a b → Drops a b
lower_drops a b l t = l.1 (at_most_ordered.antisymmetric a b l.0 t)

-- a drop is strictly lower or sideways, and each of the two is a drop
pub drops_ways : (a b : ℕ) → Drops a b ↔ (Lower a b ⊎ Sideways a b)
drops_ways a b = (λ n. go n (at_most a b) refl, λ z. elim z [ inl l ↦ lower_drops a b l | inr s ↦ s.1 ])
  where
    go : Drops a b → (x : Bool) → at_most a b ≡ x → Lower a b ⊎ Sideways a b
    go n true e = inl (is_true (at_most a b) e, drops_differs a b n)
    go n false e = inr (T_not (at_most a b) (is_false (at_most a b) e), n)

-- a drop loses rank, or a compartment
pub drops_loses : (a b : ℕ) → Drops a b
    ↔ ((rank compartment_count a < rank compartment_count b) ⊎ ((i : ℕ) × (i < compartment_count) × (Bit i b × (Bit i a → ⊥))))
unfolding at_most
drops_loses a b = at_most_over_fails compartment_count b a

-- a level that drops from one drops from every level that is at least that one
pub drops_further : (a b c : ℕ) → AtMost b c → Drops a b → Drops a c
drops_further a b c l n t = n (at_most_ordered.transitive b c a l t)
