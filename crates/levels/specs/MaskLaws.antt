-- Whole words compared decide what bit by bit would: a set is in another where the two meet in the first, and a level is at most another where its set is
-- in the other's and its number is no greater.
use Rattle.std.specs.Prelude.{◌&&◌, ◌≡◌, ◌%◌, ◌*◌, ◌<◌, ◌^◌, ◌≤◌, ℕ, eqb, leb}
use Rattle.std.proofs.Common.{◌∙◌, arith, lit<, pow_pos, shl_exact}
use Rattle.std.specs.Int.Bits.{bit_and}
use Rattle.std.proofs.Math.Pow.{shr_mono}
use Rattle.laws.specs.Bools.{agreed}
use Rattle.model.specs.Basics.Agree.{Agrees, agrees_T, agrees_and, agrees_eq, agrees_le}
use Rattle.model.specs.Basics.TestLaws.{equal_bools}
use Rattle.model.specs.BitLaws.{subset_mask}
use Rattle.model.specs.Level.{Subset, at_most_over, rank, subset}
use Rattle.model.proofs.LevelLaws.{at_most_over→≤}

-- one, shifted by less than the width of a word, is the weight of that bit
pub weight : (k : ℕ) → k < 32 → 1 * 2 ^ k % 4294967296 ≡ 2 ^ k
weight k h = let e : 1 * 2 ^ k ≡ 2 ^ k = omega arith in shl_exact {a = 1} 1 k 32 (lit< tt) (omega arith) ∙ e

-- and no divisor of nothing
pub weight_pos : (k : ℕ) → k < 32 → 0 < 1 * 2 ^ k % 4294967296
weight_pos k h = omega (arith, weight k h, pow_pos k)

-- a set is in another where what is in both is all of it
pub masked : (k a b : ℕ) → eqb (bit_and (a % 2 ^ k) (b % 2 ^ k)) (a % 2 ^ k) ≡ subset k a b
masked k a b = agreed _ _ (agrees_eq (bit_and (a % 2 ^ k) (b % 2 ^ k)) (a % 2 ^ k)) (subset_mask k a b)

-- The greater number never has the lower rank; and where its set is in the other's, a level of no higher rank is no greater as a number. So whole numbers
-- may be compared in the place of ranks.
pub whole : (k a b : ℕ) → (leb a b && subset k a b) ≡ at_most_over k a b
unfolding at_most_over rank
whole k a b = equal_bools (leb a b && subset k a b) (leb (rank k a) (rank k b) && subset k a b)
    (λ t. let z = numbers.to t in ranks.from (shr_mono k z.0, z.1))
    (λ t. numbers.from (at_most_over→≤ k a b t, (ranks.to t).1))
  where
    numbers : Agrees (leb a b && subset k a b) ((a ≤ b) × Subset k a b)
    numbers = agrees_and (agrees_le a b) (agrees_T (subset k a b))

    ranks : Agrees (leb (rank k a) (rank k b) && subset k a b) ((rank k a ≤ rank k b) × Subset k a b)
    ranks = agrees_and (agrees_le (rank k a) (rank k b)) (agrees_T (subset k a b))
