-- A loop that asks a test of 0, 1, .. in turn and stops at the first that fails computes `every`; one that stops at the first place
-- with a word computes `seek`. The laws of each: where the loop begins, goes on, stops early, and ends.
use Rattle.std.specs.Prelude.{Bool, ◌&&◌, false, true, ◌≢◌, ◌≡◌, refl, ◌+◌, ◌<◌, ◌≤◌, suc, zero, ℕ, T, eqb}
use Rattle.std.proofs.Common.{inl, inr, ◌∙◌, ap, subst, sym, add-one, arith}
use Rattle.laws.specs.Bools.{both, fails}
use Rattle.model.specs.Basics.Agree.{agrees_T, agrees_every, every_at}
use Rattle.model.specs.Basics.Choice.{Same, it, other, same}
use Rattle.model.specs.Basics.TestLaws.{holds_true}
use Rattle.model.specs.Basics.Tests.{every, imp}
use Rattle.model.specs.Tables.RowLaws.{before, sought}
use Rattle.model.specs.Tables.Rows.{Sought, seek}

-- what each number below n passes, every one does
pub every_of : (n : ℕ) (p : ℕ → Bool) → ((i : ℕ) → i < n → T (p i)) → T (every n p)
every_of n p = (agrees_every n p (λ i. T (p i)) (λ i. agrees_T (p i))).from

-- ---- numbers from 0, as in rows
pub every_none : (p : ℕ → Bool) → every 0 p ≡ true
unfolding every
every_none p = refl

pub every_more : (i : ℕ) (p : ℕ → Bool) → every i p ≡ true → p i ≡ true → every (i + 1) p ≡ true
unfolding every
every_more i p h e = ap (λ (n : ℕ). every n p) (add-one i) ∙ both (p i) (every i p) e h

pub every_fails : (n : ℕ) (p : ℕ → Bool) (k : ℕ) → k < n → p k ≡ false → false ≡ every n p
every_fails n p k h e = sym (fails (every n p) (λ t. subst T e (every_at n p t k h)))

pub every_done : (i n : ℕ) (p : ℕ → Bool) → every i p ≡ true → i ≤ n → n ≤ i → true ≡ every n p
every_done i n p h a b = let e : n ≡ i = omega arith in rw e (sym h)

-- ---- numbers from 1, as of records
pub each_more : (i : ℕ) (p : ℕ → Bool) → every i (λ k. p (suc k)) ≡ true → p (i + 1) ≡ true → every (i + 1) (λ k. p (suc k)) ≡ true
each_more i p h e = every_more i (λ k. p (suc k)) h (ap p (sym (add-one i)) ∙ e)

pub each_fails : (n : ℕ) (p : ℕ → Bool) (k : ℕ) → k < n → p (k + 1) ≡ false → false ≡ every n (λ k. p (suc k))
each_fails n p k h e = every_fails n (λ k. p (suc k)) k h (ap p (sym (add-one k)) ∙ e)

-- two tests asked of every number, together or one after the other
pub every_both : (n : ℕ) (p q : ℕ → Bool) → every n (λ i. p i && q i) ≡ (every n p && every n q)
unfolding every
every_both zero p q = refl
every_both (suc n) p q = go (p n) (q n) (every n p) (every n q) (every n (λ i. p i && q i)) (every_both n p q)
  where
    go : (a b c d r : Bool) → r ≡ (c && d) → ((a && b) && r) ≡ ((a && c) && (b && d))
    go true true c d r e = e
    go true false true d r e = refl
    go true false false d r e = refl
    go false b c d r e = refl

-- a loop that gathers `and` from the front
pub every_gather : (i : ℕ) (p : ℕ → Bool) (a b : Bool) → a ≡ p i → b ≡ every i p → (a && b) ≡ every (i + 1) p
unfolding every
every_gather i p a b x y = rw (x, y) (ap (λ (n : ℕ). every n p) (sym (add-one i)))

-- and has gathered it to its end
pub every_gathered : (i n : ℕ) (p : ℕ → Bool) (b : Bool) → b ≡ every i p → i ≤ n → n ≤ i → b ≡ every n p
every_gathered i n p b h l m = let e : n ≡ i = omega arith in rw e h

-- what is true of all numbers is true of those below n
every_true : (n : ℕ) → every n (λ i. true) ≡ true
every_true n = holds_true (every n (λ i. true)) (every_of n (λ i. true) (λ i h. tt))

-- a condition on every number that does not depend on the number can be asked once
pub imp_every : (k : Bool) (n : ℕ) (p : ℕ → Bool) → every n (λ i. imp k (p i)) ≡ imp k (every n p)
unfolding imp
imp_every true n p = refl
imp_every false n p = every_true n

-- ---- seeking a word in a row

-- the place that was found is the first with v
pub seek_here : (v : ℕ) (row : ℕ → ℕ) (n k : ℕ) → k < n → row k ≡ v → ((i : ℕ) → i < k → row i ≢ v) → k ≡ seek v row n
seek_here v row n k h e f = go (sought v row n)
  where
    low : seek v row n ≤ k
    low = let z : ¬ (k < seek v row n) = λ l. before v row n k l e in omega arith

    go : Sought v row n (seek v row n) → k ≡ seek v row n
    go (inl s) = let z : ¬ (seek v row n < k) = λ l. f (seek v row n) l s.1 in omega (arith, low)
    go (inr s) = absurd (s.1 k h e)

-- n where there is none
pub seek_none : (v : ℕ) (row : ℕ → ℕ) (n : ℕ) → ((i : ℕ) → i < n → row i ≢ v) → n ≡ seek v row n
seek_none v row n f = go (sought v row n)
  where
    go : Sought v row n (seek v row n) → n ≡ seek v row n
    go (inl s) = absurd (f (seek v row n) s.0 s.1)
    go (inr s) = sym s.0

pub seek_within : (v : ℕ) (row : ℕ → ℕ) (n : ℕ) → seek v row n ≤ n
seek_within v row n = go (sought v row n)
  where
    go : Sought v row n (seek v row n) → seek v row n ≤ n
    go (inl s) = omega (arith, s.0)
    go (inr s) = omega (arith, s.0)

-- a loop that has not met v yet goes on by one
pub none_more : (v : ℕ) (row : ℕ → ℕ) (i : ℕ) → ((j : ℕ) → j < i → row j ≢ v) → row i ≢ v → (j : ℕ) → j < i + 1 → row j ≢ v
none_more v row i f n j h = go (eqb j i) (same j i)
  where
    go : (b : Bool) → Same j i b → row j ≢ v
    go true (it e) = rw e n
    go false (other e) = f j (omega arith)
