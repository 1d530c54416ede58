-- The laws of sums over numbers in a row.
use Rattle.std.proofs.Common.{◌∙◌, ap, ap₂, subst, sym, add-mul, eq-or-lt_of_le, one-mul, suc-mul, zero-mul, arith, eq-eqb, eqb-true, ne_eqb}
use Rattle.std.specs.Prelude.{◌≡◌, refl, ◌*◌, ◌+◌, ◌<◌, ◌≤◌, suc, zero, ℕ, eqb}
use Rattle.model.specs.Basics.Cases.{cases, lt_or_le, true_or_false}
use Rattle.tables_text.specs.Total.{Each, Some, one, total}

-- ---- comparing sums

pub total_le : (k i : ℕ) (f g : ℕ → ℕ) → Each k i (λ j. f j ≤ g j) → total k i f ≤ total k i g
unfolding total
total_le zero i f g h = omega arith
total_le (suc k) i f g h = omega (arith, h i (omega arith) (omega arith), total_le k (suc i) f g (λ j a b. h j (omega arith) (omega arith)))

pub total_same : (k i : ℕ) (f g : ℕ → ℕ) → Each k i (λ j. f j ≡ g j) → total k i f ≡ total k i g
unfolding total
total_same zero i f g h = refl
total_same (suc k) i f g h = ap₂ ◌+◌ (h i (omega arith) (omega arith)) (total_same k (suc i) f g (λ j a b. h j (omega arith) (omega arith)))

-- less by s, if one of the numbers gives less by s
pub total_less : (k i : ℕ) (f g : ℕ → ℕ) (s : ℕ) → Each k i (λ j. f j ≤ g j) → Some k i (λ j. f j + s ≤ g j) → total k i f + s ≤ total k i g
unfolding total
total_less zero i f g s h r = absurd (omega (arith, r.1, r.2))
total_less (suc k) i f g s h r = cases (eq-or-lt_of_le r.1)
    (λ e. omega (arith, subst (λ (j : ℕ). f j + s ≤ g j) (sym e) r.3, total_le k (suc i) f g rest))
    (λ l. omega (arith, h i (omega arith) (omega arith), total_less k (suc i) f g s rest (r.0, l, omega (arith, r.2), r.3)))
  where
    rest : Each k (suc i) (λ j. f j ≤ g j)
    rest j a b = h j (omega arith) (omega arith)

-- ---- sums of one number, of sums, and of products

pub total_none : (k i : ℕ) (f : ℕ → ℕ) → Each k i (λ j. f j ≡ 0) → total k i f ≡ 0
unfolding total
total_none zero i f h = refl
total_none (suc k) i f h = omega (arith, h i (omega arith) (omega arith), total_none k (suc i) f (λ j a b. h j (omega arith) (omega arith)))

pub total_const : (k i c : ℕ) → total k i (λ j. c) ≡ k * c
unfolding total
total_const zero i c = sym (zero-mul c)
total_const (suc k) i c = omega (arith, total_const k (suc i) c, suc-mul k c)

pub total_plus : (k i : ℕ) (f g : ℕ → ℕ) → total k i (λ j. f j + g j) ≡ total k i f + total k i g
unfolding total
total_plus zero i f g = refl
total_plus (suc k) i f g = omega (arith, total_plus k (suc i) f g)

pub total_scale : (k i : ℕ) (f : ℕ → ℕ) (c : ℕ) → total k i (λ j. f j * c) ≡ total k i f * c
unfolding total
total_scale zero i f c = sym (zero-mul c)
total_scale (suc k) i f c = omega (arith, total_scale k (suc i) f c, add-mul (f i) (total k (suc i) f) c)

-- the order of two sums does not matter
pub total_swap : (k i m j : ℕ) (f : ℕ → ℕ → ℕ) → total k i (λ a. total m j (f a)) ≡ total m j (λ b. total k i (λ a. f a b))
unfolding total
total_swap zero i m j f = sym (total_none m j (λ b. 0) (λ b x y. refl))
total_swap (suc k) i m j f = ap (λ (x : ℕ). total m j (f i) + x) (total_swap k (suc i) m j f)
    ∙ sym (total_plus m j (f i) (λ b. total k (suc i) (λ a. f a b)))

-- ---- sums of which at most one number counts

pub one_same : (x c : ℕ) → x ≡ c → one x c ≡ 1
one_same x c e = rw (eq-eqb x c e)

pub one_other : (x c : ℕ) → (x ≡ c → ⊥) → one x c ≡ 0
one_other x c n = rw (ne_eqb x c n)

-- a number that is not among those summed over does not count,
pub total_before : (k i x : ℕ) (g : ℕ → ℕ) → x < i → total k i (λ c. one x c * g c) ≡ 0
total_before k i x g h = total_none k i (λ c. one x c * g c) (λ c a b. rw (one_other x c (λ e. omega arith)) (zero-mul (g c)))

-- and one that is counts once
pub total_at : (k i x : ℕ) (g : ℕ → ℕ) → i ≤ x → x < i + k → total k i (λ c. one x c * g c) ≡ g x
unfolding total
total_at zero i x g a b = absurd (omega arith)
total_at (suc k) i x g a b = cases (eq-or-lt_of_le a)
    (λ e. omega (arith, here e, total_before k (suc i) x g (omega arith)))
    (λ l. omega (arith, past l, total_at k (suc i) x g l (omega arith)))
  where
    here : i ≡ x → one x i * g i ≡ g x
    here e = rw (one_same x i (sym e)) (one-mul (g i) ∙ ap g e)

    past : i < x → one x i * g i ≡ 0
    past l = rw (one_other x i (λ e. omega arith)) (zero-mul (g i))

-- where each gives at most 1, and only one number gives something, the sum is at most 1
pub total_unique : (k i : ℕ) (f : ℕ → ℕ) → Each k i (λ j. f j ≤ 1) → Each k i (λ j. Each k i (λ l. 0 < f j → 0 < f l → j ≡ l)) → total k i f ≤ 1
unfolding total
total_unique zero i f h u = omega arith
total_unique (suc k) i f h u = cases (lt_or_le 0 (f i))
    (λ p. omega (arith, h i (omega arith) (omega arith), total_none k (suc i) f (rest p)))
    (λ p. omega (
      arith,
      total_unique k (suc i) f (λ j a b. h j (omega arith) (omega arith))
          (λ j a b l c e. u j (omega arith) (omega arith) l (omega arith) (omega arith)),
    ))
  where
    rest : 0 < f i → Each k (suc i) (λ j. f j ≡ 0)
    rest p j a b =
        let n : ¬ (0 < f j) = λ q. omega (arith, u i (omega arith) (omega arith) j (omega arith) (omega arith) p q) in
        omega arith

-- ---- what a sum says of its numbers

-- if a sum is not zero, one of the numbers is not
pub total_some : (k i : ℕ) (f : ℕ → ℕ) → 0 < total k i f → Some k i (λ j. 0 < f j)
unfolding total
total_some zero i f h = absurd (omega arith)
total_some (suc k) i f h = cases (lt_or_le 0 (f i))
    (λ p. (i, omega arith, omega arith, p))
    (λ p. let r = total_some k (suc i) f (omega arith) in (r.0, omega (arith, r.1), omega (arith, r.2), r.3))

-- if it is less than there are numbers, one of them is zero
pub total_gap : (k i : ℕ) (f : ℕ → ℕ) → total k i f < k → Some k i (λ j. f j ≡ 0)
unfolding total
total_gap zero i f h = absurd (omega arith)
total_gap (suc k) i f h = cases (lt_or_le 0 (f i))
    (λ p. let r = total_gap k (suc i) f (omega arith) in (r.0, omega (arith, r.1), omega (arith, r.2), r.3))
    (λ p. (i, omega arith, omega arith, omega arith))

-- no number gives more than the sum
pub total_each : (k i : ℕ) (f : ℕ → ℕ) → Each k i (λ j. f j ≤ total k i f)
unfolding total
total_each zero i f j a b = absurd (omega arith)
total_each (suc k) i f j a b = cases (eq-or-lt_of_le a)
    (λ e. omega (arith, ap f e))
    (λ l. omega (arith, total_each k (suc i) f j l (omega arith)))

-- the one number that counts is the one
pub one_is : (x c : ℕ) → 0 < one x c → x ≡ c
one_is x c h = cases (true_or_false (eqb x c)) (λ e. eqb-true x c e) (λ e. absurd (omega (arith, rw e at h)))

pub one_most : (x c : ℕ) → one x c ≤ 1
one_most x c = cases (true_or_false (eqb x c)) (λ e. rw e (omega arith)) (λ e. rw e (omega arith))
