-- When a test agrees with a statement: `Agrees b P`, put together from the forms that tests are made of.
use Rattle.std.specs.Prelude.{Bool, ◌&&◌, ◌||◌, false, not, true, ◌⊎◌, ◌≡◌, ◌<◌, ◌≤◌, suc, zero, ℕ, T, eqb, leb, ltb}
use Rattle.std.proofs.Common.{inl, inr, subst, sym, eq-or-lt_of_le, le_of_suc-le-suc, not-suc-le-zero, arith, eqb→eq, leb→le, le→leb}
use Rattle.std.proofs.Math.Dec.{eqb_refl}
use Rattle.model.specs.Basics.Choice.{Below, below, over, pick, under}
use Rattle.model.specs.Basics.Tests.{every, imp}

-- the test b says P
pub record Agrees (b : Bool) (P : Type 0) : Type 0 where
  pub to : T b → P
  pub from : P → T b

pub agrees_le : (m n : ℕ) → Agrees (leb m n) (m ≤ n)
agrees_le m n = record { to = leb→le m n; from = le→leb m n }

pub agrees_eq : (m n : ℕ) → Agrees (eqb m n) (m ≡ n)
agrees_eq m n = record { to = eqb→eq m n; from = λ e. subst (λ (y : ℕ). T (eqb m y)) e (eqb_refl m) }

pub agrees_not : {b : Bool} {P : Type 0} → Agrees b P → Agrees (not b) (P → ⊥)
agrees_not {b} a = record { to = go b a.from; from = back b a.to }
  where
    go : {P : Type 0} (b : Bool) → (P → T b) → T (not b) → P → ⊥
    go true f t p = t
    go false f t p = f p

    back : {P : Type 0} (b : Bool) → (T b → P) → (P → ⊥) → T (not b)
    back true f n = n (f tt)
    back false f n = tt

-- not not
pub agrees_twice : {b : Bool} {P : Type 0} → Agrees b P → Agrees (not (not b)) P
agrees_twice {b} a = go b a.to a.from
  where
    go : {P : Type 0} (b : Bool) → (T b → P) → (P → T b) → Agrees (not (not b)) P
    go true f g = record { to = f; from = g }
    go false f g = record { to = f; from = g }

-- the second test is judged where the first holds
pub agrees_then : {a b : Bool} {P Q : Type 0} → Agrees a P → (P → Agrees b Q) → Agrees (a && b) (P × Q)
agrees_then {a} {b} p q = record { to = go a b p.to (λ x. (q x).to); from = λ z. back a b (p.from z.0) ((q z.0).from z.1) }
  where
    go : {P Q : Type 0} (a b : Bool) → (T a → P) → (P → T b → Q) → T (a && b) → P × Q
    go true b f g t = (f tt, g (f tt) t)
    go false b f g t = absurd t

    back : (a b : Bool) → T a → T b → T (a && b)
    back true b s t = t
    back false b s t = s

pub agrees_and : {a b : Bool} {P Q : Type 0} → Agrees a P → Agrees b Q → Agrees (a && b) (P × Q)
agrees_and p q = agrees_then p (λ x. q)

pub agrees_imp : {a b : Bool} {P Q : Type 0} → Agrees a P → Agrees b Q → Agrees (imp a b) (P → Q)
unfolding imp
agrees_imp {a} {b} p q = record { to = λ t x. q.to (go a b t (p.from x)); from = λ f. back a b (λ t. q.from (f (p.to t))) }
  where
    go : (a b : Bool) → T (pick a b true) → T a → T b
    go true b t s = t
    go false b t s = absurd s

    back : (a b : Bool) → (T a → T b) → T (pick a b true)
    back true b f = f tt
    back false b f = tt

-- an implication does not hold where its first part does and its second does not
pub agrees_but : {a : Bool} {P Q : Type 0} (b : Bool) → Agrees a P → Agrees (not b) Q → Agrees (not (imp a b)) (P × Q)
unfolding imp
agrees_but {a} b p q = go a p q
  where
    go : {P Q : Type 0} (a : Bool) → Agrees a P → Agrees (not b) Q → Agrees (not (pick a b true)) (P × Q)
    go true p q = record { to = λ t. (p.to tt, q.to t); from = λ z. q.from z.1 }
    go false p q = record { to = λ t. absurd t; from = λ z. absurd (p.from z.0) }

pub agrees_as : {b : Bool} {P Q : Type 0} → (P → Q) → (Q → P) → Agrees b P → Agrees b Q
agrees_as f g a = record { to = λ t. f (a.to t); from = λ q. a.from (g q) }

pub agrees_every : (n : ℕ) (p : ℕ → Bool) (P : ℕ → Type 0) → ((i : ℕ) → Agrees (p i) (P i)) → Agrees (every n p) ((i : ℕ) → i < n → P i)
unfolding every
agrees_every zero p P a = record { to = λ t i h. absurd (not-suc-le-zero h); from = λ f. tt }
agrees_every (suc n) p P a = agrees_as {P = P n × ((i : ℕ) → i < n → P i)} (λ z i h. one z i (eq-or-lt_of_le (le_of_suc-le-suc h)))
    (λ f. (f n (omega arith), λ i h. f i (omega arith))) (agrees_and (a n) (agrees_every n p P a))
  where
    one : P n × ((i : ℕ) → i < n → P i) → (i : ℕ) → (i ≡ n) ⊎ (i < n) → P i
    one z i (inl e) = subst P (sym e) z.0
    one z i (inr l) = z.1 i l

pub agrees_or : {a b : Bool} {P Q : Type 0} → Agrees a P → Agrees b Q → Agrees (a || b) (P ⊎ Q)
agrees_or {a} {b} p q = record { to = go a b p.to q.to; from = back a b p.from q.from }
  where
    go : {P Q : Type 0} (a b : Bool) → (T a → P) → (T b → Q) → T (a || b) → P ⊎ Q
    go true b f g t = inl (f tt)
    go false b f g t = inr (g t)

    back : {P Q : Type 0} (a b : Bool) → (P → T a) → (Q → T b) → P ⊎ Q → T (a || b)
    back true b f g z = tt
    back false b f g (inl x) = absurd (f x)
    back false b f g (inr y) = g y

-- of 1 to n, where the statement holds of every other number
pub agrees_range : (n : ℕ) (p : ℕ → Bool) (P : ℕ → Type 0) → ((i : ℕ) → Agrees (p i) (P i)) → P 0 → ((i : ℕ) → n < i → P i)
    → Agrees (every n (λ i. p (suc i))) ((i : ℕ) → P i)
agrees_range n p P a z out =
    agrees_as {P = (i : ℕ) → i < n → P (suc i)} (λ f i. all f i) (λ f i h. f (suc i)) (agrees_every n (λ i. p (suc i)) (λ i. P (suc i)) (λ i. a (suc i)))
  where
    all : ((i : ℕ) → i < n → P (suc i)) → (i : ℕ) → P i
    all f zero = z
    all f (suc i) = go (ltb i n) (below i n)
      where
        go : (b : Bool) → Below i n b → P (suc i)
        go true (under h) = f i h
        go false (over h) = out (suc i) (omega arith)

-- some number below n does not pass
pub agrees_exception : (n : ℕ) (p : ℕ → Bool) (P : ℕ → Type 0) → ((i : ℕ) → Agrees (not (p i)) (P i)) → Agrees (not (every n p)) ((i : ℕ) × (i < n) × P i)
unfolding every
agrees_exception zero p P a = record { to = λ t. absurd t; from = λ z. absurd (omega (arith, z.1)) }
agrees_exception (suc n) p P a = go (p n) (every n p) (a n) (agrees_exception n p P a)
  where
    go : (b c : Bool) → Agrees (not b) (P n) → Agrees (not c) ((i : ℕ) × (i < n) × P i) → Agrees (not (b && c)) ((i : ℕ) × (i < suc n) × P i)
    go false c x y = record { to = λ t. (n, omega arith, x.to tt); from = λ z. tt }
    go true c x y = record {
      to = λ t. let z = y.to t in (z.0, omega (arith, z.1), z.2);
      from = λ z. y.from (lower_one z (eq-or-lt_of_le (le_of_suc-le-suc z.1)));
    }
      where
        lower_one : (z : (i : ℕ) × (i < suc n) × P i) → (z.0 ≡ n) ⊎ (z.0 < n) → (i : ℕ) × (i < n) × P i
        lower_one z (inl e) = absurd (x.from (subst P e z.2))
        lower_one z (inr l) = (z.0, l, z.2)

-- some number below n passes
pub agrees_some : (n : ℕ) (p : ℕ → Bool) (P : ℕ → Type 0) → ((i : ℕ) → Agrees (p i) (P i))
    → Agrees (not (every n (λ i. not (p i)))) ((i : ℕ) × (i < n) × P i)
agrees_some n p P a = agrees_exception n (λ i. not (p i)) P (λ i. agrees_twice (a i))

-- a test that is its own statement
pub agrees_T : (b : Bool) → Agrees b (T b)
agrees_T b = record { to = λ t. t; from = λ t. t }

pub ruleset agreement = (agrees_le, agrees_eq, agrees_not, agrees_and, agrees_imp, agrees_or, agrees_every)

-- what every number below n passes, i passes
pub every_at : (n : ℕ) (p : ℕ → Bool) → T (every n p) → (i : ℕ) → i < n → T (p i)
every_at n p = (agrees_every n p (λ i. T (p i)) (λ i. agrees_T (p i))).to
