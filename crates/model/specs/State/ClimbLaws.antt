-- Climbing decides "inside at any depth": among n containers a way up of more than n steps passes one twice.
use Rattle.std.specs.Prelude.{Bool, ◌≢◌, ◌⊎◌, ◌≡◌, eqb, ltb}
use Rattle.std.proofs.Math.Bool.{false, true}
use Rattle.std.proofs.Common.{inl, ◌∙◌, sym, eq-or-lt_of_le, le_of_suc-le-suc, not-suc-le-zero, arith}
use Rattle.std.proofs.Math.Logic.{inr}
use Rattle.std.proofs.Math.Path.{ap, refl, subst}
use Prim.Native.Nat.{◌<◌, ◌≤◌, pred, suc, zero, ℕ}
use Rattle.std.proofs.Math.Dec.{T}
use Rattle.model.specs.Basics.Choice.{Below, Same, below, it, other, over, pick, same, under}
use Rattle.model.specs.State.Climb.{climb, up}
use Rattle.model.specs.State.Depth.{Inside, Within, deeper, direct}
use Rattle.model.specs.State.DepthLaws.{chained, first_step}

-- more numbers than there are values: two are alike
squeeze : (t x : ℕ) → ℕ
squeeze t x = pick (ltb t x) (pred x) x

squeeze_lt : (n t x : ℕ) → t ≤ n → x ≤ n → x ≢ t → squeeze t x < n
unfolding squeeze
squeeze_lt n t x ht hx ne = go (ltb t x) (below t x)
  where
    go : (b : Bool) → Below t x b → pick b (pred x) x < n
    go true (under l) = let h : pred x < n = omega arith in h
    go false (over l) = let h : x < n = omega arith in h

squeeze_inj : (t x y : ℕ) → x ≢ t → y ≢ t → squeeze t x ≡ squeeze t y → x ≡ y
unfolding squeeze
squeeze_inj t x y hx hy = go (ltb t x) (ltb t y) (below t x) (below t y)
  where
    go : (a b : Bool) → Below t x a → Below t y b → pick a (pred x) x ≡ pick b (pred y) y → x ≡ y
    go true true (under p) (under q) e = let h : pred x ≡ pred y = e in omega arith
    go true false (under p) (over q) e = let h : pred x ≡ y = e in omega arith
    go false true (over p) (under q) e = let h : x ≡ pred y = e in omega arith
    go false false (over p) (over q) e = e

pub pigeon : (n : ℕ) (f : ℕ → ℕ) → ((i : ℕ) → i ≤ n → f i < n) → ((i j : ℕ) → i < j → j ≤ n → f i ≢ f j) → ⊥
pigeon zero f small apart = not-suc-le-zero (small 0 (omega arith))
pigeon (suc n) f small apart =
    pigeon n (λ i. squeeze (f (suc n)) (f i))
    (λ i h. squeeze_lt n (f (suc n)) (f i) (omega (arith, small (suc n) (omega arith))) (omega (arith, small i (omega arith)))
    (apart i (suc n) (omega arith) (omega arith)))
    (λ i j l h e. apart i j l (omega arith) (squeeze_inj (f (suc n)) (f i) (f j) (apart i (suc n) (omega arith) (omega arith))
    (apart j (suc n) (omega arith) (omega arith)) e))

-- par a is what a stands in, or 0
module _ (n : ℕ) (H : ℕ → ℕ → Type 0) (par : ℕ → ℕ) (top : (a : ℕ) → par a ≡ 0 → (x : ℕ) → H x a → ⊥) (holds : (a : ℕ) → par a ≢ 0 → H (par a) a)
    (one : (a x y : ℕ) → H x a → H y a → x ≡ y) (range : (x a : ℕ) → H x a → (1 ≤ x) × (x ≤ n)) where
  pub sound : (m a : ℕ) → T (up par m a) → Inside H a a → ⊥
  unfolding up
  sound zero a t p = t
  sound (suc m) a t p = go (eqb (par a) 0) (same (par a) 0) (sound m (par a)) t
    where
      r : (x : ℕ) × H x a × Within H x a
      r = first_step p

      above : par a ≡ r.0 → Within H r.0 a → Inside H (par a) (par a)
      above e (inl z) = subst (λ (y : ℕ). Inside H y y) (sym (e ∙ z)) p
      above e (inr w) = subst (λ (y : ℕ). Inside H y y) (sym e) (deeper w r.1)

      go : (b : Bool) → Same (par a) 0 b → (T (up par m (par a)) → Inside H (par a) (par a) → ⊥) → T (pick b true (up par m (par a))) → ⊥
      go true (it z) ih t = top a z r.0 r.1
      go false (other z) ih t = ih t (above (one a (par a) r.0 (holds a z) r.1) r.2)

  -- the ones above a
  chain : ℕ → ℕ → ℕ
  chain a zero = a
  chain a (suc j) = par (chain a j)

  shift : (a j : ℕ) → chain (par a) j ≡ chain a (suc j)
  unfolding chain
  shift a zero = refl
  shift a (suc j) = ap par (shift a j)

  high : (m a : ℕ) → up par m a ≡ false → (j : ℕ) → j < m → par (chain a j) ≢ 0
  unfolding up chain
  high zero a e j h = absurd (not-suc-le-zero h)
  high (suc m) a e j h = go (eqb (par a) 0) (same (par a) 0) (high m (par a)) e j h
    where
      go : (b : Bool) → Same (par a) 0 b → (up par m (par a) ≡ false → (j : ℕ) → j < m → par (chain (par a) j) ≢ 0)
          → pick b true (up par m (par a)) ≡ false → (j : ℕ) → j < suc m → par (chain a j) ≢ 0
      go true (it z) ih e j h = absurd (subst T e tt)
      go false (other z) ih e zero h = z
      go false (other z) ih e (suc j) h = subst (λ (y : ℕ). par y ≢ 0) (shift a j) (ih e j (le_of_suc-le-suc h))

  above : (m a : ℕ) → ((j : ℕ) → j < m → par (chain a j) ≢ 0) → (i j : ℕ) → i < j → j ≤ m → Inside H (chain a i) (chain a j)
  unfolding chain
  above m a h i zero l k = absurd (not-suc-le-zero l)
  above m a h i (suc j) l k = go (above m a h i j) (eq-or-lt_of_le (le_of_suc-le-suc l))
    where
      step : H (par (chain a j)) (chain a j)
      step = holds (chain a j) (h j k)

      go : (i < j → j ≤ m → Inside H (chain a i) (chain a j)) → (i ≡ j) ⊎ (i < j) → Inside H (chain a i) (par (chain a j))
      go ih (inl e) = direct (subst (λ (y : ℕ). H (par (chain a j)) (chain a y)) (sym e) step)
      go ih (inr q) = deeper (ih q (omega arith)) step

  pub complete : ((a : ℕ) → Inside H a a → ⊥) → (a : ℕ) → T (up par (suc n) a)
  complete no_loop_lem a = go (up par (suc n) a) refl
    where
      go : (b : Bool) → up par (suc n) a ≡ b → T b
      go true e = tt
      go false e =
          let h = high (suc n) a e in
          let r : (j : ℕ) → j < (suc n) → (1 ≤ chain a (suc j)) × (chain a (suc j) ≤ n) = λ j l. unfold chain in range (par (chain a j)) (chain a j)
          (holds (chain a j) (h j l)) in
          absurd (pigeon n (λ i. pred (chain a (suc i))) (λ i l. omega (arith, r i (omega arith)))
          (λ i j l k q. no_loop_lem (chain a (suc i))
          (subst (Inside H (chain a (suc i))) (omega (arith, r i (omega arith), r j (omega arith)))
          (above (suc n) a h (suc i) (suc j) (omega arith) (omega arith)))))

  -- the test for "it or inside it"
  pub climb_sound : (m c e : ℕ) → T (climb par m c e) → Within H c e
  unfolding climb
  climb_sound zero c e t = absurd t
  climb_sound (suc m) c e t = go (eqb c e) (eqb (par c) 0) (same c e) (same (par c) 0) (climb_sound m (par c) e) t
    where
      step : par c ≢ 0 → Within H (par c) e → Within H c e
      step z (inl q) = inr (direct (subst (λ (y : ℕ). H y c) q (holds c z)))
      step z (inr p) = inr (chained (direct (holds c z)) p)

      go : (a b : Bool) → Same c e a → Same (par c) 0 b → (T (climb par m (par c) e) → Within H (par c) e)
          → T (pick a true (pick b false (climb par m (par c) e))) → Within H c e
      go true b (it q) z ih t = inl q
      go false true (other q) (it z) ih t = absurd t
      go false false (other q) (other z) ih t = step z (ih t)

  pub climb_complete : (m c e : ℕ) → T (up par m c) → Within H c e → T (climb par m c e)
  unfolding climb up
  climb_complete zero c e u w = absurd u
  climb_complete (suc m) c e u w = go (eqb c e) (eqb (par c) 0) (same c e) (same (par c) 0) (climb_complete m (par c) e) u w
    where
      go : (a b : Bool) → Same c e a → Same (par c) 0 b → (T (up par m (par c)) → Within H (par c) e → T (climb par m (par c) e))
          → T (pick b true (up par m (par c))) → Within H c e
          → T (pick a true (pick b false (climb par m (par c) e)))
      go true b (it q) z ih u w = tt
      go false true (other q) (it z) ih u (inl r) = q r
      go false true (other q) (it z) ih u (inr p) = let r = first_step p in top c z r.0 r.1
      go false false (other q) (other z) ih u (inl r) = absurd (q r)
      go false false (other q) (other z) ih u (inr p) = let r = first_step p in ih u
          (subst (λ (y : ℕ). Within H y e) (one c r.0 (par c) r.1 (holds c z)) r.2)
