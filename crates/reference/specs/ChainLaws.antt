-- A chain that asks a test of 0, 1, .. below a bound finds one that passes exactly where the model does.
use Rattle.std.specs.Prelude.{Bool, ◌&&◌, ◌||◌, not, false, true, ◌≡◌, ◌+◌, suc, zero, ℕ, refl}
use Rattle.std.specs.List.{list_any, range_with_len}
use Rattle.std.proofs.Common.{◌∙◌, ap, arith}
use Rattle.model.specs.Basics.Tests.{every}

-- whether none fails, asked from the last number, is whether one passes, asked from the first
some_front : (n : ℕ) (p : ℕ → Bool) → (p 0 || not (every n (λ k. not (p (suc k))))) ≡ not (every (suc n) (λ k. not (p k)))
unfolding every
some_front zero p = go (p 0)
  where
    go : (b : Bool) → (b || false) ≡ not (not b && true)
    go true = refl
    go false = refl
some_front (suc n) p = go (p 0) (p (suc n)) (every n (λ k. not (p (suc k)))) (every (suc n) (λ k. not (p k))) (some_front n p)
  where
    go : (a b c r : Bool) → (a || not c) ≡ not r → (a || not (not b && c)) ≡ not (not b && r)
    go true true c r e = refl
    go false true c r e = refl
    go a false c r e = e

range_any : (n a : ℕ) (p q : ℕ → Bool) → ((k : ℕ) → p (a + k) ≡ q k) → list_any p (range_with_len a n) ≡ not (every n (λ k. not (q k)))
unfolding every
range_any zero a p q h = refl
range_any (suc n) a p q h =
    let here : a ≡ a + 0 = omega arith in
    ap (λ (b : Bool). p a || b) (range_any n (a + 1) p (λ k. q (suc k)) (λ k. let e : a + 1 + k ≡ a + suc k = omega arith in ap p e ∙ h (suc k)))
    ∙ ap (λ (b : Bool). b || not (every n (λ k. not (q (suc k))))) (ap p here ∙ h 0) ∙ some_front n q

pub some_chain : (n : ℕ) (p : ℕ → Bool) → list_any p (range_with_len 0 n) ≡ not (every n (λ k. not (p k)))
some_chain n p = range_any n 0 p p (λ k. let e : 0 + k ≡ k = omega arith in ap p e)
