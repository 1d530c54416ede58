-- A choice that computes, and the two questions "is this the one" and "is this before it" with their answers as facts.
use Rattle.std.specs.Prelude.{Bool, false, not, true, ◌≢◌, ◌≡◌, refl, ◌<◌, ◌≤◌, ℕ, T, eqb, ltb}
use Rattle.std.proofs.Common.{subst, sym, eqb→eq, ltb→lt, nltb→le}
use Rattle.std.proofs.Math.Dec.{eqb_refl}

abbrev pub pick {ℓ} : {A : Type ℓ} → Bool → A → A → A
pick true a b = a
pick false a b = b

pub data Same (x e : ℕ) : Bool → Type 0 where
  it : x ≡ e → Same x e true
  other : x ≢ e → Same x e false

pub data Below (i k : ℕ) : Bool → Type 0 where
  under : i < k → Below i k true
  over : k ≤ i → Below i k false

same_of : (x e : ℕ) (b : Bool) → eqb x e ≡ b → Same x e b
same_of x e true p = it (eqb→eq x e (subst T (sym p) tt))
same_of x e false p = other (λ q. subst T p (subst (λ (y : ℕ). T (eqb x y)) q (eqb_refl x)))

pub same : (x e : ℕ) → Same x e (eqb x e)
same x e = same_of x e (eqb x e) refl

below_of : (i k : ℕ) (b : Bool) → ltb i k ≡ b → Below i k b
below_of i k true p = under (ltb→lt i k (subst T (sym p) tt))
below_of i k false p = over (nltb→le i k (subst (λ (b : Bool). T (not b)) (sym p) tt))

pub below : (i k : ℕ) → Below i k (ltb i k)
below i k = below_of i k (ltb i k) refl
