-- What a test that holds, or does not, says of its parts.
use Rattle.std.specs.Prelude.{Bool, ◌&&◌, false, not, true, ◌≡◌, refl, ◌<◌, suc, zero, ℕ, T}
use Rattle.std.proofs.Common.{ap₂, subst, sym, arith}
use Rattle.model.specs.Basics.Choice.{pick}
use Rattle.model.specs.Basics.Tests.{every}

pub T-l : (a b : Bool) → T (a && b) → T a
T-l true b t = tt
T-l false b t = t

pub T-r : (a b : Bool) → T (a && b) → T b
T-r true b t = t
T-r false b t = absurd t

pub is_false : (b : Bool) → b ≡ false → T (not b)
is_false b e = subst (λ (x : Bool). T (not x)) (sym e) tt

pub is_true : (b : Bool) → b ≡ true → T b
is_true b e = subst T (sym e) tt

pub holds_true : (b : Bool) → T b → b ≡ true
holds_true true t = refl
holds_true false t = absurd t

pub fails_false : (b : Bool) → T (not b) → b ≡ false
fails_false true t = absurd t
fails_false false t = refl

-- two tests that pass for each other are one
pub equal_bools : (a b : Bool) → (T a → T b) → (T b → T a) → a ≡ b
equal_bools true true f g = refl
equal_bools true false f g = absurd (f tt)
equal_bools false true f g = absurd (g tt)
equal_bools false false f g = refl

-- tests that are the same below n are the same for every number below n
pub every_same : (n : ℕ) (p q : ℕ → Bool) → ((i : ℕ) → i < n → p i ≡ q i) → every n p ≡ every n q
unfolding every
every_same zero p q e = refl
every_same (suc n) p q e = ap₂ ◌&&◌ (e n (omega arith)) (every_same n p q (λ i h. e i (omega arith)))

-- a choice between true and false is its test
pub only : (b : Bool) → elim b [ true ↦ true | false ↦ false ] ≡ b
only true = refl
only false = refl

-- a choice whose test passes, whose test fails, and one between the same
pub pick_true : {A : Type 0} (b : Bool) (x y : A) → T b → pick b x y ≡ x
pick_true true x y t = refl
pick_true false x y t = absurd t

pub pick_false : {A : Type 0} (b : Bool) (x y : A) → T (not b) → pick b x y ≡ y
pick_false true x y t = absurd t
pick_false false x y t = refl

pub pick_same : {A : Type 0} (b : Bool) (x : A) → pick b x x ≡ x
pick_same true x = refl
pick_same false x = refl
