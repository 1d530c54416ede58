-- Tests as equations, which is how a branch of code tells its outcome.
use Rattle.std.specs.Prelude.{Bool, ◌&&◌, ◌||◌, false, not, true, ◌⊎◌, ◌≡◌, refl, T}
use Rattle.std.proofs.lemmas.Bool.{false≢true}
use Rattle.std.proofs.Common.{true≢false, inl, inr, ◌∙◌, subst, sym}
use Rattle.model.specs.Basics.Agree.{Agrees}
use Rattle.model.specs.Basics.Choice.{pick}
use Rattle.model.specs.Basics.TestLaws.{equal_bools, holds_true, only}
use Rattle.model.specs.Basics.Tests.{imp}

-- a test that never passes is false
pub fails : (b : Bool) → (T b → ⊥) → b ≡ false
fails true h = absurd (h tt)
fails false h = refl

pub refuted : (b : Bool) → b ≡ false → T b → ⊥
refuted b e t = subst T e t

pub clash : {P : Type 0} (b : Bool) → b ≡ true → b ≡ false → P
clash b t f = absurd (true≢false (sym t ∙ f))

-- two tests that agree with one statement are one
pub agreed : (a b : Bool) {P : Type 0} → Agrees a P → Agrees b P → a ≡ b
agreed a b p q = equal_bools a b (λ t. q.from (p.to t)) (λ t. p.from (q.to t))

-- a test that was found true, or false, from a statement that it agrees with
pub agreed_true : (b : Bool) {P : Type 0} → Agrees b P → P → true ≡ b
agreed_true b a p = sym (holds_true b (a.from p))

pub agreed_false : (b : Bool) {P : Type 0} → Agrees b P → (P → ⊥) → false ≡ b
agreed_false b a n = sym (fails b (λ t. n (a.to t)))

-- "where a, then b" is "not a, or b"
pub or_imp : (a b : Bool) → (not a || b) ≡ imp a b
unfolding imp
or_imp true b = refl
or_imp false b = refl

-- `and`, `or` and `not` of tests that are known
pub and_l : (a b : Bool) → (a && b) ≡ true → a ≡ true
and_l true b e = refl
and_l false b e = e

pub and_r : (a b : Bool) → (a && b) ≡ true → b ≡ true
and_r true b e = e
and_r false b e = absurd (false≢true e)

pub both : (a b : Bool) → a ≡ true → b ≡ true → (a && b) ≡ true
both true b p q = q
both false b p q = p

pub not_yes : (b : Bool) → not b ≡ true → b ≡ false
not_yes true e = sym e
not_yes false e = refl

pub not_no : (b : Bool) → not b ≡ false → b ≡ true
not_no true e = refl
not_no false e = sym e

pub or_cases : (a b : Bool) → (a || b) ≡ true → (a ≡ true) ⊎ (b ≡ true)
or_cases true b e = inl refl
or_cases false b e = inr e

pub neither_l : (a b : Bool) → (a || b) ≡ false → a ≡ false
neither_l true b e = e
neither_l false b e = refl

pub neither_r : (a b : Bool) → (a || b) ≡ false → b ≡ false
neither_r true b e = absurd (true≢false e)
neither_r false b e = e

-- a choice whose test is known
pub pick_yes : {A : Type 0} (b : Bool) (x y : A) → b ≡ true → pick b x y ≡ x
pick_yes true x y e = refl
pick_yes false x y e = absurd (false≢true e)

pub pick_no : {A : Type 0} (b : Bool) (x y : A) → b ≡ false → pick b x y ≡ y
pick_no true x y e = absurd (true≢false e)
pick_no false x y e = refl

-- a choice between two tests agrees with what each of them says where it is chosen
pub agrees_pick : {c a b : Bool} {C P Q : Type 0} → Agrees c C → Agrees a P → Agrees b Q → Agrees (pick c a b) ((C → P) × ((C → ⊥) → Q))
agrees_pick {c} {a} {b} {C} {P} {Q} x y z = record { to = go c x; from = back c x }
  where
    go : (c : Bool) → Agrees c C → T (pick c a b) → (C → P) × ((C → ⊥) → Q)
    go true x t = (λ h. y.to t, λ n. absurd (n (x.to tt)))
    go false x t = (λ h. absurd (x.from h), λ n. z.to t)

    back : (c : Bool) → Agrees c C → (C → P) × ((C → ⊥) → Q) → T (pick c a b)
    back true x w = y.from (w.0 (x.to tt))
    back false x w = z.from (w.1 (λ h. x.from h))

-- "not a, then b" is "a, or b"
pub or_imp_not : (a b : Bool) → (a || b) ≡ imp (not a) b
unfolding imp
or_imp_not true b = refl
or_imp_not false b = refl

-- `and` of two tests that are asked of every number is asked of every number
pub and_comm : (a b : Bool) → (a && b) ≡ (b && a)
and_comm true true = refl
and_comm true false = refl
and_comm false true = refl
and_comm false false = refl

pub and_T : (a b : Bool) → T a → T b → T (a && b)
and_T true b s t = t
and_T false b s t = s

-- three tests in a row
pub and_assoc : (a b c : Bool) → ((a && b) && c) ≡ (a && (b && c))
and_assoc true b c = refl
and_assoc false b c = refl

-- two choices in a row between true and false are `or`
pub either : (a b : Bool) → elim a [ true ↦ true | false ↦ elim b [ true ↦ true | false ↦ false ] ] ≡ (a || b)
either true b = refl
either false b = only b

-- one of two tests fails where not both pass
pub joined : (a b : Bool) → (not a || not b) ≡ not (a && b)
joined true b = refl
joined false b = refl

-- a condition on two tests is a condition on each; two conditions can be asked in either order
pub imp_both : (l a k b : Bool) → imp l (a && imp k b) ≡ (imp l a && imp k (imp l b))
unfolding imp
imp_both true a k b = refl
imp_both false a true b = refl
imp_both false a false b = refl

-- "where a and z, then b" holds once "not a, or b" does
pub imp_quiet : (a b z : Bool) → (not a || b) ≡ true → imp a (imp z b) ≡ true
unfolding imp
imp_quiet true b true h = h
imp_quiet true b false h = refl
imp_quiet false b z h = refl

-- it is "not z" once "not a, or b" does not hold
pub imp_shown : (a b z : Bool) → (not a || b) ≡ false → imp a (imp z b) ≡ not z
unfolding imp
imp_shown true true z h = absurd (refuted true h tt)
imp_shown true false true h = refl
imp_shown true false false h = refl
imp_shown false b z h = absurd (refuted true h tt)
