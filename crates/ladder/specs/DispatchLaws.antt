-- The choice of an operation by its number: what an arm may rely on, and what a number says that is no operation's. The arms are those of a type, so
-- that none is left over.
use Rattle.std.specs.Prelude.{Bool, false, not, true, List, [], ◌∷◌, ◌≢◌, ◌≡◌, refl, suc, ℕ, eqb}
use Rattle.std.proofs.Math.Option.{Option, none, some}
use Rattle.std.proofs.Common.{◌∙◌, ap, sym, arith, eq-eqb, eqb-true}
use Rattle.std.proofs.lemmas.Bool.{not-false}
use Rattle.ladder.specs.Path.{arity_of}
use Rattle.laws.specs.Bools.{clash}
use Rattle.model.specs.Basics.Choice.{Same, it, same}
use Rattle.model.specs.Request.Form.{taken}
use Rattle.model.specs.Request.Ladder.{fits, of_op}
use Rattle.model.specs.Request.LadderLaws.{of_op_some}
use Rattle.model.proofs.Request.OperationLaws.{number_op_of}
use Rattle.model.specs.Request.Operations.{Op, number_of, op_of, operations, with_number}
use Rattle.model.specs.Request.Words.{Request}

-- a number is that of an operation
pub named_as : (q : Request) (o : Op) → q.operation ≡ number_of o → op_of q.operation ≡ some o
named_as q o e = ap op_of e ∙ number_op_of o

-- the form of the operation that the number names
pub fits_named : (q : Request) (o : Op) → q.operation ≡ number_of o → fits o q ≡ of_op q (λ p. fits p q)
fits_named q o e = sym (of_op_some q o (named_as q o e) (λ p. fits p q))

-- the number of no operation: the request names none
pub none_meant : (p : Op → Bool) (q : Request) → op_of q.operation ≡ none → false ≡ of_op q p
unfolding of_op
none_meant p q e = rw (e, of_op)

-- how many operands the operation of a number takes
pub arity_named : (q : Request) (o : Op) → q.operation ≡ number_of o → arity_of q ≡ taken o
unfolding arity_of
arity_named q o e = rw (named_as q o e, arity_of)

-- ---- a choice by the number itself, over lists of numbers

-- n is none of a list of numbers, as a match leaves it: the arms in their order
abbrev pub NoneFrom : Type 0 → List ℕ → ℕ → Type 0
NoneFrom A [] n = A
NoneFrom A (x ∷ xs) n = NoneFrom (A × (n ≢ x)) xs n

abbrev pub NoneOf : List ℕ → ℕ → Type 0
NoneOf xs n = NoneFrom Unit xs n

-- the numbers of the operations that p chooses
unfoldable pub numbers_of : (Op → Bool) → List Op → List ℕ
numbers_of p [] = []
numbers_of p (o ∷ os) = elim (p o) [ true ↦ number_of o ∷ numbers_of p os | false ↦ numbers_of p os ]

none_base : (A : Type 0) (xs : List ℕ) (n : ℕ) → NoneFrom A xs n → A
none_base A [] n r = r
none_base A (x ∷ xs) n r = (none_base (A × (n ≢ x)) xs n r).0

-- what p chooses has its arm: it is not left over
none_chosen : (A : Type 0) (p : Op → Bool) (os : List Op) (n : ℕ) (o : Op) → with_number n os ≡ some o → NoneFrom A (numbers_of p os) n → p o ≡ false
unfolding numbers_of with_number
none_chosen A p [] n o e r = absurd (let z : ◌≡◌ {A = ℕ} 0 1 = cc in omega arith)
none_chosen A p (x ∷ os) n o e r = go (p x) (eqb (number_of x) n) refl (same (number_of x) n) (λ B. none_chosen B p os n o) e r
  where
    go : (a b : Bool) → p x ≡ a → Same (number_of x) n b
        → ((B : Type 0) → with_number n os ≡ some o → NoneFrom B (numbers_of p os) n → p o ≡ false)
        → elim b [ true ↦ some x | false ↦ with_number n os ] ≡ some o
        → NoneFrom A (elim a [ true ↦ number_of x ∷ numbers_of p os | false ↦ numbers_of p os ]) n → p o ≡ false
    go true true h (it z) f w r = absurd ((none_base (A × (n ≢ number_of x)) (numbers_of p os) n r).1 (sym z))
    go true false h z f w r = f (A × (n ≢ number_of x)) w r
    go false true h z f w r = let y : x ≡ o = cc in rw (sym y) h
    go false false h z f w r = f A w r

pub none_left : {P : Type 0} (p : Op → Bool) (q : Request) → of_op q p ≡ true → NoneOf (numbers_of p operations) q.operation → P
unfolding of_op op_of
none_left {P = P} p q h r = go (op_of q.operation) refl h
  where
    go : (m : Option Op) → op_of q.operation ≡ m → elim m [ none ↦ false | some o ↦ p o ] ≡ true → P
    go none e z = clash false z refl
    go (some o) e z = clash (p o) z (none_chosen Unit p operations q.operation o e r)

-- none of the numbers of all operations: the request names none
pub none_named : (p : Op → Bool) (q : Request) → NoneOf (numbers_of (λ o. true) operations) q.operation → false ≡ of_op q p
unfolding of_op op_of
none_named p q r = go (op_of q.operation) refl
  where
    go : (m : Option Op) → op_of q.operation ≡ m → false ≡ elim m [ none ↦ false | some o ↦ p o ]
    go none e = refl
    go (some o) e = clash true refl (none_chosen Unit (λ o. true) operations q.operation o e r)

-- an operation that is not one of those that p chooses is another
pub none_other : (p : Op → Bool) (q : Request) (o : Op) → op_of q.operation ≡ some o → NoneOf (numbers_of p operations) q.operation → p o ≡ false
unfolding op_of
none_other p q o e r = none_chosen Unit p operations q.operation o e r

pub one_over : (q : Request) → of_op q (λ o. true) ≡ true → NoneOf (numbers_of (λ o. not (eqb (taken o) 1)) operations) q.operation → arity_of q ≡ 1
unfolding of_op arity_of
one_over q h r = go (op_of q.operation) refl h
  where
    go : (m : Option Op) → op_of q.operation ≡ m → elim m [ none ↦ false | some o ↦ true ] ≡ true
        → ◌≡◌ {A = ℕ} (elim m [ none ↦ 0 | some o ↦ taken o ]) 1
    go none e z = clash false z refl
    go (some o) e z = eqb-true (taken o) 1 (not-false _ (none_other (λ o. not (eqb (taken o) 1)) q o e r))

-- a request of n operands is for an operation of n operands
pub of_arity : (q : Request) (n : ℕ) → arity_of q ≡ suc n → of_op q (λ o. eqb (taken o) (suc n)) ≡ true
unfolding of_op arity_of
of_arity q n h = go (op_of q.operation) h
  where
    go : (m : Option Op) → elim m [ none ↦ 0 | some o ↦ taken o ] ≡ suc n → elim m [ none ↦ false | some o ↦ eqb (taken o) (suc n) ] ≡ true
    go none z = absurd (omega arith)
    go (some o) z = eq-eqb (taken o) (suc n) z
