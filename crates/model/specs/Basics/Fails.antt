-- When a test fails: `Fails b P`, put together from the forms that conditions and rungs are made of.
use Rattle.std.specs.Prelude.{Bool, ◌&&◌, ◌||◌, false, not, true, ◌≡◌, refl, ◌<◌, ℕ, T, leb}
use Rattle.std.proofs.Common.{arith}
use Rattle.model.specs.Basics.Agree.{Agrees, agrees_T, agrees_le, agrees_not, agrees_twice}
use Rattle.model.specs.Basics.TestLaws.{fails_false, is_true}

-- the test b fails where P holds, and nowhere else
pub record Fails (b : Bool) (P : Type 0) : Type 0 where
  pub to : T (not b) → P
  pub from : P → T (not b)

-- it holds where P does not,
pub fails_holds : (b : Bool) {P : Type 0} → Fails b P → (P → ⊥) → b ≡ true
fails_holds true f n = refl
fails_holds false f n = absurd (n (f.to tt))

-- and does not where P does
pub fails_no : (b : Bool) {P : Type 0} → Fails b P → P → b ≡ false
fails_no b f p = fails_false b (f.from p)

-- a test that fails where P holds, and nowhere else, says that P does not hold
pub fails_agrees : {b : Bool} {P : Type 0} → Fails b P → Agrees b (P → ⊥)
fails_agrees {b} f = record { to = λ t p. (agrees_not (agrees_T b)).to (f.from p) t; from = λ n. is_true b (fails_holds b f n) }

-- a test whose negation agrees with a statement
pub fails_where : (b : Bool) {P : Type 0} → Agrees (not b) P → Fails b P
fails_where b a = record { to = a.to; from = a.from }

-- the same in other words
pub fails_as : {b : Bool} {P Q : Type 0} → (P → Q) → (Q → P) → Fails b P → Fails b Q
fails_as f g a = record { to = λ t. f (a.to t); from = λ q. a.from (g q) }

-- a test that agrees with a statement fails where that does not hold
pub fails_agreed : {b : Bool} {P : Type 0} → Agrees b P → Fails b (P → ⊥)
fails_agreed {b} a = fails_where b (agrees_not a)

-- a test whose failing is its own statement
pub fails_T : (b : Bool) → Fails b (T (not b))
fails_T b = record { to = λ t. t; from = λ t. t }

-- a negation fails where its test holds
pub fails_not : {b : Bool} {P : Type 0} → Agrees b P → Fails (not b) P
fails_not {b} a = fails_where (not b) (agrees_twice a)

-- `at most` fails where the second is less
pub fails_le : (m n : ℕ) → Fails (leb m n) (n < m)
fails_le m n = fails_as (λ f. omega (arith, f)) (λ l h. omega arith) (fails_agreed (agrees_le m n))

-- `or` fails where both parts do
pub fails_or : {a b : Bool} {P Q : Type 0} → Fails a P → Fails b Q → Fails (a || b) (P × Q)
fails_or {a} {b} p q = go a b p q
  where
    go : {P Q : Type 0} (a b : Bool) → Fails a P → Fails b Q → Fails (a || b) (P × Q)
    go true b p q = record { to = λ t. absurd t; from = λ z. p.from z.0 }
    go false b p q = record { to = λ t. (p.to tt, q.to t); from = λ z. q.from z.1 }

-- `and` fails where the first part's holding makes the second fail
pub fails_and : {a b : Bool} {P Q : Type 0} → Agrees a P → Fails b Q → Fails (a && b) (P → Q)
fails_and {a} {b} p q = go a b p q
  where
    go : {P Q : Type 0} (a b : Bool) → Agrees a P → Fails b Q → Fails (a && b) (P → Q)
    go true b p q = record { to = λ t x. q.to t; from = λ f. q.from (f (p.to tt)) }
    go false b p q = record { to = λ t x. absurd (p.from x); from = λ f. tt }
