-- Whether all numbers of a range pass a test, as `all` asks, is `every`.
use Rattle.std.specs.Prelude.{Bool, false, true, List, Option, ◌≡◌, ◌+◌, ◌<◌, suc, ℕ, length}
use Rattle.std.proofs.Common.{◌∙◌, ap, sym, subst, add-one, arith, zero-add}
use Rattle.std.proofs.lemmas.Iterator.{YieldsList-from_range, cases_from_all}
use Rattle.std.specs.List.{AllWithin, FoldsTo, HoldsAt, range_with_len}
use Rattle.std.proofs.lemmas.List.FromFn.{get_or-range_with_len, length-range_with_len}
use Rattle.std.specs.Iterator.{YieldsThen}
use Rattle.std.specs.Bool.{MatchBool}
use Rattle.std.specs.Option.{MatchOption}
use Rattle.std.specs.Fn.{Called, Mut}
use Rattle.std.specs.declared.ops.Range.{Range}
use Rattle.std.proofs.iter.Yields.{nat_range_steps}
use Rattle.laws.specs.Loops.{every_fails, every_of}
use Rattle.model.specs.Basics.TestLaws.{holds_true, is_true}
use Rattle.model.specs.Basics.Tests.{every}

-- what every number below n passes, or one of them does not
cases : (n : ℕ) (p : ℕ → Bool) (r : Bool)
    → MatchBool r (AllWithin (λ x. p x ≡ true) (range_with_len 0 n) 0 (length (range_with_len 0 n)))
    ((k : ℕ) × (k < length (range_with_len 0 n)) × HoldsAt (λ x. p x ≡ false) (range_with_len 0 n) k) → r ≡ every n p
cases n p true f = sym (holds_true (every n p) (every_of n p (λ i h. is_true (p i)
    (subst (λ (x : ℕ). p x ≡ true) (get_or-range_with_len 0 n i 0 h ∙ zero-add i) (f i 0 (omega arith) (omega (arith, length-range_with_len 0 n)))))))
cases n p false f =
    let h : f.0 < n = omega (arith, f.1, length-range_with_len 0 n) in
    every_fails n p f.0 h (subst (λ (x : ℕ). p x ≡ false) (get_or-range_with_len 0 n f.0 0 h ∙ zero-add f.0) (f.2 0))

-- the numbers below n in turn, each of which the closure f answers as p does
pub every_all : {F : Type 0} {g : Mut F (ℕ × Unit {0}) Bool} (s u : Range ℕ) (f : F) (r : Bool) (n : ℕ) (p : ℕ → Bool)
    → (xs : List ℕ) × (o : Option ℕ) × (j : F) × YieldsThen nat_range_steps s xs o u × FoldsTo (λ a x q. Called g a (x, tt) true q) f xs j
    × MatchOption o (r ≡ true) (λ x. (r ≡ false) × ((h : F) × Called g j (x, tt) false h))
    → s ≡ record { start = 0; end = n } → ((x : ℕ) (b : Bool) (q : F) → Called g f (x, tt) b q → (q ≡ f) × (b ≡ p x)) → r ≡ every n p
every_all s u f r n p ran se calls = cases n p r
    (cases_from_all u f r (λ x. p x ≡ true) (λ x. p x ≡ false) ran (YieldsList-from_range 0 n n se (omega arith))
    (λ x q k. let z = calls x true q k in (z.0, sym z.1)) (λ x q k. sym (calls x false q k).1))

-- the same of records, which are numbered from 1
pub each_all : {F : Type 0} {g : Mut F (ℕ × Unit {0}) Bool} (s u : Range ℕ) (f : F) (r : Bool) (n : ℕ) (p : ℕ → Bool)
    → (xs : List ℕ) × (o : Option ℕ) × (j : F) × YieldsThen nat_range_steps s xs o u × FoldsTo (λ a x q. Called g a (x, tt) true q) f xs j
    × MatchOption o (r ≡ true) (λ x. (r ≡ false) × ((h : F) × Called g j (x, tt) false h))
    → s ≡ record { start = 0; end = n } → ((x : ℕ) (b : Bool) (q : F) → Called g f (x, tt) b q → (q ≡ f) × (b ≡ p (x + 1)))
    → r ≡ every n (λ k. p (suc k))
each_all s u f r n p ran se calls = every_all s u f r n (λ k. p (suc k)) ran se
    (λ x b q k. let z = calls x b q k in (z.0, z.1 ∙ ap p (add-one x)))
