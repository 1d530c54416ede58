-- Rule 8.5: the check's answer is the lowest number that the words earn.
use Rattle.std.specs.Prelude.{Bool, false, true, List, ◌≡◌, ◌<◌, ℕ, eqb, length}
use Rattle.std.proofs.Common.{arith}
use Rattle.mms.specs.Calls.{Unsound, bad_length, not_secure, not_well_formed}
use Rattle.model.specs.Basics.Agree.{Agrees, agrees_eq}
use Rattle.model.specs.List.Further.{checked}
use Rattle.model.specs.Request.Applies.{Lowest, lowest, none}
use Rattle.model.specs.State.Agree.{well_formed_agrees}
use Rattle.model.specs.State.AgreeSecure.{secure_agrees}
use Rattle.model.specs.State.Check.{check, judge, secure_test, well_formed_test}
use Rattle.model.specs.State.Secure.{Secure}
use Rattle.model.specs.State.WellFormed.{WellFormed}
use Rattle.model.specs.Tables.Layout.{tables_of, word_count}
use Rattle.model.specs.Tables.LayoutLaws.{bounded}
use Rattle.model.specs.Request.Refusals as refusal

-- What the words lack, where a, w and s tell their length, well-formed and secure.
earned : (t : List ℕ) (a w s : Bool) → Agrees a (length t ≡ word_count) → Agrees w (WellFormed (tables_of t))
    → (WellFormed (tables_of t) → Agrees s (Secure (tables_of t))) → Lowest (Unsound t) (checked a w s)
earned t false w s x y z = lowest (bad_length (λ e. x.from e)) (λ m h u. under_one h u)
  where
    under_one : {m : ℕ} → m < refusal.bad_length → Unsound t m → ⊥
    under_one h (bad_length f) = omega arith
    under_one h (not_well_formed f) = omega arith
    under_one h (not_secure f) = omega arith
earned t true false s x y z = lowest (not_well_formed (λ e. y.from e)) (λ m h u. under_two h u)
  where
    under_two : {m : ℕ} → m < refusal.not_well_formed → Unsound t m → ⊥
    under_two h (bad_length f) = f (x.to tt)
    under_two h (not_well_formed f) = omega arith
    under_two h (not_secure f) = omega arith
earned t true true false x y z = lowest (not_secure (λ e. (z (y.to tt)).from e)) (λ m h u. under_three h u)
  where
    under_three : {m : ℕ} → m < refusal.not_secure → Unsound t m → ⊥
    under_three h (bad_length f) = f (x.to tt)
    under_three h (not_well_formed f) = f (y.to tt)
    under_three h (not_secure f) = omega arith
earned t true true true x y z = none (λ m u. nothing u)
  where
    nothing : {m : ℕ} → Unsound t m → ⊥
    nothing (bad_length f) = f (x.to tt)
    nothing (not_well_formed f) = f (y.to tt)
    nothing (not_secure f) = f ((z (y.to tt)).to tt)

pub check_lowest_lem : (t : List ℕ) → Lowest (Unsound t) (check t)
unfolding check judge
check_lowest_lem t = earned t (eqb (length t) word_count) (well_formed_test (tables_of t)) (secure_test (tables_of t)) (agrees_eq (length t) word_count)
    (well_formed_agrees (tables_of t) (bounded t)) (secure_agrees (tables_of t))
