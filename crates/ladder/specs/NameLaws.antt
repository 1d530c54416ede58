-- Rules 5.2 and 5.4: how many names the references have of a request that has passed rung 5.
use Rattle.std.specs.Prelude.{false, ◌≡◌}
use mathlib.Core.List.{List, [], ◌∷◌}
use Rattle.std.proofs.Math.Option.{Option, none, some}
use Rattle.std.proofs.Common.{◌∙◌, subst, arith}
use Rattle.std.proofs.Math.Path.{refl}
use Prim.Native.Nat.{◌≤◌, suc, ℕ}
use Rattle.std.proofs.Math.Dec.{T}
use Rattle.std.proofs.Math.ListN.{length}
use Rattle.ladder.specs.ClimbLaws.{passed_lower}
use Rattle.ladder.specs.Contract.{Climbed, Passed}
use Rattle.ladder.specs.Path.{arity_of}
use Rattle.laws.specs.Bools.{not_no}
use Rattle.model.specs.Basics.Agree.{agrees_and, agrees_le}
use Rattle.model.specs.Basics.TestLaws.{T-l, T-r, is_true}
use Rattle.model.proofs.Request.FitLaws.{operands_taken}
use Rattle.model.specs.Request.Form.{taken}
use Rattle.model.specs.Request.Conditions.{Kind}
use Rattle.model.specs.Request.Ladder.{applies, fits, ladder, length_fits, never, not_understood, of_op, rung_at}
use Rattle.model.proofs.Request.OperationLaws.{number_range, op_of_number}
use Rattle.model.specs.Request.Operations.{Op, op_of, row_of}
use Rattle.model.specs.Request.Words.{Reference, Request, name_count, request_of}
use Rattle.model.specs.Request.Refusals as refusal
use Rattle.model.specs.Tables.Layout.{tables_of}
use Rattle.model.specs.Tables.Words.{Tables, operation_count}

-- a request that passes rung 5 fits its operation
fitting : (d : Tables) (q : Request) (o : Op) → Passed refusal.bad_request d q → op_of q.operation ≡ some o → T (fits o q)
unfolding applies rung_at never ladder not_understood of_op
fitting d q o p e = subst (λ (m : Option Op). T (elim m [ none ↦ false | some o ↦ fits o q ])) e
    (is_true (of_op q (λ o. fits o q)) (not_no (of_op q (λ o. fits o q)) (p refusal.bad_request (omega arith))))

-- a reference that is taken has one to four names
taken_length : (r : Reference) (x : Kind) (xs : List Kind) → T (length_fits 0 (x ∷ xs) r) → (1 ≤ r.length) × (r.length ≤ name_count)
unfolding length_fits
taken_length r x xs t = (agrees_and (agrees_le 1 r.length) (agrees_le r.length name_count)).to t

module _ (d : Tables) (q : Request) (p : Passed refusal.bad_request d q) where
  pub first_length : (n : ℕ) → arity_of q ≡ suc n → (1 ≤ q.first.length) × (q.first.length ≤ name_count)
  unfolding arity_of fits
  first_length n h = go (op_of q.operation) refl h
    where
      list : (xs : List Kind) → length xs ≡ suc n → T (length_fits 0 xs q.first) → (1 ≤ q.first.length) × (q.first.length ≤ name_count)
      list [] z t = absurd (omega arith)
      list (x ∷ xs) z t = taken_length q.first x xs t

      go : (m : Option Op) → op_of q.operation ≡ m → elim m [ none ↦ 0 | some o ↦ taken o ] ≡ suc n → (1 ≤ q.first.length) × (q.first.length ≤ name_count)
      go none e z = absurd (omega arith)
      go (some o) e z = list (row_of o).operands (operands_taken o ∙ z) (T-l (length_fits 0 (row_of o).operands q.first) _ (fitting d q o p e))

  pub second_length : (n : ℕ) → arity_of q ≡ suc (suc n) → (1 ≤ q.second.length) × (q.second.length ≤ name_count)
  unfolding arity_of fits length_fits
  second_length n h = go (op_of q.operation) refl h
    where
      list : (xs : List Kind) → length xs ≡ suc (suc n) → T (length_fits 1 xs q.second) → (1 ≤ q.second.length) × (q.second.length ≤ name_count)
      list [] z t = absurd (omega arith)
      list (x ∷ []) z t = absurd (omega arith)
      list (x ∷ y ∷ xs) z t = taken_length q.second y xs t

      go : (m : Option Op) → op_of q.operation ≡ m → elim m [ none ↦ 0 | some o ↦ taken o ] ≡ suc (suc n)
          → (1 ≤ q.second.length) × (q.second.length ≤ name_count)
      go none e z = absurd (omega arith)
      go (some o) e z = list (row_of o).operands (operands_taken o ∙ z) (T-l (length_fits 1 (row_of o).operands q.second) _
          (T-r (length_fits 0 (row_of o).operands q.first) _ (fitting d q o p e)))

-- ---- over the words of a request that has passed rung 5

module _ (t q : List ℕ) (u m : ℕ) (k : Climbed m t q u) (l : refusal.bad_request ≤ m) where
  fifth : Passed refusal.bad_request (tables_of t) (request_of q)
  fifth = passed_lower (tables_of t) (request_of q) refusal.bad_request m l k.passed

  -- the first reference has one to four names, and so has the second
  pub first_in : (n : ℕ) → arity_of (request_of q) ≡ suc n → (1 ≤ (request_of q).first.length) × ((request_of q).first.length ≤ name_count)
  first_in n a = first_length (tables_of t) (request_of q) fifth n a

  pub second_in : (n : ℕ) → arity_of (request_of q) ≡ suc (suc n) → (1 ≤ (request_of q).second.length) × ((request_of q).second.length ≤ name_count)
  second_in n a = second_length (tables_of t) (request_of q) fifth n a

  -- the operation is one of those there are
  pub operation_in_lem : (n : ℕ) → arity_of (request_of q) ≡ suc n → (request_of q).operation ≤ operation_count
  unfolding arity_of
  operation_in_lem n a = go (op_of (request_of q).operation) refl a
    where
      go : (m : Option Op) → op_of (request_of q).operation ≡ m → elim m [ none ↦ 0 | some o ↦ taken o ] ≡ suc n → (request_of q).operation ≤ operation_count
      go none e z = absurd (omega arith)
      go (some o) e z = omega (arith, op_of_number (request_of q).operation o e, number_range o)
