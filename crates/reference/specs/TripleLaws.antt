-- One look at each triple of an entity decides what the model asks of all of them for the user and for each role.
use Rattle.std.proofs.Math.Bool.{not}
use Rattle.std.specs.Prelude.{◌⊎◌, ◌≡◌}
use Rattle.std.proofs.Math.Logic.{inl, inr}
use Rattle.std.proofs.Common.{◌∙◌}
use Rattle.std.proofs.Math.Path.{ap, subst}
use Prim.Native.Nat.{◌%◌, ◌*◌, ◌+◌, ◌-◌, ◌<◌, ◌≤◌, ℕ}
use native.Mathlib.Omega.{arith}
use Rattle.std.proofs.Math.Dec.{T}
use Rattle.model.specs.Basics.Agree.{Agrees, agrees_T, agrees_and, agrees_eq, agrees_le, agrees_or, agrees_some}
use Rattle.model.specs.Basics.TestLaws.{equal_bools}
use Rattle.model.specs.Basics.Tests.{every}
use Rattle.model.specs.Level.{bit}
use Rattle.model.specs.Request.Allowed.{Permitted}
use Rattle.model.specs.Request.Ladder.{permits}
use Rattle.model.proofs.Request.TestLaws.{permits_agrees}
use Rattle.model.specs.Tables.Words.{Tables, current, operation_count, operation_weight, place_count, position_count, triple_of, triples}
use Rattle.model.specs.Tables.Words.{who_most, who_of, who_role, who_weight}
use Rattle.reference.specs.Ways.{admits}

-- what a triple that admits says
abbrev Admits : ℕ → ℕ → ℕ → ℕ → Type 0
Admits u roles key x = (x % who_weight ≡ key)
    × ((who_of x ≡ u) ⊎ ((who_role 0 ≤ who_of x) × ((who_of x ≤ who_most) × T (bit (who_of x - who_role 0) roles))))

admits_agrees : (u roles key x : ℕ) → Agrees (admits u roles key x) (Admits u roles key x)
unfolding admits
admits_agrees u roles key x = agrees_and (agrees_eq (x % who_weight) key) (agrees_or (agrees_eq (who_of x) u)
    (agrees_and (agrees_le (who_role 0) (who_of x)) (agrees_and (agrees_le (who_of x) who_most) (agrees_T (bit (who_of x - who_role 0) roles)))))

-- a number is a triple exactly where it has these two parts
whole : (w o k x : ℕ) → x % who_weight ≡ o * operation_weight + k → who_of x ≡ w → x ≡ triple_of w o k
whole w o k x p q = omega arith

parts : (w o k : ℕ) → o ≤ operation_count → k ≤ position_count → (triple_of w o k % who_weight ≡ o * operation_weight + k) × (who_of (triple_of w o k) ≡ w)
parts w o k h l = omega arith

module _ (d : Tables) (u o k e : ℕ) (h : o ≤ operation_count) (l : k ≤ position_count) where
  Some : Type 0
  Some = (i : ℕ) × (i < place_count) × Admits u (d.user u current) (o * operation_weight + k) (triples d e i)

  some_permitted : Some → Permitted d u o k e
  unfolding Some
  some_permitted s = go s.2.1
    where
      x : ℕ
      x = triples d e s.0

      go : (who_of (triples d e s.0) ≡ u) ⊎ ((who_role 0 ≤ who_of (triples d e s.0)) × ((who_of (triples d e s.0) ≤ who_most)
          × T (bit (who_of (triples d e s.0) - who_role 0) (d.user u current)))) → Permitted d u o k e
      go (inl q) = inl (s.0, s.1, whole u o k (triples d e s.0) s.2.0 q)
      go (inr q) = inr (
        who_of (triples d e s.0) - who_role 0,
        omega (arith, q.0, q.1),
        q.1.1,
        (s.0, s.1, whole (who_role (who_of (triples d e s.0) - who_role 0)) o k (triples d e s.0) s.2.0 (omega (arith, q.0))),
      )

  permitted_some : Permitted d u o k e → Some
  unfolding Some
  permitted_some (inl m) =
      let p = parts u o k h l in
      (m.0, m.1, (ap (λ (x : ℕ). x % who_weight) m.2 ∙ p.0, inl (ap (λ (x : ℕ). who_of x) m.2 ∙ p.1)))
  permitted_some (inr z) =
      let p = parts (who_role z.0) o k h l in
      let m = z.3 in
      let w : who_of (triples d e m.0) ≡ who_role z.0 = ap (λ (x : ℕ). who_of x) m.2 ∙ p.1 in
      let r : z.0 ≡ who_of (triples d e m.0) - who_role 0 = omega arith in (
        m.0,
        m.1,
        (
          ap (λ (x : ℕ). x % who_weight) m.2 ∙ p.0,
          inr (
            omega arith,
            (
              omega (arith, z.1),
              subst (λ (b : ℕ). T (bit b (d.user u current))) r z.2,
            ),
          ),
        ),
      )

  -- some triple admits the user exactly where the model permits the operation
  pub permits_some : not (every place_count (λ i. not (admits u (d.user u current) (o * operation_weight + k) (triples d e i)))) ≡ permits d u o k e
  unfolding Some
  permits_some = equal_bools _ (permits d u o k e) (λ t. (permits_agrees d u o k e).from (some_permitted (left.to t)))
      (λ t. left.from (permitted_some ((permits_agrees d u o k e).to t)))
    where
      left : Agrees (not (every place_count (λ i. not (admits u (d.user u current) (o * operation_weight + k) (triples d e i)))))
          ((i : ℕ) × (i < place_count) × Admits u (d.user u current) (o * operation_weight + k) (triples d e i))
      left = agrees_some place_count (λ i. admits u (d.user u current) (o * operation_weight + k) (triples d e i))
          (λ i. Admits u (d.user u current) (o * operation_weight + k) (triples d e i))
          (λ i. admits_agrees u (d.user u current) (o * operation_weight + k) (triples d e i))
