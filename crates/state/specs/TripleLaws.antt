-- What a triple names, asked of the whole word: who by two comparisons, and the two bytes below by one bit each of two sums.
use Rattle.std.specs.Prelude.{◌&&◌, ◌||◌, false, true, ◌⊎◌, ◌≡◌, ◌%◌, ◌*◌, ◌+◌, ◌-◌, ◌/◌, ◌<◌, ◌≤◌, ℕ, eqb, leb, ltb}
use Rattle.std.proofs.Common.{inl, inr, arith, leb-false, leb-true, ltb-false, ltb-true}
use Rattle.laws.specs.Bools.{agreed, agreed_false, neither_l, neither_r, or_cases}
use Rattle.model.specs.Basics.Agree.{agreement, agrees_as}
use Rattle.model.specs.State.AgreeRecords.{good_agrees}
use Rattle.model.specs.State.Tests.{triple_test}
use Rattle.model.specs.State.WellFormed.{GoodTriple}
use Rattle.model.specs.Tables.Words.{operation_count, operation_in, operation_weight, position_count, position_of, who_most, who_weight}

-- the first word that names nobody any more
abbrev pub past_who : ℕ
past_who = (who_most + 1) * who_weight

-- what the top bit weighs in the byte of the position, and in that of the operation
abbrev pub position_top : ℕ
position_top = operation_weight / 2

abbrev pub operation_top : ℕ
operation_top = who_weight / 2

-- what each byte, at its greatest number, lacks to the last number without its top bit
abbrev pub lacking : ℕ
lacking = (position_top - 1 - operation_count) * operation_weight + (position_top - 1 - position_count)

-- one in each byte
abbrev pub ones : ℕ
ones = operation_weight + 1

-- ---- the two bytes

module _ (x : ℕ) (low : who_weight ≤ x) where
  -- neither sum has the top bit of its last byte
  abbrev PositionBits : Type 0
  PositionBits = ((x + lacking) / position_top % 2 ≡ 0) × ((x - ones) / position_top % 2 ≡ 0)

  -- nor of the byte before it
  abbrev OperationBits : Type 0
  OperationBits = ((x + lacking) / operation_top % 2 ≡ 0) × ((x - ones) / operation_top % 2 ≡ 0)

  -- so the last byte is a position,
  position_of_lem : PositionBits → (1 ≤ position_of x) × (position_of x ≤ position_count)
  position_of_lem b = (omega (arith, b.0, b.1), omega (arith, b.0, b.1))

  -- and the byte before it an operation
  operation_of : (1 ≤ position_of x) × (position_of x ≤ position_count) → OperationBits → (1 ≤ operation_in x) × (operation_in x ≤ operation_count)
  operation_of p b = (omega (arith, p.0, p.1, b.0, b.1), omega (arith, p.0, p.1, b.0, b.1))

  -- the other way round
  bits_of : GoodTriple x → PositionBits × OperationBits
  bits_of g =
      let p = g.position in
      let o = g.operation in (
        (omega (arith, p.0, p.1, o.0, o.1), omega (arith, p.0, p.1, o.0, o.1)),
        (omega (arith, p.0, p.1, o.0, o.1), omega (arith, p.0, p.1, o.0, o.1)),
      )

  -- all of a triple, where who is no more than the greatest
  good_of : x < past_who → PositionBits × OperationBits → GoodTriple x
  good_of h b = let p = position_of_lem b.0 in record {
    who = (omega arith, omega arith);
    operation = operation_of p b.1;
    position = p;
  }

-- ---- the whole word

-- who is in range
pub who_low : (x : ℕ) → (ltb x who_weight || leb past_who x) ≡ false → who_weight ≤ x
who_low x e = ltb-false x who_weight (neither_l (ltb x who_weight) (leb past_who x) e)

pub who_high : (x : ℕ) → (ltb x who_weight || leb past_who x) ≡ false → x < past_who
who_high x e = leb-false past_who x (neither_r (ltb x who_weight) (leb past_who x) e)

-- the four bits of the two sums say then what the model's test says
pub named_bits : (x : ℕ) → (ltb x who_weight || leb past_who x) ≡ false
    → ((eqb ((x + lacking) / position_top % 2) 0 && eqb ((x - ones) / position_top % 2) 0)
    && (eqb ((x + lacking) / operation_top % 2) 0 && eqb ((x - ones) / operation_top % 2) 0)) ≡ triple_test x
named_bits x e = agreed _ (triple_test x) (search agreement) (agrees_as (bits_of x low) (good_of x low (who_high x e)) (good_agrees x))
  where
    low : who_weight ≤ x
    low = who_low x e

-- who is out of range
pub unnamed : (x : ℕ) → (ltb x who_weight || leb past_who x) ≡ true → false ≡ triple_test x
unnamed x e = agreed_false (triple_test x) (good_agrees x) (λ g. out (or_cases (ltb x who_weight) (leb past_who x) e) g)
  where
    out : (ltb x who_weight ≡ true) ⊎ (leb past_who x ≡ true) → GoodTriple x → ⊥
    out (inl q) g = omega (arith, ltb-true x who_weight q, g.who.0, g.who.1)
    out (inr q) g = omega (arith, leb-true past_who x q, g.who.0, g.who.1)
