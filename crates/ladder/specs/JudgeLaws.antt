-- Rungs 10 to 16 of a request for a known operation: its operands' kinds and its own conditions. A rung that applies is the answer, with
-- the tables as they were; past the last the request is accepted, with its effect.
use Rattle.std.specs.Prelude.{Bool, ◌&&◌, ◌||◌, false, true, ◌≡◌, refl, T, eqb}
use Rattle.std.proofs.Math.Bool.{not}
use mathlib.Core.List.{List, [], ◌∷◌}
use Rattle.std.proofs.Common.{◌∙◌, sym}
use Rattle.std.proofs.Math.Path.{ap}
use Prim.Native.Nat.{◌+◌, ◌<◌, ◌≤◌, suc, zero, ℕ}
use native.Mathlib.Omega.{arith}
use Rattle.ladder.specs.ClimbLaws.{passed_all, passed_hit, passed_more}
use Rattle.ladder.specs.Contract.{First, Judged, Passed, Second, Taking}
use Rattle.laws.specs.Bools.{either, joined}
use Rattle.model.specs.Basics.Choice.{pick}
use Rattle.model.specs.Basics.TestLaws.{T-l, T-r, only}
use Rattle.model.specs.Basics.Tests.{every}
use Rattle.model.proofs.Request.AfterLaws.{effect_by}
use Rattle.model.specs.Request.Asked.{Asked, asked, operand}
use Rattle.model.specs.Request.Conditions.{Kind}
use Rattle.model.specs.Request.Ladder.{answer, any_of, applies, ladder, never, of_number, own_rung, refused, rung_at, some_operand, wrong_kind}
use Rattle.model.specs.Request.LadderLaws.{of_op_some, own_rung_lem}
use Rattle.model.specs.Request.Operations.{Op, Refusal, refuse, row_of}
use Rattle.model.specs.Request.Words.{request_of}
use Rattle.model.specs.Tables.Layout.{tables_of}
use Rattle.model.specs.Request.Refusals as refusal
use Rattle.model.specs.Tables.Words.{Tables}

-- no condition of a row has the number n
unfoldable pub free : ℕ → List Refusal → Bool
free n [] = true
free n (refuse k c ∷ cs) = not (eqb k n) && free n cs

free_refused : (n : ℕ) (cs : List Refusal) (d : Tables) (s : Asked) → T (free n cs) → refused n cs d s ≡ false
unfolding free refused
free_refused n [] d s f = refl
free_refused n (refuse k c ∷ cs) d s f = go (eqb k n) f (free_refused n cs d s)
  where
    go : (b : Bool) → T (not b && free n cs) → (T (free n cs) → refused n cs d s ≡ false) → any_of (pick b (c ∷ of_number n cs) (of_number n cs)) d s ≡ false
    go true f ih = absurd f
    go false f ih = ih f

-- what is asked, of words
abbrev pub asked_of : List ℕ → List ℕ → Asked
asked_of t q = asked (tables_of t) (request_of q)

module _ {o : Op} {t q : List ℕ} {u : ℕ} (k : Taking o t q u) where
  -- who asks, as it was read
  pub user_is_lem : (asked_of t q).user ≡ u
  unfolding asked
  user_is_lem = k.climbed.user

  -- the lowest rung that applies is the answer, and nothing is stored
  turned : (n : ℕ) → suc n ≡ answer (tables_of t) (request_of q) → Judged t q (suc n) t
  turned n e = record { answer = e; tables = refl }

  -- an accepted request has its row's effect
  pub accepted : (n : List ℕ) → Passed refusal.not_acknowledged (tables_of t) (request_of q) → tables_of n ≡ (row_of o).effect (asked_of t q) (tables_of t)
      → Judged t q refusal.accepted n
  accepted n p e = record { answer = passed_all (tables_of t) (request_of q) p; tables = e ∙ sym (effect_by (tables_of t) (request_of q) o k.named) }

  -- ---- rung 10

  kinds : (x : List Kind) → (row_of o).operands ≡ x → applies refusal.wrong_kind (tables_of t) (request_of q)
      ≡ some_operand 1 x (λ j y. not (y (tables_of t) (operand (asked_of t q) j)))
  unfolding applies rung_at never ladder wrong_kind
  kinds x e = of_op_some (request_of q) o k.named (λ p. some_operand 1 (row_of p).operands (λ j y. not (y (tables_of t) (operand (asked_of t q) j))))
      ∙ ap (λ (z : List Kind). some_operand 1 z (λ j y. not (y (tables_of t) (operand (asked_of t q) j)))) e

  -- no operands
  pub kinds_none : (row_of o).operands ≡ [] → Passed refusal.wrong_kind (tables_of t) (request_of q)
  unfolding some_operand
  kinds_none e = passed_more (tables_of t) (request_of q) refusal.marked k.climbed.passed (kinds [] e)

  -- one operand e, and whether it is of its kind
  module _ (e : ℕ) (g : First t q e) where
    module _ (x : Kind) (w : (row_of o).operands ≡ x ∷ []) (b : Bool) (h : b ≡ x (tables_of t) e) where
      kind_is : applies refusal.wrong_kind (tables_of t) (request_of q) ≡ not b
      unfolding some_operand
      kind_is = kinds (x ∷ []) w ∙ only (not (x (tables_of t) (asked_of t q).first)) ∙ rw (g.is, h)

      pub kind_wrong : b ≡ false → Judged t q refusal.wrong_kind t
      kind_wrong z = turned refusal.marked (passed_hit (tables_of t) (request_of q) refusal.marked k.climbed.passed (kind_is ∙ ap not z))

      pub kind_right : b ≡ true → Passed refusal.wrong_kind (tables_of t) (request_of q)
      kind_right z = passed_more (tables_of t) (request_of q) refusal.marked k.climbed.passed (kind_is ∙ ap not z)

    -- two operands e and c
    module _ (c : ℕ) (f : Second t q c) (x y : Kind) (w : (row_of o).operands ≡ x ∷ y ∷ []) (a b : Bool)
        (h : a ≡ x (tables_of t) e) (j : b ≡ y (tables_of t) c) where
      kinds_are : applies refusal.wrong_kind (tables_of t) (request_of q) ≡ (not a || not b)
      unfolding some_operand
      kinds_are = kinds (x ∷ y ∷ []) w ∙ either (not (x (tables_of t) (asked_of t q).first)) (not (y (tables_of t) (asked_of t q).second))
          ∙ rw (g.is, f.is, h, j)

      pub kinds_wrong : (a && b) ≡ false → Judged t q refusal.wrong_kind t
      kinds_wrong z = turned refusal.marked (passed_hit (tables_of t) (request_of q) refusal.marked k.climbed.passed (kinds_are ∙ joined a b ∙ ap not z))

      pub kinds_right : (a && b) ≡ true → Passed refusal.wrong_kind (tables_of t) (request_of q)
      kinds_right z = passed_more (tables_of t) (request_of q) refusal.marked k.climbed.passed (kinds_are ∙ joined a b ∙ ap not z)

  -- ---- rungs 11 to 16

  own : (n : ℕ) → refusal.wrong_kind ≤ n → n < refusal.not_acknowledged
      → applies (suc n) (tables_of t) (request_of q) ≡ refused (suc n) (row_of o).conditions (tables_of t) (asked_of t q)
  unfolding own_rung
  own n l h = own_rung_lem (suc n) (omega arith) (omega arith) (tables_of t) (request_of q)
      ∙ of_op_some (request_of q) o k.named (λ p. refused (suc n) (row_of p).conditions (tables_of t) (asked_of t q))

  -- the next rung does not apply: it is passed
  pub pass : (n : ℕ) → refusal.wrong_kind ≤ n → n < refusal.not_acknowledged → Passed n (tables_of t) (request_of q)
      → refused (suc n) (row_of o).conditions (tables_of t) (asked_of t q) ≡ false
      → Passed (suc n) (tables_of t) (request_of q)
  pass n l h p e = passed_more (tables_of t) (request_of q) n p (own n l h ∙ e)

  -- the next rung applies: it is the answer
  pub stop : (n : ℕ) → refusal.wrong_kind ≤ n → n < refusal.not_acknowledged → Passed n (tables_of t) (request_of q)
      → refused (suc n) (row_of o).conditions (tables_of t) (asked_of t q) ≡ true
      → Judged t q (suc n) t
  stop n l h p e = turned n (passed_hit (tables_of t) (request_of q) n p (own n l h ∙ e))

  -- the next i rungs have no condition in the row: they are passed
  pub skip : (i n : ℕ) → refusal.wrong_kind ≤ n → n + i ≤ refusal.not_acknowledged → Passed n (tables_of t) (request_of q)
      → T (every i (λ j. free (suc (n + j)) (row_of o).conditions))
      → Passed (n + i) (tables_of t) (request_of q)
  unfolding every
  skip zero n l h p f = let e : n + 0 ≡ n = omega arith in rw e p
  skip (suc i) n l h p f =
      let e : n + suc i ≡ suc (n + i) = omega arith in
      let a = free (suc (n + i)) (row_of o).conditions in
      let b = every i (λ j. free (suc (n + j)) (row_of o).conditions) in
      rw e (pass (n + i) (omega arith) (omega arith) (skip i n l (omega arith) p (T-r a b f))
      (free_refused (suc (n + i)) (row_of o).conditions (tables_of t) (asked_of t q) (T-l a b f)))
