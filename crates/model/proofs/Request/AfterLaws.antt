-- What an answer leaves, by its number (rule 8).
use Rattle.std.specs.Prelude.{Bool, ◌≡◌, ◌<◌, ◌≤◌, ℕ, eqb, ltb}
use Rattle.std.proofs.Math.Bool.{false, true}
use Rattle.std.proofs.Math.Option.{Option, none, some}
use Rattle.std.proofs.Math.Path.{refl, subst}
use Rattle.std.proofs.Common.{sym, arith, lt→ltb}
use Rattle.std.proofs.Math.Dec.{T}
use Rattle.model.specs.Basics.Choice.{Below, Same, below, it, other, over, same, under}
use Rattle.model.specs.Effect.Notice.{notice}
use Rattle.model.specs.Request.After.{after, effect, leaves, noticed_op}
use Rattle.model.specs.Request.Asked.{asked}
use Rattle.model.specs.Request.Ladder.{answer}
use Rattle.model.proofs.Request.OperationLaws.{number_range}
use Rattle.model.specs.Request.Operations.{Op, number_of, op_of, row_of}
use Rattle.model.specs.Request.Words.{Request}
use Rattle.model.specs.Tables.Words.{Tables, first_noticed, operation_count}
use Rattle.model.specs.Request.Refusals as refusal

-- The operation that a notice keeps is 0 to 20.
pub noticed_op_range : (q : Request) → noticed_op q ≤ operation_count
unfolding noticed_op
noticed_op_range q = go (op_of q.operation)
  where
    go : (m : Option Op) → elim m [ none ↦ 0 | some o ↦ number_of o ] ≤ operation_count
    go none = omega arith
    go (some o) = (number_range o).1

module _ (d : Tables) (q : Request) where
  -- What an answer leaves, by its number.
  pub after_accepted : answer d q ≡ refusal.accepted → after d q ≡ effect d q
  unfolding after leaves
  after_accepted e = subst (λ (n : ℕ). leaves n d q ≡ effect d q) (sym e) refl

  pub after_unchanged : (n : ℕ) → answer d q ≡ n → refusal.bad_length ≤ n → n < first_noticed → after d q ≡ d
  unfolding after leaves
  after_unchanged n e l h = subst (λ (m : ℕ). leaves m d q ≡ d) (sym e)
      (go (eqb n refusal.accepted) (ltb n first_noticed) (same n refusal.accepted) (lt→ltb n first_noticed h))
    where
      go : (a b : Bool) → Same n refusal.accepted a → T b
          → elim a [ true ↦ effect d q | false ↦ elim b [ true ↦ d | false ↦ notice q.user n (noticed_op q) d ] ] ≡ d
      go true b (it z) t = absurd (omega arith)
      go false true z t = refl
      go false false z t = absurd t

  pub after_noticed : (n : ℕ) → answer d q ≡ n → first_noticed ≤ n → after d q ≡ notice q.user n (noticed_op q) d
  unfolding after leaves
  after_noticed n e h =
      subst (λ (m : ℕ). leaves m d q ≡ notice q.user n (noticed_op q) d) (sym e)
      (go (eqb n refusal.accepted) (ltb n first_noticed) (same n refusal.accepted) (below n first_noticed))
    where
      go : (a b : Bool) → Same n refusal.accepted a → Below n first_noticed b
          → elim a [ true ↦ effect d q | false ↦ elim b [ true ↦ d | false ↦ notice q.user n (noticed_op q) d ] ] ≡ notice q.user n (noticed_op q) d
      go true b (it z) t = absurd (omega arith)
      go false true z (under t) = absurd (omega arith)
      go false false z t = refl

  -- The effect of a request by the operation o.
  pub effect_by : (o : Op) → op_of q.operation ≡ some o → effect d q ≡ (row_of o).effect (asked d q) d
  unfolding effect
  effect_by o e = subst (λ (m : Option Op). elim m [ none ↦ d | some o ↦ (row_of o).effect (asked d q) d ] ≡ (row_of o).effect (asked d q) d) (sym e) refl

-- What holds of whatever each answer leaves holds of what the request leaves.
pub after_each : (d : Tables) (q : Request) (P : Tables → Type 0) → (answer d q ≡ refusal.accepted → P (effect d q))
    → (refusal.bad_length ≤ answer d q → answer d q < first_noticed → P d)
    → (first_noticed ≤ answer d q → P (notice q.user (answer d q) (noticed_op q) d)) → P (after d q)
after_each d q P f g h = go (eqb (answer d q) refusal.accepted) (ltb (answer d q) first_noticed) (same (answer d q) refusal.accepted)
    (below (answer d q) first_noticed)
  where
    go : (a b : Bool) → Same (answer d q) refusal.accepted a → Below (answer d q) first_noticed b → P (after d q)
    go true b (it z) l = subst P (sym (after_accepted d q z)) (f z)
    go false true (other z) (under l) = subst P (sym (after_unchanged d q (answer d q) refl (omega arith) l)) (g (omega arith) l)
    go false false (other z) (over l) = subst P (sym (after_noticed d q (answer d q) refl l)) (h l)
