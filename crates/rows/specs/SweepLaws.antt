-- A row that is looked through to its end, wherever the word stands.
use Rattle.std.specs.Prelude.{Bool, ◌||◌, false, true, ◌⊎◌, ◌≡◌, ◌+◌, ◌≤◌, ℕ, eqb, ltb}
use Rattle.std.proofs.Common.{inl, inr, ◌∙◌, ap, sym, arith}
use Rattle.std.proofs.Math.Path.{refl}
use Rattle.laws.specs.Bools.{agreed}
use Rattle.model.specs.Basics.Agree.{Agrees, agrees_eq, agrees_or}
use Rattle.model.specs.Basics.Choice.{Below, Same, below, it, other, over, same, under}
use Rattle.model.specs.State.AgreeLinks.{member_agrees}
use Rattle.model.specs.Tables.Rows.{Member, seek}

module _ (v : ℕ) (row : ℕ → ℕ) where
  -- v is not among no words
  pub sweep_none : false ≡ ltb (seek v row 0) 0
  unfolding seek
  sweep_none = refl

  -- v is among the first i + 1 words where it is the last of them or among the others
  member_more : (i : ℕ) → Agrees (eqb (row i) v || ltb (seek v row i) i) (Member row (i + 1) v)
  member_more i = record { to = λ t. up (either.to t); from = λ m. either.from (down m (eqb m.0 i) (same m.0 i)) }
    where
      either : Agrees (eqb (row i) v || ltb (seek v row i) i) ((row i ≡ v) ⊎ Member row i v)
      either = agrees_or (agrees_eq (row i) v) (member_agrees row i v)

      up : (row i ≡ v) ⊎ Member row i v → Member row (i + 1) v
      up (inl e) = (i, omega arith, e)
      up (inr m) = (m.0, omega (arith, m.1), m.2)

      down : (m : Member row (i + 1) v) (b : Bool) → Same m.0 i b → (row i ≡ v) ⊎ Member row i v
      down m true (it q) = inl (ap row (sym q) ∙ m.2)
      down m false (other q) = inr (m.0, omega (arith, m.1, q), m.2)

  -- one turn of the loop
  pub sweep_more : (i a : ℕ) (b : Bool) → a ≡ row i → b ≡ ltb (seek v row i) i → (eqb a v || b) ≡ ltb (seek v row (i + 1)) (i + 1)
  sweep_more i a b x y = rw (x, y) (agreed _ _ (member_more i) (member_agrees row (i + 1) v))

  -- and its end
  pub swept : (i n : ℕ) (b : Bool) → b ≡ ltb (seek v row i) i → i ≤ n → n ≤ i → b ≡ ltb (seek v row n) n
  swept i n b h l m = let e : n ≡ i = omega arith in rw e h

  -- v, which is not 0, is among n words where it is among the first k, if the others are 0
  pub sweep_used : (k n : ℕ) → 1 ≤ v → k ≤ n → ((i : ℕ) → k ≤ i → row i ≡ 0) → ltb (seek v row n) n ≡ ltb (seek v row k) k
  sweep_used k n p l rest = agreed _ _ (member_agrees row n v)
      (record { to = λ t. up (used.to t); from = λ m. used.from (down m (ltb m.0 k) (below m.0 k)) })
    where
      used : Agrees (ltb (seek v row k) k) (Member row k v)
      used = member_agrees row k v

      up : Member row k v → Member row n v
      up m = (m.0, omega (arith, m.1), m.2)

      down : (m : Member row n v) (b : Bool) → Below m.0 k b → Member row k v
      down m true (under h) = (m.0, h, m.2)
      down m false (over h) = absurd (omega (arith, p, sym (rest m.0 h) ∙ m.2))
