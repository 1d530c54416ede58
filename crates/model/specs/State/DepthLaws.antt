-- What is inside at any depth when there are fewer edges, or one more; the first and the last step of a way in.
use Rattle.std.specs.Prelude.{◌⊎◌, ◌≡◌, refl, ℕ}
use Rattle.std.proofs.Math.Logic.{inl, inr}
use Rattle.std.proofs.Common.{subst, sym}
use Rattle.model.specs.State.Depth.{Inside, Within, deeper, direct}

pub fewer : {H K : ℕ → ℕ → Type 0} → ((b a : ℕ) → K b a → H b a) → {a b : ℕ} → Inside K a b → Inside H a b
fewer f (direct {a} {b} h) = direct (f b a h)
fewer f (deeper {b = b} {c = c} p h) = deeper (fewer f p) (f c b h)

-- one step further out
onward : {H : ℕ → ℕ → Type 0} {a b c : ℕ} → Within H a b → H c b → Inside H a c
onward {H} {c = c} (inl e) h = direct (subst (λ (y : ℕ). H c y) (sym e) h)
onward (inr p) h = deeper p h

-- a way in after a way in
pub chained : {H : ℕ → ℕ → Type 0} {a b c : ℕ} → Inside H a b → Inside H b c → Inside H a c
chained p (direct h) = deeper p h
chained p (deeper q h) = deeper (chained p q) h

-- K is H and one more edge, e in c: a way in K is a way in H, or goes over that edge
abbrev pub OneMore : (H K : ℕ → ℕ → Type 0) → ℕ → ℕ → Type 0
OneMore H K c e = (b a : ℕ) → K b a → H b a ⊎ ((b ≡ c) × (a ≡ e))

module _ (H K : ℕ → ℕ → Type 0) (c e : ℕ) (more : OneMore H K c e) where
  Over : ℕ → ℕ → Type 0
  Over a b = Inside H a b ⊎ (Within H a e × Within H c b)

  over : {a b : ℕ} → Inside K a b → Over a b
  unfolding Over
  over (direct {a} {b} k) = go (more b a k)
    where
      go : H b a ⊎ ((b ≡ c) × (a ≡ e)) → Over a b
      go (inl h) = inl (direct h)
      go (inr q) = inr (inl q.1, inl (sym q.0))
  over (deeper {a} {b} {c = z} p k) = go (over p) (more z b k)
    where
      go : Over a b → H z b ⊎ ((z ≡ c) × (b ≡ e)) → Over a z
      go (inl w) (inl h) = inl (deeper w h)
      go (inl w) (inr q) = inr (inr (rw q.1 at w), inl (sym q.0))
      go (inr w) (inl h) = inr (w.0, inr (onward w.1 h))
      go (inr w) (inr q) = inr (w.0, inl (sym q.0))

  join : {a b d : ℕ} → Within H a b → Within H b d → Within H a d
  join (inl p) w = rw p w
  join (inr p) (inl q) = inr (rw q at p)
  join (inr p) (inr q) = inr (chained p q)

  -- no loop in H, and c is neither e nor inside it: no loop in K
  pub no_loop_lem : ((a : ℕ) → Inside H a a → ⊥) → (Within H c e → ⊥) → (a : ℕ) → Inside K a a → ⊥
  unfolding Over
  no_loop_lem old apart a w = go (over w)
    where
      go : Over a a → ⊥
      go (inl p) = old a p
      go (inr q) = apart (join q.1 q.0)

-- whatever is inside something is directly in something
pub held_by : {H : ℕ → ℕ → Type 0} {a b : ℕ} → Inside H a b → (x : ℕ) × H x a
held_by (direct {b = b} h) = (b, h)
held_by (deeper p h) = held_by p

-- whatever something is inside of has something directly in it
pub holds_one : {H : ℕ → ℕ → Type 0} {a b : ℕ} → Inside H a b → (x : ℕ) × H b x
holds_one (direct {a = a} h) = (a, h)
holds_one (deeper {b = b} p h) = (b, h)

-- the first step of a way in
pub first_step : {H : ℕ → ℕ → Type 0} {a b : ℕ} → Inside H a b → (x : ℕ) × H x a × Within H x b
first_step (direct {b = b} h) = (b, h, inl refl)
first_step (deeper {c = c} p h) = let r = first_step p in (r.0, r.1, inr (onward r.2 h))
