-- Rule 9.8, what each effect does to the IDs on devices: the one that can be new is that of the entity which a show names.
use Rattle.std.specs.Prelude.{Bool, false, true, ◌≢◌, ◌⊎◌, ◌≡◌, refl, ◌<◌, ◌≤◌, suc, ℕ, T, eqb, ltb}
use Rattle.std.proofs.Common.{inl, inr, ◌∙◌, ap, subst, sym, not-suc-le-zero, arith}
use Rattle.model.specs.Basics.Choice.{Below, Same, below, it, other, over, pick, same, under}
use Rattle.model.specs.Effect.Places.{erase, fresh, leave, put}
use Rattle.model.specs.Effect.Screens.{clear, show, spot}
use Rattle.model.specs.Level.{bit}
use Rattle.model.specs.Request.Allowed.{Accepted}
use Rattle.model.specs.Request.Asked.{asked}
use Rattle.model.specs.Request.Operations.{to_show}
use Rattle.model.specs.Request.Words.{Request}
use Rattle.model.specs.Tables.EditLaws.{case}
use Rattle.model.specs.Tables.Kinds.{Screen}
use Rattle.model.specs.Tables.RowLaws.{sought}
use Rattle.model.specs.Tables.Rows.{Sought, left, replace, without}
use Rattle.model.specs.Tables.Words.{Tables, container_kind, devices, id_bit, kinds, places, sums, used_places}
use Rattle.model.specs.Theorem.Definitions.{NamedOpenly, ShowsId}
use Rattle.model.specs.Theorem.Statements.{Ids}

-- a used place whose sum has the ID, in a row of n places
abbrev pub Shown : ℕ → (ℕ → ℕ) → (ℕ → ℕ) → ℕ → Type 0
Shown n at sum x = (i : ℕ) × (i < n) × (at i ≡ x) × T (bit id_bit (sum i))

-- of the record v
abbrev pub ShownOn : Tables → ℕ → ℕ → Type 0
ShownOn d v x = Shown (used_places d v) (places d v) (sums d v) x

-- To take an entity out of its container shows nothing new.
pub leave_ids : (e : ℕ) (d : Tables) (v x : ℕ) → ShowsId (leave e d) v x → ShowsId d v x
leave_ids e d v x h = (h.0, go (eqb (kinds d v) container_kind) (same (kinds d v) container_kind) h.1)
  where
    go : (b : Bool) → Same (kinds d v) container_kind b
        → Shown (pick b (left e (places d v) (used_places d v)) (used_places d v)) (λ i. pick b (without e (places d v) (used_places d v) i) (places d v i))
        (sums d v) x → ShownOn d v x
    go true (it k) m = absurd (omega (arith, h.0))
    go false (other k) m = m

-- To put an entity in a container shows nothing new.
pub put_ids : (c e t : ℕ) (d : Tables) → kinds d c ≡ container_kind → (v x : ℕ) → ShowsId (put c e t d) v x → ShowsId d v x
put_ids c e t d box v x h = (h.0, go (eqb v c) (same v c) h.1)
  where
    go : (b : Bool) → Same v c b
        → Shown (pick b (suc (used_places d c)) (used_places d v)) (λ i. pick b (replace (used_places d c) e (places d c) i) (places d v i))
        (λ i. pick b (replace (used_places d c) t (sums d c) i) (sums d v i)) x
        → ShownOn d v x
    go true (it k) m = absurd (omega (arith, h.0, ap (kinds d) k))
    go false (other k) m = m

-- To zero a record shows nothing new.
pub erase_ids : (e : ℕ) (d : Tables) (v x : ℕ) → ShowsId (erase e d) v x → ShowsId d v x
erase_ids e d v x h = go (eqb v e) h.0 h.1
  where
    go : (b : Bool) → Screen (pick b 0 (kinds d v)) → Shown (pick b 0 (used_places d v)) (λ i. pick b 0 (places d v i)) (λ i. pick b 0 (sums d v i)) x
        → ShowsId d v x
    go true k m = absurd (not-suc-le-zero m.1)
    go false k m = (k, m)

-- To empty a screen shows nothing new.
pub clear_ids : (e : ℕ) (d : Tables) (v x : ℕ) → ShowsId (clear e d) v x → ShowsId d v x
clear_ids e d v x h = (h.0, go (eqb v e) h.1)
  where
    go : (b : Bool) → Shown (pick b 0 (used_places d v)) (λ i. pick b 0 (places d v i)) (λ i. pick b 0 (sums d v i)) x → ShownOn d v x
    go true m = absurd (not-suc-le-zero m.1)
    go false m = m

-- To make an object or a container shows nothing new.
pub fresh_ids : (e c k t l : ℕ) (d : Tables) → (¬ Screen k) → (v x : ℕ) → ShowsId (fresh e c k t l d) v x → ShowsId d v x
fresh_ids e c k t l d n v x h =
    (case (λ (y : ℕ). Screen y → Screen (kinds d v)) v e k (kinds d v) (λ r z. absurd (n z)) (λ r z. z) h.0, h.1)

-- A place of the screen after show is the place of e, or it is one that was used before.
used_before : (k n i : ℕ) (t : Bool) → Below k n t → k ≤ n → i ≢ k → i < pick t n (suc n) → i < n
used_before k n i true (under z) s ne l = l
used_before k n i false (over z) s ne l = let l' : i < suc n = l in omega arith

-- The first operand of an accepted show is named openly.
pub show_named : (d : Tables) (q : Request) → Accepted to_show d q → NamedOpenly d q (asked d q).first
show_named d q a = (to_show, a.meant, (1, (omega arith, omega arith), refl, a.cleared 1 (omega arith, omega arith)))

-- Rule 9.8 of every device: show of an entity that is named openly puts no other new ID on any device.
pub show_ids : (v e s : ℕ) (d : Tables) (q : Request) → v ≡ devices d q.user → NamedOpenly d q e → Ids d q (show v e s d)
show_ids v e s d q mine-is named a x b m = mine (eqb a v) (same a v) m.1
  where
    k : ℕ
    k = spot v e d

    n : ℕ
    n = used_places d v

    found : Sought e (places d v) n k → k ≤ n
    found (inl z) = omega (arith, z.0)
    found (inr z) = omega (arith, z.0)

    placed : (i : ℕ) (t : Bool) → Same i k t → a ≡ v → i < pick (ltb k n) n (suc n) → pick t e (places d v i) ≡ x
        → T (bit id_bit (pick t s (sums d v i))) → ShowsId d a x ⊎ ((a ≡ devices d q.user) × NamedOpenly d q x)
    placed i true (it z) r l p id = inr (r ∙ mine-is, subst (NamedOpenly d q) p named)
    placed i false (other z) r l p id =
        inl (m.0, subst (λ (y : ℕ). ShownOn d y x) (sym r) (i, used_before k n i (ltb k n) (below k n) (found (sought e (places d v) n)) z l, p, id))

    mine : (t : Bool) → Same a v t
        → Shown (pick t (pick (ltb k n) n (suc n)) (used_places d a)) (λ i. pick t (replace k e (places d v) i) (places d a i))
        (λ i. pick t (replace k s (sums d v) i) (sums d a i)) x
        → ShowsId d a x ⊎ ((a ≡ devices d q.user) × NamedOpenly d q x)
    mine true (it r) h = placed h.0 (eqb h.0 k) (same h.0 k) r h.1 h.2 h.3
    mine false (other r) h = inl (m.0, h)
