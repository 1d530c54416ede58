-- The passes over entities and users ask what rule 4 asks, of any tables.
use Rattle.std.specs.Prelude.{Bool, ◌&&◌, ◌||◌, not, ◌≢◌, ◌≡◌, ◌-◌, ◌<◌, ◌≤◌, min, suc, ℕ, T, eqb, ltb}
use Rattle.std.proofs.Math.Bool.{false, true}
use Rattle.std.proofs.Common.{inr, ◌∙◌, ap, subst, arith, eq-eqb, le-ltb, ne_eqb}
use Rattle.std.proofs.Math.Path.{refl, sym}
use Rattle.laws.specs.Bools.{and_assoc, and_l, imp_both, or_imp}
use Rattle.laws.specs.Loops.{every_both, every_of, imp_every}
use Rattle.model.specs.Basics.Agree.{agrees_T, agrees_imp, agrees_le, every_at}
use Rattle.model.specs.Basics.Choice.{Below, below, over, pick, under}
use Rattle.model.specs.Basics.TestLaws.{equal_bools, every_same, holds_true, is_true}
use Rattle.model.specs.Basics.Tests.{every, imp}
use Rattle.model.specs.Level.{AtMost, at_most, role_count, subset}
use Rattle.model.proofs.LevelLaws.{at_most_ordered}
use Rattle.model.specs.State.Check.{ceiling_test, contained_test, labelled_test, roles_test, secure_test, seen_test}
use Rattle.model.specs.State.Secure.{labelled}
use Rattle.model.specs.Tables.Layout.{Bounded}
use Rattle.model.specs.Tables.Words.{Tables, authorised, clearance, used, used_places, current, device_kind, devices, entity_count, kinds, level}
use Rattle.model.specs.Tables.Words.{maximum, place_count, places, sums, user_count}
use Rattle.secure.specs.Secured.{all_secure, capped, entity_secure, place_secure, user_secure}

-- ---- a number that is capped

-- a number that is not above the places of a row
pub capped_within : (n : ℕ) → n ≤ place_count → n ≡ capped n
unfolding capped
capped_within n h = rw (le-ltb place_count n h)

-- either way
capped_cases : (n : ℕ) → (P : ℕ → Type 0) → ((place_count < n) → P place_count) → (n ≤ place_count → P n) → P (capped n)
unfolding capped
capped_cases n P f g = go (ltb place_count n) (below place_count n)
  where
    go : (b : Bool) → Below place_count n b → P (pick b place_count n)
    go true (under h) = f h
    go false (over h) = g h

-- it is the lesser of the two
pub capped_min : (n : ℕ) → min n place_count ≡ capped n
capped_min n = capped_cases n (λ c. min n place_count ≡ c) (λ h. omega arith) (λ h. omega arith)

-- what is capped is never above it
pub capped_low : (n : ℕ) → capped n ≤ place_count
capped_low n = capped_cases n (λ c. c ≤ place_count) (λ h. omega arith) (λ h. h)

-- the first n places are those of the row that are below n
pub capped_every : (n : ℕ) (p : ℕ → Bool) → every (capped n) p ≡ every place_count (λ i. imp (ltb i n) (p i))
capped_every n p = equal_bools (every (capped n) p) (every place_count (λ i. imp (ltb i n) (p i)))
    (λ t. every_of place_count (λ i. imp (ltb i n) (p i)) (λ i h. (agrees_imp (agrees_le (suc i) n) (agrees_T (p i))).from
    (λ l. every_at (capped n) p t i (capped_cases n (λ c. i < c) (λ k. h) (λ k. l)))))
    (λ t. every_of (capped n) p (λ i h. (agrees_imp (agrees_le (suc i) n) (agrees_T (p i))).to
    (every_at place_count (λ i. imp (ltb i n) (p i)) t i (omega (arith, capped_low n)))
    (capped_cases n (λ c. i < c → i < n) (λ k l. omega arith) (λ k l. l) h)))

-- ---- entities

-- rules 4.1 and 4.3 of entity e, place by place
places_secure : (d : Tables) (e : ℕ) → every (capped (used_places d e)) (place_secure d e) ≡ (contained_test d e && labelled_test d e)
unfolding place_secure contained_test labelled_test
places_secure d e = capped_every (used_places d e) (place_secure d e)
    ∙ every_same place_count (λ i. imp (ltb i (used_places d e)) (place_secure d e i)) (λ i. contained i && imp device (shown i))
    (λ i h. imp_both (ltb i (used_places d e)) (at_most (d.entity (places d e i) level) (d.entity e level)) device (labelled (sums d e i)))
    ∙ every_both place_count contained (λ i. imp device (shown i))
    ∙ ap (λ (b : Bool). every place_count contained && b) (imp_every device place_count shown)
  where
    device : Bool
    device = eqb (kinds d e) device_kind

    contained : ℕ → Bool
    contained i = imp (ltb i (used_places d e)) (at_most (d.entity (places d e i) level) (d.entity e level))

    shown : ℕ → Bool
    shown i = imp (ltb i (used_places d e)) (labelled (sums d e i))

-- the same of place i, which holds x of level m, in an entity of level l; v is shown of it
pub place_secure_lem : (d : Tables) (e i x m l v : ℕ) (a b s : Bool) → x ≡ places d e i → m ≡ d.entity x level → l ≡ d.entity e level → a ≡ at_most m l
    → v ≡ sums d e i → b ≡ labelled v → s ≡ eqb (kinds d e) device_kind → (a && (not s || b)) ≡ place_secure d e i
unfolding place_secure
place_secure_lem d e i x m l v a b s xe me le ae ve be se = rw (ae, me, xe, le, be, ve, se, or_imp (eqb (kinds d e) device_kind) (labelled (sums d e i)))

-- and 4.5 of a device
pub entity_secure_lem : (d : Tables) (e : ℕ) → (every (capped (used_places d e)) (place_secure d e)
    && imp (eqb (kinds d e) device_kind) (at_most (d.entity e level) (d.entity e maximum))) ≡ entity_secure d e
unfolding entity_secure ceiling_test
entity_secure_lem d e = ap (λ (b : Bool). b && ceiling_test d e) (places_secure d e) ∙ and_assoc (contained_test d e) (labelled_test d e) (ceiling_test d e)

-- what the pass over entity e has read: its count, whether it is a device, whether its places are secure
module _ (d : Tables) (e n c : ℕ) (s p : Bool) (ce : c ≡ used_places d e) (ne : n ≡ capped c) (se : s ≡ eqb (kinds d e) device_kind)
    (pe : p ≡ every n (place_secure d e)) where
  -- what is asked of it, in these words
  entity_read : (p && imp s (at_most (d.entity e level) (d.entity e maximum))) ≡ entity_secure d e
  entity_read = rw (se, pe, ne, ce) (entity_secure_lem d e)

  -- some place is not secure
  pub entity_fails : p ≡ false → false ≡ entity_secure d e
  entity_fails f = rw f at entity_read

  -- its places are, and it is no device
  pub entity_plain : p ≡ true → s ≡ false → true ≡ entity_secure d e
  unfolding imp
  entity_plain t f = rw (t, f) at entity_read

  -- its places are, and its level is compared with its maximum
  pub entity_device : p ≡ true → s ≡ true → (b : Bool) (l m : ℕ) → l ≡ d.entity e level → m ≡ d.entity e maximum → b ≡ at_most l m
      → b ≡ entity_secure d e
  unfolding imp
  entity_device t f b l m le me be = be ∙ rw (le, me) (rw (t, f) at entity_read)

-- ---- users

-- who is on nothing sees nothing
seen_off : (d : Tables) (u : ℕ) → devices d u ≡ 0 → seen_test d u ≡ true
unfolding seen_test imp
seen_off d u q = rw (eq-eqb (devices d u) 0 q)

-- nor does who is on what is no entity
seen_beyond : (d : Tables) (u : ℕ) → used_places d (devices d u) ≡ 0 → seen_test d u ≡ true
unfolding seen_test
seen_beyond d u z = holds_true (seen_test d u) ((agrees_imp (agrees_T (not (eqb (devices d u) 0))) (agrees_T _)).from
    (λ t. every_of place_count _ (λ i h. (agrees_imp (agrees_le (suc i) (used_places d (devices d u))) (agrees_T _)).from (λ l. absurd (omega arith)))))

-- else the first places of the device are compared with the clearance
seen_on : (d : Tables) (u : ℕ) → devices d u ≢ 0
    → every (capped (used_places d (devices d u))) (λ i. at_most (d.entity (places d (devices d u) i) level) (d.user u clearance)) ≡ seen_test d u
unfolding seen_test imp
seen_on d u q = rw (ne_eqb (devices d u) 0 q) (capped_every (used_places d (devices d u))
    (λ i. at_most (d.entity (places d (devices d u) i) level) (d.user u clearance)))

-- what stands in an entity that keeps rule 4.1 is at most every level that the entity's own is at most
contained_below : (d : Tables) (v c : ℕ) → T (entity_secure d v) → AtMost (d.entity v level) c
    → every (capped (used_places d v)) (λ i. at_most (d.entity (places d v i) level) c) ≡ true
unfolding entity_secure contained_test
contained_below d v c s h = holds_true _ (every_of (capped (used_places d v)) (λ i. at_most (d.entity (places d v i) level) c)
    (λ i l. at_most_ordered.transitive _ _ _ (every_at (capped (used_places d v)) own kept i l) h))
  where
    own : ℕ → Bool
    own i = at_most (d.entity (places d v i) level) (d.entity v level)

    kept : T (every (capped (used_places d v)) own)
    kept = is_true (every (capped (used_places d v)) own)
        (capped_every (used_places d v) own ∙ and_l (contained_test d v) (labelled_test d v && ceiling_test d v) (holds_true (entity_secure d v) s))

-- what the pass over user u has read: the roles, and whether all that are taken are authorised
module _ (d : Tables) (u c a : ℕ) (r : Bool) (ce : c ≡ d.user u current) (ae : a ≡ d.user u authorised) (re : r ≡ subset role_count c a) where
  -- rule 4.4
  roles_read : r ≡ roles_test d u
  unfolding roles_test
  roles_read = rw (re, ce, ae)

  -- some role is not authorised
  pub user_fails : r ≡ false → false ≡ user_secure d u
  unfolding user_secure
  user_fails f = go (seen_test d u) (roles_test d u) (sym roles_read ∙ f)
    where
      go : (a b : Bool) → b ≡ false → false ≡ (a && b)
      go true b e = sym e
      go false b e = refl

  -- all are, and rule 4.2 is left
  seen_rest : r ≡ true → (b : Bool) → b ≡ seen_test d u → b ≡ user_secure d u
  unfolding user_secure
  seen_rest t b e = e ∙ go (seen_test d u) (roles_test d u) (sym roles_read ∙ t)
    where
      go : (a b : Bool) → b ≡ true → a ≡ (a && b)
      go true b e = sym e
      go false b e = refl

  -- and the device
  module _ (t : r ≡ true) (v : ℕ) (ve : v ≡ devices d u) where
    -- on nothing
    pub user_off : v < 1 → true ≡ user_secure d u
    user_off h = seen_rest t true (sym (seen_off d u (omega arith)))

    -- on what is no entity
    pub user_beyond : Bounded d → entity_count < v → true ≡ user_secure d u
    user_beyond o h = seen_rest t true (sym (seen_beyond d u (o.entity_out (devices d u) (inr (omega arith)) used)))

    -- on a device
    pub user_on_lem : 1 ≤ v → (b : Bool) (l k n : ℕ) → l ≡ d.user u clearance → k ≡ used_places d v → n ≡ capped k
        → b ≡ every n (λ i. at_most (d.entity (places d v i) level) l) → b ≡ user_secure d u
    user_on_lem h b l k n le ke ne be = seen_rest t b (be ∙ rw (ne, ke, le, ve) (seen_on d u (λ q. omega arith)))

    -- on a device whose own level is at most the clearance, where every entity keeps rule 4.1
    pub user_below : 1 ≤ v → v ≤ entity_count → all_secure d ≡ true → (b : Bool) (m l : ℕ) → m ≡ d.entity v level → l ≡ d.user u clearance
        → b ≡ at_most m l → b ≡ true → true ≡ user_secure d u
    user_below h k s b m l me le be bt = user_on_lem h true l (used_places d v) (capped (used_places d v)) le refl refl
        (sym (contained_below d v l at_v (is_true _ (rw me at (sym be ∙ bt)))))
      where
        at_v : T (entity_secure d v)
        at_v = let q : suc (v - 1) ≡ v = omega arith in
            subst (λ (x : ℕ). T (entity_secure d x)) q (every_at entity_count (λ e. entity_secure d (suc e)) (is_true _ s) (v - 1) (omega arith))

-- ---- all of rule 4

-- the two passes ask all of it
pub secure_passes : (d : Tables) → (every entity_count (λ e. entity_secure d (suc e)) && every user_count (λ u. user_secure d (suc u))) ≡ secure_test d
unfolding entity_secure user_secure secure_test
secure_passes d = rw (
  every_both entity_count (λ e. contained_test d (suc e)) (λ e. labelled_test d (suc e) && ceiling_test d (suc e)),
  every_both entity_count (λ e. labelled_test d (suc e)) (λ e. ceiling_test d (suc e)),
  every_both user_count (λ u. seen_test d (suc u)) (λ u. roles_test d (suc u)),
) (go (every entity_count (λ e. contained_test d (suc e))) (every entity_count (λ e. labelled_test d (suc e)))
    (every entity_count (λ e. ceiling_test d (suc e)))
    (every user_count (λ u. seen_test d (suc u))) (every user_count (λ u. roles_test d (suc u))))
  where
    go : (c l m s r : Bool) → ((c && (l && m)) && (s && r)) ≡ (c && (s && (l && (r && m))))
    go true true true true true = refl
    go true true true true false = refl
    go true true true false r = refl
    go true true false true true = refl
    go true true false true false = refl
    go true true false false r = refl
    go true false m true r = refl
    go true false m false r = refl
    go false l m s r = refl

-- what the two passes have found
module _ (d : Tables) (a : Bool) (ae : a ≡ every entity_count (λ e. entity_secure d (suc e))) where
  -- some entity is not secure
  pub secure_fails : a ≡ false → false ≡ secure_test d
  secure_fails f = rw (← ae, f) at (secure_passes d)

  -- every entity is, and the users are left
  pub secure_rest : a ≡ true → (b : Bool) → b ≡ every user_count (λ u. user_secure d (suc u)) → b ≡ secure_test d
  secure_rest t b be = be ∙ (rw (← ae, t) at (secure_passes d))
