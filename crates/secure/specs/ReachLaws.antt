-- What a clearance, or the level of a device, can break: on good tables that are changed in one word, one record decides.
use Rattle.std.specs.Prelude.{Bool, ◌&&◌, false, not, true, ◌≢◌, ◌≡◌, ◌<◌, ◌≤◌, pred, suc, ℕ, T, eqb, ltb}
use Rattle.std.proofs.Math.Bool.{and-true}
use Rattle.std.proofs.Common.{◌∙◌, ap₂, subst, sym, arith, eq-eqb}
use Rattle.std.proofs.Math.Path.{ap, refl}
use Rattle.laws.specs.Loops.{every_of}
use Rattle.model.specs.Basics.Agree.{every_at}
use Rattle.model.specs.Basics.Choice.{Below, Same, below, it, other, over, pick, same, under}
use Rattle.model.specs.Basics.TestLaws.{T-l, T-r, equal_bools, every_same, holds_true}
use Rattle.model.specs.Basics.Tests.{every, imp}
use Rattle.model.specs.Effect.Words.{set_clearance, set_level}
use Rattle.model.specs.Level.{at_most}
use Rattle.model.specs.State.AgreeSecure.{secure_agrees}
use Rattle.model.specs.State.Check.{ceiling_test, contained_test, labelled_test, roles_test, secure_test, seen_test}
use Rattle.model.specs.State.ParentLaws.{row_room}
use Rattle.model.specs.State.Secure.{Good}
use Rattle.model.specs.State.WellFormed.{WellFormed}
use Rattle.model.specs.Tables.EditLaws.{elsewhere}
use Rattle.model.specs.Tables.Words.{Tables, clearance, used_places, device_kind, devices, entity_count, kinds, level}
use Rattle.model.specs.Tables.Words.{place_count, places, user_count}
use Rattle.secure.specs.Secured.{capped, entity_secure, user_secure}
use Rattle.secure.specs.SecureLaws.{capped_within, secure_passes}

-- ---- one record among many

-- where all numbers from 1 to n passed, and the test has changed at e alone, e decides
every_one : (n : ℕ) (p q : ℕ → Bool) (e : ℕ) → 1 ≤ e → e ≤ n → T (every n (λ i. q (suc i))) → ((x : ℕ) → x ≢ e → p x ≡ q x)
    → every n (λ i. p (suc i)) ≡ p e
every_one n p q e low high old rest = equal_bools (every n (λ i. p (suc i))) (p e)
    (λ t. let s : suc (pred e) ≡ e = omega arith in subst (λ (x : ℕ). T (p x)) s (every_at n (λ i. p (suc i)) t (pred e) (omega arith)))
    (λ t. every_of n (λ i. p (suc i)) (λ i h. go i h t (eqb (suc i) e) (same (suc i) e)))
  where
    go : (i : ℕ) → i < n → T (p e) → (b : Bool) → Same (suc i) e b → T (p (suc i))
    go i h t true (it z) = subst (λ (x : ℕ). T (p x)) (sym z) t
    go i h t false (other z) = subst T (sym (rest (suc i) z)) (every_at n (λ i. q (suc i)) old i h)

-- what is asked of places in use may differ beyond them
imp_same : (i n : ℕ) (a b : Bool) → (i < n → a ≡ b) → imp (ltb i n) a ≡ imp (ltb i n) b
unfolding imp
imp_same i n a b f = go (ltb i n) (below i n)
  where
    go : (c : Bool) → Below i n c → imp c a ≡ imp c b
    go true (under h) = f h
    go false (over h) = refl

-- the word that was set
pub here : (e a b : ℕ) → pick (eqb e e) a b ≡ a
here e a b = rw (eq-eqb e e refl)

module _ (d : Tables) (g : Good d) where
  -- good tables pass both passes of the check
  both_pass : T (every entity_count (λ e. entity_secure d (suc e)) && every user_count (λ u. user_secure d (suc u)))
  both_pass = subst T (sym (secure_passes d)) ((secure_agrees d g.0).from g.1)

  entities_pass : T (every entity_count (λ e. entity_secure d (suc e)))
  entities_pass = T-l (every entity_count (λ e. entity_secure d (suc e))) (every user_count (λ u. user_secure d (suc u))) both_pass

  users_pass : T (every user_count (λ u. user_secure d (suc u)))
  users_pass = T-r (every entity_count (λ e. entity_secure d (suc e))) (every user_count (λ u. user_secure d (suc u))) both_pass

  -- ---- a clearance

  module _ (u a : ℕ) where
    -- entities do not ask for it
    clearance_entity : (e : ℕ) → entity_secure (set_clearance u a d) e ≡ entity_secure d e
    unfolding entity_secure contained_test labelled_test ceiling_test
    clearance_entity e = refl

    -- nor do other users
    clearance_other : (x : ℕ) → x ≢ u → user_secure (set_clearance u a d) x ≡ user_secure d x
    unfolding user_secure seen_test roles_test
    clearance_other x n = rw (elsewhere x u a (d.user x clearance) n)

    -- so the user whose it is decides
    pub clearance_own : 1 ≤ u → u ≤ user_count → secure_test (set_clearance u a d) ≡ user_secure (set_clearance u a d) u
    clearance_own low high = sym (secure_passes (set_clearance u a d)) ∙ ap₂ ◌&&◌
        (every_same entity_count (λ e. entity_secure (set_clearance u a d) (suc e)) (λ e. entity_secure d (suc e)) (λ e h. clearance_entity (suc e))
        ∙ holds_true (every entity_count (λ e. entity_secure d (suc e))) entities_pass)
        (every_one user_count (user_secure (set_clearance u a d)) (user_secure d) u low high users_pass clearance_other)

  -- ---- the level of a device

  module _ (e a : ℕ) (k : kinds d e ≡ device_kind) where
    -- a device stands in no place
    pub held_level : (x i : ℕ) → i < used_places d x → (set_level e a d).entity (places d x i) level ≡ d.entity (places d x i) level
    held_level x i h = elsewhere (places d x i) e a (d.entity (places d x i) level)
        (λ q. let z = g.0.links.contents x (places d x i) (i, h, refl) in absurd (omega (arith, (rw q at z).1, k)))

    -- so what stands in the places of x is as much at most m as before
    held_same : (x m : ℕ) → every place_count (λ i. imp (ltb i (used_places d x)) (at_most ((set_level e a d).entity (places d x i) level) m))
        ≡ every place_count (λ i. imp (ltb i (used_places d x)) (at_most (d.entity (places d x i) level) m))
    held_same x m = every_same place_count (λ i. imp (ltb i (used_places d x)) (at_most ((set_level e a d).entity (places d x i) level) m))
        (λ i. imp (ltb i (used_places d x)) (at_most (d.entity (places d x i) level) m))
        (λ i h. imp_same i (used_places d x) (at_most ((set_level e a d).entity (places d x i) level) m) (at_most (d.entity (places d x i) level) m)
        (λ l. ap (λ (y : ℕ). at_most y m) (held_level x i l)))

    -- users ask for the levels of what stands in places
    level_user : (x : ℕ) → user_secure (set_level e a d) x ≡ user_secure d x
    unfolding user_secure seen_test roles_test
    level_user x = ap (λ (b : Bool). imp (not (eqb (devices d x) 0)) b && roles_test d x) (held_same (devices d x) (d.user x clearance))

    -- other entities for those and for their own
    level_other : (x : ℕ) → x ≢ e → entity_secure (set_level e a d) x ≡ entity_secure d x
    unfolding entity_secure contained_test labelled_test ceiling_test
    level_other x n = rw (elsewhere x e a (d.entity x level) n)
        (ap (λ (b : Bool). b && (labelled_test d x && ceiling_test d x)) (held_same x (d.entity x level)))

    -- so the device whose it is decides
    pub level_own : 1 ≤ e → e ≤ entity_count → secure_test (set_level e a d) ≡ entity_secure (set_level e a d) e
    level_own low high = sym (secure_passes (set_level e a d)) ∙ ap₂ ◌&&◌
        (every_one entity_count (entity_secure (set_level e a d)) (entity_secure d) e low high entities_pass level_other)
        (every_same user_count (λ u. user_secure (set_level e a d) (suc u)) (λ u. user_secure d (suc u)) (λ u h. level_user (suc u))
        ∙ holds_true (every user_count (λ u. user_secure d (suc u))) users_pass)
        ∙ and-true (entity_secure (set_level e a d) e)

-- ---- who is on, and places

-- who is on is on an entity
pub device_there : (d : Tables) → WellFormed d → (u : ℕ) → devices d u ≢ 0 → (1 ≤ devices d u) × (devices d u ≤ entity_count)
device_there d w u n = let k = w.links.device_is u n in w.entity_numbers (devices d u) (λ q. omega (arith, k))

-- no entity uses more than eight places
pub used : (d : Tables) → Good d → (v : ℕ) → used_places d v ≡ capped (used_places d v)
used d g v = capped_within (used_places d v) (row_room d g.0 v)
