-- Rule 6.6: a level of an object or container keeps good tables secure exactly where what it holds is at most that, and what holds or shows it, and
-- who sees it there, at least that.
use Rattle.std.specs.Prelude.{Bool, ◌&&◌, ◌≢◌, ◌⊎◌, ◌≡◌, ◌<◌, suc, ℕ, eqb}
use Rattle.std.proofs.Math.Bool.{false, true}
use Rattle.std.proofs.Common.{inl, inr, ◌∙◌, sym, arith, ne_eqb}
use Rattle.std.proofs.Math.Path.{ap, refl, subst}
use Rattle.std.proofs.Math.Dec.{T}
use Rattle.laws.specs.Bools.{agreed, agreed_true}
use Rattle.model.specs.Basics.Agree.{Agrees, agreement, agrees_T, agrees_and, agrees_as, agrees_imp, agrees_range}
use Rattle.model.specs.Basics.Choice.{Same, it, other, pick, same}
use Rattle.model.specs.Basics.TestLaws.{T-r, every_same, is_true}
use Rattle.model.specs.Basics.Tests.{every, imp}
use Rattle.model.specs.Effect.Words.{set_level}
use Rattle.model.specs.Level.{AtMost, at_most}
use Rattle.model.proofs.LevelLaws.{at_most_ordered}
use Rattle.model.specs.State.AgreeSecure.{secure_agrees}
use Rattle.model.specs.State.Check.{ceiling_test, contained_test, labelled_test, roles_test, secure_test, seen_test}
use Rattle.model.specs.State.Depth.{direct}
use Rattle.model.specs.State.ParentLaws.{entity_out_lem, parent_held, parent_none, row_room, user_out_lem}
use Rattle.model.specs.State.Secure.{Good}
use Rattle.model.specs.State.WellFormed.{Holds, InTables, Thing, WellFormed}
use Rattle.model.specs.Tables.EditLaws.{elsewhere}
use Rattle.model.specs.Tables.Kinds.{screen}
use Rattle.model.specs.Tables.Words.{Tables, absent_kind, clearance, container_kind, device_kind, devices, entity_count, kinds, level, maximum}
use Rattle.model.specs.Tables.Words.{object_kind, place_count, places, used_places, user_count}
use Rattle.op_entities.specs.Held.{container_admits, contents_stay, holders_stay, screen_admits, screens_admit}
use Rattle.rows.specs.Rows.{place_at_most}
use Rattle.standing.specs.SeenLaws.{seeing_agrees}
use Rattle.standing.specs.Standing.{parent_in}
use Rattle.secure.specs.ReachLaws.{here}

-- ---- what holds c

module _ (d : Tables) (w : WellFormed d) where
  -- it is a container or a device
  holder_kind : (x c : ℕ) → Holds d x c → (kinds d x ≡ container_kind) ⊎ (kinds d x ≡ device_kind)
  holder_kind x c m = go (eqb (kinds d x) container_kind) (same (kinds d x) container_kind)
    where
      there : kinds d x ≢ absent_kind
      there q = let z : used_places d x ≡ 0 = (w.entities x).absent q _ in omega (arith, m.1)

      no_object : kinds d x ≢ object_kind
      no_object q = omega (arith, m.1, (w.entities x).filled.object_empty q)

      go : (b : Bool) → Same (kinds d x) container_kind b → (kinds d x ≡ container_kind) ⊎ (kinds d x ≡ device_kind)
      go true (it q) = inl q
      go false (other q) = inr (omega (arith, there, no_object, q, (w.entities x).shape.kind_in))

  -- it is not c
  not_itself : (x c : ℕ) → Holds d x c → x ≢ c
  not_itself x c m q = go (holder_kind x c m)
    where
      go : (kinds d x ≡ container_kind) ⊎ (kinds d x ≡ device_kind) → ⊥
      go (inl k) = w.links.no_loop x (direct (subst (λ (y : ℕ). InTables d x y) (sym q) (k, m)))
      go (inr k) = let z = w.links.contents x c m in omega (arith, (rw (sym q) at z).1, k)

-- a test that cannot fail holds
stable : (b : Bool) → ((T b → ⊥) → ⊥) → T b
stable true n = tt
stable false n = n (λ t. t)

module _ (d : Tables) (g : Good d) (e a : ℕ) where
  -- what e holds is at most a
  Contents : Type 0
  Contents = (c : ℕ) → Holds d e c → AtMost (d.entity c level) a

  -- the screens that show e, and who is on them, are at least a
  Screens : Type 0
  Screens = (u : ℕ) → devices d u ≢ 0 → Holds d (devices d u) e → AtMost a (d.entity (devices d u) level) × AtMost a (d.user u clearance)

  -- and so is what e stands in
  Containers : Type 0
  Containers = (x : ℕ) → InTables d x e → AtMost a (d.entity x level)

  -- ---- the tests say these

  contents_agrees : Agrees (contents_stay d e a) Contents
  unfolding contents_stay place_at_most Contents
  contents_agrees = agrees_as {P = (i : ℕ) → i < used_places d e → AtMost (d.entity (places d e i) level) a}
      (λ f c m. subst (λ (y : ℕ). AtMost (d.entity y level) a) m.2 (f m.0 m.1))
      (λ s i h. s (places d e i) (i, h, refl))
      (search (agreement, agrees_T))

  screen_agrees : (u : ℕ) → Agrees (screen_admits d e a u)
      (devices d u ≢ 0 → Holds d (devices d u) e → AtMost a (d.entity (devices d u) level) × AtMost a (d.user u clearance))
  unfolding screen_admits
  screen_agrees u = agrees_as (λ f n m. f (n, m)) (λ f z. f z.0 z.1) (agrees_imp (seeing_agrees d e u)
      (agrees_and (agrees_T (at_most a (d.entity (devices d u) level))) (agrees_T (at_most a (d.user u clearance)))))

  screens_agrees : Agrees (screens_admit d e a) Screens
  unfolding screens_admit Screens
  screens_agrees = agrees_range user_count (screen_admits d e a)
      (λ u. devices d u ≢ 0 → Holds d (devices d u) e → AtMost a (d.entity (devices d u) level) × AtMost a (d.user u clearance)) screen_agrees
      (λ n m. absurd (n (user_out_lem d g.0 0 (inl refl)))) (λ u q n m. absurd (n (user_out_lem d g.0 u (inr q))))

  container_agrees : Agrees (container_admits d e a) Containers
  unfolding container_admits Containers
  container_agrees = agrees_as {P = parent_in d e ≢ 0 → AtMost a (d.entity (parent_in d e) level)} (λ f x i. down f x i)
      (λ s n. s (parent_in d e) (parent_held d g.0 e n)) (search (agreement, agrees_T))
    where
      down : (parent_in d e ≢ 0 → AtMost a (d.entity (parent_in d e) level)) → (x : ℕ) → InTables d x e → AtMost a (d.entity x level)
      down f x i =
          let n : parent_in d e ≢ 0 = λ z. parent_none d g.0 e z x i in
          subst (λ (y : ℕ). AtMost a (d.entity y level)) (g.0.links.one_container e (parent_in d e) x (parent_held d g.0 e n) i) (f n)

  holders_agrees : Agrees (holders_stay d e a) (Screens × Containers)
  unfolding holders_stay
  holders_agrees = agrees_and screens_agrees container_agrees

  -- ---- the old level

  trans : (x y z : ℕ) → AtMost x y → AtMost y z → AtMost x z
  trans = at_most_ordered.transitive

  -- what e holds was at most the old level, so it is at most every level that is at least that
  contents_above : AtMost (d.entity e level) a → Contents
  unfolding Contents
  contents_above l c m = trans (d.entity c level) (d.entity e level) a (g.1.contained e c m) l

  -- what holds e was at least the old level, so it is at least every level that is at most that
  holders_below : AtMost a (d.entity e level) → Screens × Containers
  unfolding Screens Containers
  holders_below l = (
    λ u n m. (
      trans a (d.entity e level) (d.entity (devices d u) level) l (g.1.contained (devices d u) e m),
      trans a (d.entity e level) (d.user u clearance) l (g.1.seen u e n m),
    ),
    λ x i. trans a (d.entity e level) (d.entity x level) l (g.1.contained x e i.1),
  )

  -- ---- the new one

  -- the level of x once that of e is a
  renewed : ℕ → ℕ
  renewed x = pick (eqb x e) a (d.entity x level)

  Contained : Type 0
  Contained = (x c : ℕ) → Holds d x c → AtMost (renewed c) (renewed x)

  Seen : Type 0
  Seen = (u c : ℕ) → devices d u ≢ 0 → Holds d (devices d u) c → AtMost (renewed c) (d.user u clearance)

  contained_agrees : (x : ℕ) → Agrees (contained_test (set_level e a d) x) ((c : ℕ) → Holds d x c → AtMost (renewed c) (renewed x))
  unfolding contained_test renewed
  contained_agrees x = agrees_as {P = (i : ℕ) → i < place_count → i < used_places d x → AtMost (renewed (places d x i)) (renewed x)}
      (λ f c m. subst (λ (y : ℕ). AtMost (renewed y) (renewed x)) m.2 (f m.0 (omega (arith, m.1, row_room d g.0 x)) m.1))
      (λ s i h l. s (places d x i) (i, l, refl))
      (search (agreement, agrees_T))

  seen_agrees : (u : ℕ)
      → Agrees (seen_test (set_level e a d) u) ((c : ℕ) → devices d u ≢ 0 → Holds d (devices d u) c → AtMost (renewed c) (d.user u clearance))
  unfolding seen_test renewed
  seen_agrees u = agrees_as {P = devices d u ≢ 0 → (i : ℕ) → i < place_count → i < used_places d (devices d u) → AtMost
      (renewed (places d (devices d u) i)) (d.user u clearance)}
      (λ f c n m. subst (λ (y : ℕ). AtMost (renewed y) (d.user u clearance)) m.2
      (f n m.0 (omega (arith, m.1, row_room d g.0 (devices d u))) m.1))
      (λ s n i h l. s (places d (devices d u) i) n (i, l, refl))
      (search (agreement, agrees_T))

  -- the level of what is no device is nothing to rules 4.3 to 4.5
  module _ (thing : Thing d e) where
    ceiling_same : (x : ℕ) → ceiling_test (set_level e a d) x ≡ ceiling_test d x
    unfolding ceiling_test imp
    ceiling_same x = go (eqb x e) (same x e)
      where
        go : (b : Bool) → Same x e b → pick (screen (kinds d x)) (at_most (pick b a (d.entity x level)) (d.entity x maximum)) true
            ≡ pick (screen (kinds d x)) (at_most (d.entity x level) (d.entity x maximum)) true
        go true (it q) = rw (ne_eqb (kinds d x) device_kind (λ k. omega (arith, (rw (sym q) at thing).1, k)))
        go false (other q) = refl

    others : Tables → Bool
    others c = every entity_count (λ x. labelled_test c (suc x)) && (every user_count (λ u. roles_test c (suc u))
        && every entity_count (λ x. ceiling_test c (suc x)))

    others_same : others (set_level e a d) ≡ others d
    unfolding others labelled_test roles_test
    others_same = ap (λ (b : Bool). every entity_count (λ x. labelled_test d (suc x)) && (every user_count (λ u. roles_test d (suc u)) && b))
        (every_same entity_count (λ x. ceiling_test (set_level e a d) (suc x)) (λ x. ceiling_test d (suc x)) (λ x h. ceiling_same (suc x)))

    others_kept : T (others (set_level e a d))
    unfolding others secure_test
    others_kept = subst T (sym others_same) (T-r (every user_count (λ u. seen_test d (suc u))) (others d)
        (T-r (every entity_count (λ x. contained_test d (suc x))) (every user_count (λ u. seen_test d (suc u)) && others d)
        ((secure_agrees d g.0).from g.1)))

    -- so the test says rules 4.1 and 4.2
    secure_renewed : Agrees (secure_test (set_level e a d)) (Contained × Seen)
    unfolding secure_test others Contained Seen
    secure_renewed = agrees_and
        (agrees_range entity_count (contained_test (set_level e a d)) (λ x. (c : ℕ) → Holds d x c → AtMost (renewed c) (renewed x)) contained_agrees
        (λ c m. absurd (omega (arith, m.1, entity_out_lem d g.0 0 (inl refl)))) (λ x q c m. absurd (omega (arith, m.1, entity_out_lem d g.0 x (inr q)))))
        (agrees_as {P = ((u c : ℕ) → devices d u ≢ 0 → Holds d (devices d u) c → AtMost (renewed c) (d.user u clearance)) × T (others (set_level e a d))}
        (λ z. z.0) (λ s. (s, others_kept)) (agrees_and
        (agrees_range user_count (seen_test (set_level e a d))
        (λ u. (c : ℕ) → devices d u ≢ 0 → Holds d (devices d u) c → AtMost (renewed c) (d.user u clearance)) seen_agrees
        (λ c n m. absurd (n (user_out_lem d g.0 0 (inl refl)))) (λ u q c n m. absurd (n (user_out_lem d g.0 u (inr q)))))
        (agrees_T (others (set_level e a d)))))

  -- ---- the two are one

  -- nothing stands in itself, so the new level is on one side only
  renewed_here : renewed e ≡ a
  unfolding renewed
  renewed_here = here e a (d.entity e level)

  now_there : (x : ℕ) → x ≢ e → renewed x ≡ d.entity x level
  unfolding renewed
  now_there x n = elsewhere x e a (d.entity x level) n

  from_holder : Contained → (x : ℕ) → Holds d x e → AtMost a (d.entity x level)
  unfolding Contained
  from_holder s x m = subst (λ (y : ℕ). AtMost y (d.entity x level)) renewed_here
      (subst (AtMost (renewed e)) (now_there x (not_itself d g.0 x e m)) (s x e m))

  asked_of : Contained × Seen → Contents × (Screens × Containers)
  unfolding Contained Seen Contents Screens Containers
  asked_of z = (
    λ c m. subst (λ (y : ℕ). AtMost y a) (now_there c (λ q. not_itself d g.0 e c m (sym q))) (subst (AtMost (renewed c)) renewed_here (z.0 e c m)),
    (
      λ u n m. (from_holder z.0 (devices d u) m, subst (λ (y : ℕ). AtMost y (d.user u clearance)) renewed_here (z.1 u e n m)),
      λ x i. from_holder z.0 x i.1,
    ),
  )

  -- what holds e is its container, or a device; and a device that shows something has its user
  to_holder : Screens × Containers → (x : ℕ) → Holds d x e → AtMost a (d.entity x level)
  unfolding Screens Containers
  to_holder s x m = go (holder_kind d g.0 x e m)
    where
      user_of : kinds d x ≡ device_kind → (AtMost a (d.entity x level) → ⊥) → (u : ℕ) → devices d u ≢ x
      user_of k n u q = n (subst (λ (y : ℕ). AtMost a (d.entity y level)) q
          (s.0 u (λ z. off (sym q ∙ z)) (subst (λ (y : ℕ). Holds d y e) (sym q) m)).0)
        where
          off : x ≢ 0
          off z = omega (arith, entity_out_lem d g.0 x (inl z), m.1)

      go : (kinds d x ≡ container_kind) ⊎ (kinds d x ≡ device_kind) → AtMost a (d.entity x level)
      go (inl k) = s.1 x (k, m)
      go (inr k) = stable (at_most a (d.entity x level)) (λ n. omega (arith, m.1, g.0.links.idle x k (user_of k n)))

  said_of : Contents × (Screens × Containers) → Contained × Seen
  unfolding Contained Seen Contents Screens Containers renewed
  said_of z = (λ x c m. go x c m (eqb c e) (same c e) (eqb x e) (same x e), λ u c n m. see u c n m (eqb c e) (same c e))
    where
      go : (x c : ℕ) → Holds d x c → (p : Bool) → Same c e p → (q : Bool) → Same x e q
          → AtMost (pick p a (d.entity c level)) (pick q a (d.entity x level))
      go x c m true (it p) true (it q) = at_most_ordered.reflexive a
      go x c m true (it p) false (other q) = to_holder z.1 x (subst (Holds d x) p m)
      go x c m false (other p) true (it q) = z.0 c (subst (λ (y : ℕ). Holds d y c) q m)
      go x c m false (other p) false (other q) = g.1.contained x c m

      see : (u c : ℕ) → devices d u ≢ 0 → Holds d (devices d u) c → (p : Bool) → Same c e p → AtMost (pick p a (d.entity c level)) (d.user u clearance)
      see u c n m true (it p) = (z.1.0 u n (subst (Holds d (devices d u)) p m)).1
      see u c n m false (other p) = g.1.seen u c n m

  -- all that is asked is that the tables stay secure
  pub level_is : Thing d e → (contents_stay d e a && holders_stay d e a) ≡ secure_test (set_level e a d)
  level_is thing = agreed (contents_stay d e a && holders_stay d e a) (secure_test (set_level e a d)) (agrees_and contents_agrees holders_agrees)
      (agrees_as asked_of said_of (secure_renewed thing))

  -- ---- as the functions meet it: o is the old level, and b what it was compared to

  module _ (o : ℕ) (oe : o ≡ d.entity e level) (b : Bool) where
    -- the new level is at least the old
    pub contents_kept : b ≡ at_most o a → b ≡ true → true ≡ contents_stay d e a
    contents_kept be z = agreed_true (contents_stay d e a) contents_agrees (contents_above (is_true (at_most (d.entity e level) a) (rw (← oe, ← be) z)))

    -- at most the old
    pub holders_kept : b ≡ at_most a o → b ≡ true → true ≡ holders_stay d e a
    holders_kept be z = agreed_true (holders_stay d e a) holders_agrees (holders_below (is_true (at_most a (d.entity e level)) (rw (← oe, ← be) z)))

  -- s says whether what e holds stays in it
  module _ (thing : Thing d e) (s : Bool) (se : s ≡ contents_stay d e a) where
    pub level_contents : s ≡ false → false ≡ secure_test (set_level e a d)
    level_contents z = rw (← se, z) at (level_is thing)

    pub level_holders : s ≡ true → (b : Bool) → b ≡ holders_stay d e a → b ≡ secure_test (set_level e a d)
    level_holders z b be = be ∙ (rw (← se, z) at (level_is thing))
