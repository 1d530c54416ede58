-- The tests of what records say of one another agree with the statements of rule 3.
use Rattle.std.proofs.Math.Bool.{Bool, false, not, true}
use Rattle.std.specs.Prelude.{◌&&◌, ◌≢◌, ◌⊎◌, ◌≡◌, refl, eqb, ltb}
use Rattle.std.proofs.Common.{inl, inr, ◌∙◌}
use Rattle.std.proofs.Math.Path.{subst, sym}
use Prim.Native.Nat.{◌<◌, ◌≤◌, suc, zero, ℕ}
use native.Mathlib.Omega.{arith}
use Rattle.std.proofs.Math.Dec.{T, leb}
use Rattle.model.specs.Basics.Agree.{Agrees, agreement, agrees_T, agrees_and, agrees_as, agrees_eq, agrees_every, agrees_imp}
use Rattle.model.specs.Basics.Agree.{agrees_range, agrees_then}
use Rattle.model.specs.Basics.Choice.{Below, below, over, pick, under}
use Rattle.model.specs.Basics.Tests.{every, imp}
use Rattle.model.specs.State.Check.{alone_test, contents_test, device_test, idle_test, in_test, links_test, loop_test, one_test, parent}
use Rattle.model.specs.State.Check.{spot_of}
use Rattle.model.specs.State.Climb.{up}
use Rattle.model.specs.State.ClimbLaws.{complete, sound}
use Rattle.model.specs.State.Depth.{Inside}
use Rattle.model.specs.State.DepthLaws.{holds_one}
use Rattle.model.specs.State.WellFormed.{In, Linked}
use Rattle.model.specs.Tables.KindLaws.{terminal_kind_agrees}
use Rattle.model.specs.Tables.Kinds.{Terminal, terminal}
use Rattle.model.specs.Tables.RowLaws.{sought}
use Rattle.model.specs.Tables.Rows.{Member, Sought, seek}
use Rattle.model.specs.Tables.Words.{container_kind, entity_count, object_kind, place_count, user_count}

-- c is among the first n of a row
pub member_agrees : (r : ℕ → ℕ) (n c : ℕ) → Agrees (ltb (seek c r n) n) (Member r n c)
member_agrees r n c = go (ltb (seek c r n) n) (below (seek c r n) n) (sought c r n)
  where
    go : (b : Bool) → Below (seek c r n) n b → Sought c r n (seek c r n) → Agrees b (Member r n c)
    go true (under h) (inl s) = record { to = λ t. (seek c r n, s.0, s.1); from = λ m. tt }
    go true (under h) (inr s) = absurd (omega (arith, s.0))
    go false (over h) (inl s) = absurd (omega (arith, s.0))
    go false (over h) (inr s) = record { to = λ t. absurd t; from = λ m. s.1 m.0 m.1 m.2 }

pub in_agrees : (k n : ℕ → ℕ) (at : ℕ → ℕ → ℕ) (b a : ℕ) → Agrees (in_test k n at b a) (In k n at b a)
unfolding in_test
in_agrees k n at b a = agrees_and (agrees_eq (k b) container_kind) (member_agrees (at b) (n b) a)

yes_one : (b : Bool) → pick {A = ℕ} b 1 0 ≡ 1 → T b
yes_one true e = tt
yes_one false e = let z : ◌≡◌ {A = ℕ} 0 1 = e in omega arith

one_yes : (b : Bool) → T b → pick {A = ℕ} b 1 0 ≡ 1
one_yes true t = refl
one_yes false t = absurd t

-- the columns of tables that are zero outside their ranges
module _ (k n : ℕ → ℕ) (at : ℕ → ℕ → ℕ) (dev : ℕ → ℕ) (entity_out : (e : ℕ) → (e ≡ 0) ⊎ (entity_count < e) → (k e ≡ 0) × (n e ≡ 0))
    (user_out : (u : ℕ) → (u ≡ 0) ⊎ (user_count < u) → dev u ≡ 0) (room : (e : ℕ) → n e ≤ place_count) where
  pub boxed : (b a : ℕ) → In k n at b a → (1 ≤ b) × (b ≤ entity_count)
  boxed b a h =
      let no0 : b ≢ 0 = λ q. omega (arith, entity_out b (inl q), h.0) in
      let no65 : ¬ (entity_count < b) = λ q. omega (arith, entity_out b (inr q), h.0) in
      (omega arith, omega arith)

  pub parent_top : (a : ℕ) → parent k n at a ≡ 0 → (x : ℕ) → In k n at x a → ⊥
  unfolding parent spot_of
  parent_top a e x h = go (ltb (spot_of k n at a) entity_count) (below (spot_of k n at a) entity_count)
      (sought 1 (λ i. pick (in_test k n at (suc i) a) 1 0) entity_count) e x h (boxed x a h)
    where
      go : (b : Bool) → Below (spot_of k n at a) entity_count b → Sought 1 (λ i. pick (in_test k n at (suc i) a) 1 0) entity_count (spot_of k n at a)
          → pick b (suc (spot_of k n at a)) 0 ≡ 0 → (x : ℕ) → In k n at x a → (1 ≤ x) × (x ≤ entity_count) → ⊥
      go true (under l) s e x h r = let z : suc (spot_of k n at a) ≡ 0 = e in omega arith
      go false (over l) (inl s) e x h r = omega (arith, s.0)
      go false (over l) (inr s) e zero h r = omega arith
      go false (over l) (inr s) e (suc x) h r = s.1 x (omega arith) (one_yes (in_test k n at (suc x) a) ((in_agrees k n at (suc x) a).from h))

  pub parent_holds : (a : ℕ) → parent k n at a ≢ 0 → In k n at (parent k n at a) a
  unfolding parent spot_of
  parent_holds a e =
      go (ltb (spot_of k n at a) entity_count) (below (spot_of k n at a) entity_count) (sought 1 (λ i. pick (in_test k n at (suc i) a) 1 0) entity_count) e
    where
      go : (b : Bool) → Below (spot_of k n at a) entity_count b → Sought 1 (λ i. pick (in_test k n at (suc i) a) 1 0) entity_count (spot_of k n at a)
          → pick b (suc (spot_of k n at a)) 0 ≢ 0 → In k n at (pick b (suc (spot_of k n at a)) 0) a
      go true (under l) (inl s) e = (in_agrees k n at (suc (spot_of k n at a)) a).to (yes_one (in_test k n at (suc (spot_of k n at a)) a) s.1)
      go true (under l) (inr s) e = absurd (omega (arith, s.0))
      go false (over l) s e = absurd (e refl)

  contents_agrees : Agrees (contents_test k n at dev) ((e c : ℕ) → Member (at e) (n e) c → (object_kind ≤ k c) × (k c ≤ container_kind))
  unfolding contents_test
  contents_agrees = agrees_as {P = (e : ℕ) → (i : ℕ) → i < place_count → i < n e → (object_kind ≤ k (at e i)) × (k (at e i) ≤ container_kind)}
      (λ f e c m. subst (λ (y : ℕ). (object_kind ≤ k y) × (k y ≤ container_kind)) m.2 (f e m.0 (omega (arith, m.1, room e)) m.1))
      (λ f e i h l. f e (at e i) (i, l, refl))
      (agrees_range entity_count (λ e. every place_count (λ i. imp (ltb i (n e)) (leb object_kind (k (at e i)) && leb (k (at e i)) container_kind)))
      (λ e. (i : ℕ) → i < place_count → i < n e → (object_kind ≤ k (at e i)) × (k (at e i) ≤ container_kind))
      (λ e. search agreement depth 20) (λ i h l. absurd (omega (arith, entity_out 0 (inl refl)))) (λ e o i h l. absurd (omega (arith, entity_out e (inr o)))))

  pub one_agrees : Agrees (one_test k n at dev) ((c a b : ℕ) → In k n at a c → In k n at b c → a ≡ b)
  unfolding one_test
  one_agrees = agrees_as {P = (a : ℕ) → k a ≡ container_kind → (b : ℕ) → k b ≡ container_kind → (i : ℕ) → i < place_count → (j : ℕ) → j < place_count
      → i < n a → j < n b → at a i ≡ at b j → a ≡ b}
      (λ f c a b p q. f a p.0 b q.0 p.1.0 (omega (arith, p.1.1, room a)) q.1.0 (omega (arith, q.1.1, room b)) p.1.1 q.1.1
      (p.1.2 ∙ sym q.1.2))
      (λ f a p b q i h j l r s e. f (at a i) a b (p, (i, r, refl)) (q, (j, s, sym e)))
      (agrees_range entity_count (λ a. imp (eqb (k a) container_kind) (every entity_count (λ b. row a (suc b))))
      (λ a. k a ≡ container_kind → (b : ℕ) → k b ≡ container_kind → (i : ℕ) → i < place_count → (j : ℕ) → j < place_count → i < n a → j < n b
      → at a i ≡ at b j → a ≡ b)
      (λ a. agrees_imp (agrees_eq (k a) container_kind) (agrees_range entity_count (row a)
      (λ b. k b ≡ container_kind → (i : ℕ) → i < place_count → (j : ℕ) → j < place_count → i < n a → j < n b → at a i ≡ at b j → a ≡ b)
      (λ b. search agreement depth 20)
      (λ q. absurd (omega (arith, entity_out 0 (inl refl)))) (λ b o q. absurd (omega (arith, entity_out b (inr o))))))
      (λ p. absurd (omega (arith, entity_out 0 (inl refl)))) (λ a o p. absurd (omega (arith, entity_out a (inr o)))))
    where
      row : ℕ → ℕ → Bool
      row a b = imp (eqb (k b) container_kind) (every place_count (λ i. every place_count
          (λ j. imp (ltb i (n a)) (imp (ltb j (n b)) (imp (eqb (at a i) (at b j)) (eqb a b))))))

  pub loop_agrees : ((c a b : ℕ) → In k n at a c → In k n at b c → a ≡ b) → Agrees (loop_test k n at dev) ((e : ℕ) → Inside (In k n at) e e → ⊥)
  unfolding loop_test
  loop_agrees one = agrees_as {P = (i : ℕ) → i < entity_count → T (up (parent k n at) (suc entity_count) (suc i))}
      (λ g e p. low g e p (let x = holds_one p in boxed e x.0 x.1))
      (λ f i h. complete entity_count (In k n at) (parent k n at) parent_top parent_holds one boxed f (suc i))
      (agrees_every entity_count (λ e. up (parent k n at) (suc entity_count) (suc e)) (λ e. T (up (parent k n at) (suc entity_count) (suc e)))
      (λ e. agrees_T (up (parent k n at) (suc entity_count) (suc e))))
    where
      low : ((i : ℕ) → i < entity_count → T (up (parent k n at) (suc entity_count) (suc i))) → (e : ℕ) → Inside (In k n at) e e
          → (1 ≤ e) × (e ≤ entity_count) → ⊥
      low g zero p r = omega arith
      low g (suc e) p r =
          sound entity_count (In k n at) (parent k n at) parent_top parent_holds one boxed (suc entity_count) (suc e) (g e (omega arith)) p

  pub device_agrees : Agrees (device_test k n at dev) ((u : ℕ) → dev u ≢ 0 → Terminal (k (dev u)))
  unfolding device_test
  device_agrees =
      agrees_range user_count (λ u. imp (not (eqb (dev u) 0)) (terminal (k (dev u)))) (λ u. dev u ≢ 0 → Terminal (k (dev u))) (λ u. search agreement)
      (λ q. absurd (q (user_out 0 (inl refl)))) (λ u o q. absurd (q (user_out u (inr o))))

  pub alone_agrees : Agrees (alone_test k n at dev) ((u v : ℕ) → dev u ≢ 0 → dev u ≡ dev v → u ≡ v)
  unfolding alone_test
  alone_agrees = agrees_range user_count (λ u. every user_count (λ v. imp (not (eqb (dev u) 0)) (imp (eqb (dev u) (dev (suc v))) (eqb u (suc v)))))
      (λ u. (v : ℕ) → dev u ≢ 0 → dev u ≡ dev v → u ≡ v)
      (λ u. agrees_range user_count (λ v. imp (not (eqb (dev u) 0)) (imp (eqb (dev u) (dev v)) (eqb u v))) (λ v. dev u ≢ 0 → dev u ≡ dev v → u ≡ v)
      (λ v. search agreement)
      (λ q e. absurd (q (e ∙ user_out 0 (inl refl)))) (λ v o q e. absurd (q (e ∙ user_out v (inr o)))))
      (λ v q. absurd (q (user_out 0 (inl refl)))) (λ u o v q. absurd (q (user_out u (inr o))))

  idle_agrees : Agrees (idle_test k n at dev) ((e : ℕ) → Terminal (k e) → ((u : ℕ) → dev u ≢ e) → n e ≡ 0)
  unfolding idle_test
  idle_agrees = agrees_as {P = (e : ℕ) → e < entity_count → Terminal (k (suc e)) → ((u : ℕ) → dev u ≢ suc e) → n (suc e) ≡ 0}
      (λ f e h z. low f e h z (ltb e (suc entity_count)) (below e (suc entity_count))) (λ f e l h z. f (suc e) h z)
      (agrees_every entity_count (λ e. imp (terminal (k (suc e)))
      (imp (every user_count (λ u. not (eqb (dev (suc u)) (suc e)))) (eqb (n (suc e)) 0)))
      (λ e. Terminal (k (suc e)) → ((u : ℕ) → dev u ≢ suc e) → n (suc e) ≡ 0)
      (λ e. agrees_imp (terminal_kind_agrees (k (suc e))) (agrees_imp
      (agrees_range user_count (λ u. not (eqb (dev u) (suc e))) (λ u. dev u ≢ suc e) (λ u. search agreement) (λ q. omega (arith, user_out 0 (inl refl)))
      (λ u o q. omega (arith, user_out u (inr o))))
      (agrees_eq (n (suc e)) 0))))
    where
      low : ((e : ℕ) → e < entity_count → Terminal (k (suc e)) → ((u : ℕ) → dev u ≢ suc e) → n (suc e) ≡ 0) → (e : ℕ) → Terminal (k e)
          → ((u : ℕ) → dev u ≢ e) → (b : Bool) → Below e (suc entity_count) b → n e ≡ 0
      low f zero h z b l = (entity_out 0 (inl refl)).1
      low f (suc e) h z true (under l) = f e (omega arith) h z
      low f (suc e) h z false (over l) = (entity_out (suc e) (inr (omega arith))).1

  pub links_agrees : Agrees (links_test k n at dev) (Linked k n at dev)
  unfolding links_test
  links_agrees = agrees_as
      (λ (z : ((e c : ℕ) → Member (at e) (n e) c → (object_kind ≤ k c) × (k c ≤ container_kind))
      × (((c a b : ℕ) → In k n at a c → In k n at b c → a ≡ b) × (((e : ℕ) → Inside (In k n at) e e → ⊥)
      × (((u : ℕ) → dev u ≢ 0 → Terminal (k (dev u))) × (((u v : ℕ) → dev u ≢ 0 → dev u ≡ dev v → u ≡ v)
      × ((e : ℕ) → Terminal (k e) → ((u : ℕ) → dev u ≢ e) → n e ≡ 0)))))).
      record { contents = z.0; one_container = z.1.0; no_loop = z.1.1.0; device_is = z.1.1.1.0; one_user = z.1.1.1.1.0; idle = z.1.1.1.1.1 })
      (λ l. (l.contents, (l.one_container, (l.no_loop, (l.device_is, (l.one_user, l.idle))))))
      (agrees_and contents_agrees (agrees_then one_agrees (λ o. agrees_and (loop_agrees o) (agrees_and device_agrees (agrees_and alone_agrees idle_agrees)))))
