-- All passes together ask what the model's test of well-formed tables asks.
use Rattle.std.specs.Prelude.{Bool, ◌&&◌, false, not, true, ◌≢◌, ◌≡◌, refl, ◌<◌, pred, suc, zero, ℕ, T, eqb, ltb}
use Rattle.std.proofs.Common.{inl, inr, ◌∙◌, sym, arith}
use Rattle.std.proofs.Math.Path.{ap}
use Rattle.laws.specs.Loops.{every_both}
use Rattle.model.specs.Basics.Agree.{Agrees, agrees_T, agrees_and, agrees_eq, agrees_every, agrees_imp, agrees_not, agrees_range}
use Rattle.model.specs.Basics.Choice.{Below, below, over, under}
use Rattle.model.specs.Basics.TestLaws.{equal_bools}
use Rattle.model.specs.Basics.Tests.{every}
use Rattle.model.specs.State.AgreeLinks.{alone_agrees, device_agrees}
use Rattle.model.specs.State.Check.{alone_test, contents_test, device_test, idle_test, links_test, loop_test, one_test, well_formed_test}
use Rattle.model.specs.State.Tests.{entity_test, user_test}
use Rattle.model.specs.Tables.Layout.{Bounded}
use Rattle.model.specs.Tables.Words.{Tables, used_places, device, device_kind, devices, entity_count, kind, kinds, places, user_count}
use Rattle.state.specs.Holders.{Amiss}
use Rattle.state.specs.Passes.{all_own, contents_at, idle_at, on_device, own_test, tree_test}

-- ---- who is on what

-- what `on_device` says of user u
abbrev On : Tables → ℕ → Type 0
On d u = (devices d u ≡ 0 → ⊥) → (kinds d (devices d u) ≡ device_kind) × ((v : ℕ) → v < pred u → devices d (suc v) ≡ devices d u → ⊥)

-- the test says so
on_agrees : (d : Tables) (u : ℕ) → Agrees (on_device d u) (On d u)
unfolding on_device
on_agrees d u = agrees_imp (agrees_not (agrees_eq (devices d u) 0)) (agrees_and (agrees_eq (kinds d (devices d u)) device_kind)
    (agrees_every (pred u) (λ v. not (eqb (devices d (suc v)) (devices d u))) (λ v. devices d (suc v) ≡ devices d u → ⊥)
    (λ v. agrees_not (agrees_eq (devices d (suc v)) (devices d u)))))

module _ (d : Tables) (o : Bounded d) where
  -- and of every user at once
  all_on : Agrees (every user_count (λ u. on_device d (suc u))) ((u : ℕ) → On d u)
  all_on = agrees_range user_count (on_device d) (On d) (on_agrees d) (λ q. absurd (q (o.user_out 0 (inl refl) device)))
      (λ u h q. absurd (q (o.user_out u (inr h) device)))

  -- these two tests ask nothing of counts
  on_device_lem : Agrees (device_test (kinds d) (used_places d) (places d) (devices d)) ((u : ℕ) → devices d u ≢ 0 → kinds d (devices d u) ≡ device_kind)
  unfolding device_test
  on_device_lem = device_agrees (kinds d) (λ e. 0) (places d) (devices d) (λ e q. (o.entity_out e q kind, refl)) (λ u q. o.user_out u q device)
      (λ e. omega arith)

  -- nobody shares a device
  by_self : Agrees (alone_test (kinds d) (used_places d) (places d) (devices d)) ((u v : ℕ) → devices d u ≢ 0 → devices d u ≡ devices d v → u ≡ v)
  unfolding alone_test
  by_self = alone_agrees (kinds d) (λ e. 0) (places d) (devices d) (λ e q. (o.entity_out e q kind, refl)) (λ u q. o.user_out u q device) (λ e. omega arith)

  -- none of a lower number on the same device: none at all
  alone_of : ((u : ℕ) → On d u) → (u v : ℕ) → devices d u ≢ 0 → devices d u ≡ devices d v → u ≡ v
  alone_of f zero v q e = absurd (q (o.user_out 0 (inl refl) device))
  alone_of f (suc u) zero q e = absurd (q (e ∙ o.user_out 0 (inl refl) device))
  alone_of f (suc u) (suc v) q e = go (ltb u v) (below u v) (ltb v u) (below v u)
    where
      go : (a : Bool) → Below u v a → (b : Bool) → Below v u b → suc u ≡ suc v
      go true (under h) b k = absurd ((f (suc v) (λ z. q (e ∙ z))).1 u h e)
      go false (over h) true (under k) = absurd ((f (suc u) q).1 v k (sym e))
      go false (over h) false (over k) = omega arith

  -- rules 3.15 and 3.16 in one pass
  pub devices_pass : every user_count (λ u. on_device d (suc u))
      ≡ (device_test (kinds d) (used_places d) (places d) (devices d) && alone_test (kinds d) (used_places d) (places d) (devices d))
  devices_pass = equal_bools (every user_count (λ u. on_device d (suc u)))
      (device_test (kinds d) (used_places d) (places d) (devices d) && alone_test (kinds d) (used_places d) (places d) (devices d))
      (λ t. let f = all_on.to t in (agrees_and on_device_lem by_self).from (λ u q. (f u q).0, alone_of f))
      (λ t. let z = (agrees_and on_device_lem by_self).to t in all_on.from (λ u q. (z.0 u q, λ v h e. omega (arith, z.1 u (suc v) q (sym e)))))

-- ---- all of it

-- the passes' order and the model's
regroup : (u dv al e c i o l : Bool) → (u && ((dv && al) && ((e && (c && i)) && (o && l)))) ≡ (u && (e && (c && (o && (l && (dv && (al && i)))))))
regroup u dv al e c i o l = equal_bools (u && ((dv && al) && ((e && (c && i)) && (o && l)))) (u && (e && (c && (o && (l && (dv && (al && i)))))))
    (λ t. let z = left.to t in let y = z.1.1 in
    right.from (z.0, (y.0.0, (y.0.1.0, (y.1.0, (y.1.1, (z.1.0.0, (z.1.0.1, y.0.1.1))))))))
    (λ t. let z = right.to t in let y = z.1.1.1 in
    left.from (z.0, ((y.1.1.0, y.1.1.1.0), ((z.1.0, (z.1.1.0, y.1.1.1.1)), (y.0, y.1.0)))))
  where
    left : Agrees (u && ((dv && al) && ((e && (c && i)) && (o && l)))) (T u × ((T dv × T al) × ((T e × (T c × T i)) × (T o × T l))))
    left = agrees_and (agrees_T u) (agrees_and (agrees_and (agrees_T dv) (agrees_T al))
        (agrees_and (agrees_and (agrees_T e) (agrees_and (agrees_T c) (agrees_T i))) (agrees_and (agrees_T o) (agrees_T l))))

    right : Agrees (u && (e && (c && (o && (l && (dv && (al && i))))))) (T u × (T e × (T c × (T o × (T l × (T dv × (T al × T i)))))))
    right = agrees_and (agrees_T u) (agrees_and (agrees_T e) (agrees_and (agrees_T c) (agrees_and (agrees_T o) (agrees_and (agrees_T l)
        (agrees_and (agrees_T dv) (agrees_and (agrees_T al) (agrees_T i)))))))

module _ (d : Tables) (o : Bounded d) where
  -- each entity by itself, what stands in its places and its screen
  entities_pass : every entity_count (λ e. own_test d (suc e)) ≡ (every entity_count (λ e. entity_test (d.entity (suc e)))
      && (contents_test (kinds d) (used_places d) (places d) (devices d) && idle_test (kinds d) (used_places d) (places d) (devices d)))
  unfolding own_test contents_test idle_test contents_at idle_at
  entities_pass = every_both entity_count (λ e. entity_test (d.entity (suc e))) (λ e. contents_at d (suc e) && idle_at d (suc e))
      ∙ ap (λ (b : Bool). every entity_count (λ e. entity_test (d.entity (suc e))) && b)
      (every_both entity_count (λ e. contents_at d (suc e)) (λ e. idle_at d (suc e)))

  -- users, devices, entities one by one, and what stands in what
  pub passes_all : (every user_count (λ u. user_test (d.user (suc u))) && (every user_count (λ u. on_device d (suc u))
      && (every entity_count (λ e. own_test d (suc e)) && tree_test d))) ≡ well_formed_test d
  unfolding well_formed_test links_test
  passes_all = rw (devices_pass d o, entities_pass) (regroup (every user_count (λ u. user_test (d.user (suc u))))
      (device_test (kinds d) (used_places d) (places d) (devices d)) (alone_test (kinds d) (used_places d) (places d) (devices d))
      (every entity_count (λ e. entity_test (d.entity (suc e)))) (contents_test (kinds d) (used_places d) (places d) (devices d))
      (idle_test (kinds d) (used_places d) (places d) (devices d)) (one_test (kinds d) (used_places d) (places d) (devices d))
      (loop_test (kinds d) (used_places d) (places d) (devices d)))

  -- what each pass has found, in turn
  module _ (u : Bool) (ue : u ≡ every user_count (λ u. user_test (d.user (suc u)))) where
    -- all is asked from the users on
    from_users : (u && (every user_count (λ u. on_device d (suc u)) && (every entity_count (λ e. own_test d (suc e)) && tree_test d))) ≡ well_formed_test d
    from_users = rw ue passes_all

    -- some user is not in order
    pub users_fail : u ≡ false → false ≡ well_formed_test d
    users_fail f = rw f at from_users

    module _ (ut : u ≡ true) (v : Bool) (ve : v ≡ every user_count (λ u. on_device d (suc u))) where
      -- what is left from the devices on
      from_devices : (v && (every entity_count (λ e. own_test d (suc e)) && tree_test d)) ≡ well_formed_test d
      from_devices = rw ve (rw ut at from_users)

      -- somebody is on no device, or two are on one
      pub devices_fail : v ≡ false → false ≡ well_formed_test d
      devices_fail f = rw f at from_devices

      module _ (vt : v ≡ true) where
        -- what is left from the entities on
        from_entities : (every entity_count (λ e. own_test d (suc e)) && tree_test d) ≡ well_formed_test d
        from_entities = rw vt at from_devices

        -- some entity is not in order by itself, or the containers are not
        pub amiss_fails : Amiss d → false ≡ well_formed_test d
        amiss_fails a = sym a ∙ from_entities

        -- every entity is, and what stands in what is all that is left
        pub tree_left : all_own d ≡ true → (b : Bool) → b ≡ tree_test d → b ≡ well_formed_test d
        tree_left t b be = be ∙ (rw t at from_entities)
