-- Each number is charged once: at most one container holds an entity, in one place, and at most one user is on a device.
use Rattle.std.proofs.Common.{inl, inr, ◌∙◌}
use Rattle.std.specs.Prelude.{◌≡◌, ◌*◌, ◌<◌, ◌≤◌, ℕ, eqb}
use Rattle.std.proofs.Math.Path.{ap, sym}
use Rattle.std.proofs.Math.Nat.{zero-mul}
use native.Mathlib.Omega.{arith}
use Rattle.model.specs.Basics.Cases.{cases, lt_or_le, true_or_false}
use Rattle.model.specs.State.Agree.{device_range}
use Rattle.model.specs.State.ParentLaws.{user_out_lem}
use Rattle.model.specs.State.WellFormed.{InTables, Thing, WellFormed}
use Rattle.model.specs.Tables.Words.{Tables, container_kind, device_kind, devices, entity_count, kinds, places, used_places, user_count}
use Rattle.tables_text.proofs.LongestLineLaws.{place_range}
use Rattle.tables_text.specs.LongestShares.{content_bytes, in_bytes, on_bytes, times_held, times_in, user_on, users_on}
use Rattle.tables_text.specs.Total.{one, total}
use Rattle.tables_text.specs.TotalLaws.{one_is, one_most, one_same, total_at, total_before, total_const, total_each, total_le, total_none}
use Rattle.tables_text.specs.TotalLaws.{total_same, total_scale, total_some, total_swap, total_unique}
use borrow.Author.Tests.{eqb-false, eqb-true}

-- sums of sums of products, in the other order: each number that is counted gives its own bytes
counted : (k i m j : ℕ) (f : ℕ → ℕ → ℕ) (g : ℕ → ℕ) → total k i (λ a. total m j (λ b. f a b * g b)) ≡ total m j (λ b. total k i (λ a. f a b) * g b)
counted k i m j f g =
    total_swap k i m j (λ a b. f a b * g b)
    ∙ total_same m j (λ b. total k i (λ a. f a b * g b)) (λ b. total k i (λ a. f a b) * g b) (λ b x y. total_scale k i (λ a. f a b) (g b))

module _ (d : Tables) (w : WellFormed d) where
  -- ---- what is in containers

  row_charged : (b : ℕ) → total (used_places d b) 0 (λ i. in_bytes (places d b i))
      ≡ total entity_count 1 (λ c. total (used_places d b) 0 (λ i. one (places d b i) c) * in_bytes c)
  row_charged b =
      let n = used_places d b in
      total_same n 0 (λ i. in_bytes (places d b i)) (λ i. total entity_count 1 (λ c. one (places d b i) c * in_bytes c))
      (λ i x y. let r = place_range d w b i (omega arith) in sym (total_at entity_count 1 (places d b i) in_bytes r.0 (omega (arith, r.1))))
      ∙ counted n 0 entity_count 1 (λ i c. one (places d b i) c) in_bytes

  content_charged : (b : ℕ) → content_bytes d b ≡ total entity_count 1 (λ c. times_in d b c * in_bytes c)
  unfolding content_bytes times_in
  content_charged b = cases (true_or_false (eqb (kinds d b) container_kind))
      (λ h. rw h (row_charged b))
      (λ h. rw h (sym (total_none entity_count 1 (λ c. 0 * in_bytes c) (λ c x y. zero-mul (in_bytes c)))))

  pub contents_charged : total entity_count 1 (content_bytes d) ≡ total entity_count 1 (λ c. times_held d c * in_bytes c)
  unfolding times_held
  contents_charged =
      total_same entity_count 1 (content_bytes d) (λ b. total entity_count 1 (λ c. times_in d b c * in_bytes c)) (λ b x y. content_charged b)
      ∙ counted entity_count 1 entity_count 1 (times_in d) in_bytes

  -- what is counted in a container is there,
  in_there : (b c : ℕ) → 0 < times_in d b c → InTables d b c
  unfolding times_in
  in_there b c h = cases (true_or_false (eqb (kinds d b) container_kind))
      (λ k. let r = total_some (used_places d b) 0 (λ i. one (places d b i) c) (rw k at h) in
      (eqb-true (kinds d b) container_kind k, (r.0, omega (arith, r.2), one_is (places d b r.0) c r.3)))
      (λ k. absurd (omega (arith, rw k at h)))

  -- and once,
  in_once : (b c : ℕ) → times_in d b c ≤ 1
  unfolding times_in
  in_once b c = cases (true_or_false (eqb (kinds d b) container_kind))
      (λ k. rw k (total_unique (used_places d b) 0 (λ i. one (places d b i) c) (λ i x y. one_most (places d b i) c)
      (λ i x y j z t p q. (w.entities b).filled.packed.distinct i j (omega arith) (omega arith)
      (one_is (places d b i) c p ∙ sym (one_is (places d b j) c q)))))
      (λ k. rw k (omega arith))

  pub held_there : (c : ℕ) → 0 < times_held d c → (b : ℕ) × InTables d b c
  unfolding times_held
  held_there c h = let r = total_some entity_count 1 (λ b. times_in d b c) h in (r.0, in_there r.0 c r.3)

  -- in one container
  pub held_once : (c : ℕ) → times_held d c ≤ 1
  unfolding times_held
  held_once c =
      total_unique entity_count 1 (λ b. times_in d b c) (λ b x y. in_once b c)
      (λ a x y b z t p q. w.links.one_container c a b (in_there a c p) (in_there b c q))

  -- so it is an object or a container
  pub held_thing : (c : ℕ) → 0 < times_held d c → Thing d c
  held_thing c h = let r = held_there c h in w.links.contents r.0 c r.1.1

  -- ---- who is on

  on_charged : (u : ℕ) → user_on d u ≡ total entity_count 1 (λ e. one (devices d u) e * on_bytes e)
  unfolding user_on
  on_charged u = cases (true_or_false (eqb (devices d u) 0))
      (λ h. rw h (sym (total_before entity_count 1 (devices d u) on_bytes (omega (arith, eqb-true (devices d u) 0 h)))))
      (λ h. let r = device_range d w u (eqb-false (devices d u) 0 h) in
      rw h (sym (total_at entity_count 1 (devices d u) on_bytes r.0 (omega (arith, r.1)))))

  pub users_charged : total user_count 1 (user_on d) ≡ total entity_count 1 (λ e. users_on d e * on_bytes e)
  unfolding users_on
  users_charged =
      total_same user_count 1 (user_on d) (λ u. total entity_count 1 (λ e. one (devices d u) e * on_bytes e)) (λ u x y. on_charged u)
      ∙ counted user_count 1 entity_count 1 (λ u e. one (devices d u) e) on_bytes

  -- at most one user is on e,
  pub on_once : (e : ℕ) → 1 ≤ e → users_on d e ≤ 1
  unfolding users_on
  on_once e h =
      total_unique user_count 1 (λ u. one (devices d u) e) (λ u x y. one_most (devices d u) e)
      (λ u x y v z t p q. w.links.one_user u v (λ o. omega (arith, one_is (devices d u) e p)) (one_is (devices d u) e p ∙ sym (one_is (devices d v) e q)))

  -- which is then a device,
  pub on_device_lem : (e : ℕ) → 1 ≤ e → 0 < users_on d e → kinds d e ≡ device_kind
  unfolding users_on
  on_device_lem e h p =
      let r = total_some user_count 1 (λ u. one (devices d u) e) p in
      let s = one_is (devices d r.0) e r.3 in
      ap (kinds d) (sym s) ∙ w.links.device_is r.0 (λ o. omega (arith, s))

  -- and a device that nobody is on shows nothing
  nobody_on : (e : ℕ) → 1 ≤ e → users_on d e ≡ 0 → (u : ℕ) → (devices d u ≡ e → ⊥)
  unfolding users_on
  nobody_on e h z u q = cases (lt_or_le u 1)
      (λ l. omega (arith, user_out_lem d w u (inl (omega arith)), q))
      (λ l. cases (lt_or_le user_count u)
      (λ m. omega (arith, user_out_lem d w u (inr m), q))
      (λ m. omega (arith, total_each user_count 1 (λ v. one (devices d v) e) u l (omega arith), one_same (devices d u) e q, z)))

  pub idle_empty : (e : ℕ) → 1 ≤ e → kinds d e ≡ device_kind → users_on d e ≡ 0 → used_places d e ≡ 0
  idle_empty e h k z = w.links.idle e k (nobody_on e h z)

  -- no more users are on than there are
  alone : (u : ℕ) → total entity_count 1 (λ e. one (devices d u) e) ≤ 1
  alone u =
      total_unique entity_count 1 (λ e. one (devices d u) e) (λ e x y. one_most (devices d u) e)
      (λ e x y f z t p q. sym (one_is (devices d u) e p) ∙ one_is (devices d u) f q)

  pub on_few : total entity_count 1 (users_on d) ≤ user_count
  unfolding users_on
  on_few =
      omega (
        arith,
        total_swap entity_count 1 user_count 1 (λ e u. one (devices d u) e),
        total_le user_count 1 (λ u. total entity_count 1 (λ e. one (devices d u) e)) (λ u. 1) (λ u x y. alone u),
        total_const user_count 1 1,
      )
