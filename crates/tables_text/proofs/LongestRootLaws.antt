-- What can be charged to one number at most; and one number is charged less, since what is in containers is not in itself: a container is in none.
use Rattle.std.specs.Prelude.{Bool, ◌≡◌, eqb}
use Rattle.std.proofs.Math.Bool.{false, true}
use Prim.Native.Nat.{◌*◌, ◌+◌, ◌<◌, ◌≤◌, suc, zero, ℕ}
use Rattle.std.proofs.Common.{one-mul, zero-mul}
use native.Mathlib.Omega.{arith}
use Rattle.std.proofs.Math.Dec.{T}
use Rattle.model.specs.Basics.Cases.{cases, lt_or_le, true_or_false}
use Rattle.model.specs.Basics.Choice.{Same, it, other, pick, same}
use Rattle.model.specs.State.Check.{parent}
use Rattle.model.specs.State.Climb.{up}
use Rattle.model.specs.State.ClimbLaws.{complete}
use Rattle.model.specs.State.ParentLaws.{parent_held, parent_none, parent_range}
use Rattle.model.specs.State.WellFormed.{InTables, Thing, WellFormed}
use Rattle.model.specs.Tables.Words.{Tables, absent_kind, device_kind, entity_count, kinds, places, used_places}
use Rattle.tables_text.specs.Longest.{device_size, place_size, second, thing_size}
use Rattle.tables_text.proofs.LongestChargeLaws.{held_once, held_there, held_thing, idle_empty, on_device_lem, on_few, on_once}
use Rattle.tables_text.specs.LongestShares.{charged, in_bytes, more_on, most_charged, on_bytes, own_bytes, times_held, users_on}
use Rattle.tables_text.specs.Total.{Some}
use Rattle.tables_text.specs.TotalLaws.{total_gap}
use borrow.Author.Tests.{eqb-true, ne_eqb}

times_none : (n c : ℕ) → n ≡ 0 → n * c ≡ 0
times_none n c e = rw e (zero-mul c)

times_one : (n c : ℕ) → n ≡ 1 → n * c ≡ c
times_one n c e = rw e (one-mul c)

module _ (d : Tables) (w : WellFormed d) where
  -- ---- what an entity's own lines have

  own_thing : (e : ℕ) → Thing d e → own_bytes d e ≡ thing_size + second e
  unfolding own_bytes
  own_thing e t = rw (ne_eqb (kinds d e) absent_kind (λ q. omega (arith, t.0)), ne_eqb (kinds d e) device_kind (λ q. omega (arith, t.1)))

  own_device : (e : ℕ) → kinds d e ≡ device_kind → own_bytes d e ≡ device_size + second e + used_places d e * (place_size + 1)
  unfolding own_bytes
  own_device e k = rw k

  own_free : (e : ℕ) → 1 ≤ e → users_on d e ≡ 0 → own_bytes d e ≤ thing_size + second e
  unfolding own_bytes
  own_free e h z = cases (true_or_false (eqb (kinds d e) absent_kind))
      (λ a. rw a (omega arith))
      (λ a. rw a (cases (true_or_false (eqb (kinds d e) device_kind))
      (λ k. rw k (omega (arith, idle_empty d w e h (eqb-true (kinds d e) device_kind k) z)))
      (λ k. rw k (omega arith))))

  -- ---- what is charged to one number

  -- to what is in no container, and has no user on it, less
  pub charged_free : (e : ℕ) → 1 ≤ e → times_held d e ≡ 0 → users_on d e ≡ 0 → charged d e + place_size ≤ most_charged d e
  unfolding charged most_charged
  charged_free e h t z =
      omega (arith, own_free e h z, times_none (times_held d e) (in_bytes e) t, times_none (users_on d e) (on_bytes e) z, times_none (users_on d e) more_on z)

  charged_on : (e : ℕ) → 1 ≤ e → times_held d e ≡ 0 → users_on d e ≡ 1 → charged d e ≤ most_charged d e
  unfolding charged most_charged
  charged_on e h t o =
      let k : kinds d e ≡ device_kind = on_device_lem d w e h (omega arith) in
      omega (
        arith,
        own_device e k,
        (w.entities e).filled.packed.room,
        times_none (times_held d e) (in_bytes e) t,
        times_one (users_on d e) (on_bytes e) o,
        times_one (users_on d e) more_on o,
      )

  thing_off : (e : ℕ) → 1 ≤ e → Thing d e → users_on d e ≡ 0
  thing_off e h t = let n : ¬ (0 < users_on d e) = λ p. omega (arith, on_device_lem d w e h p, t.1) in omega arith

  charged_held : (e : ℕ) → 1 ≤ e → times_held d e ≡ 1 → charged d e ≤ most_charged d e
  unfolding charged most_charged
  charged_held e h t =
      let x : Thing d e = held_thing d w e (omega arith) in
      let z : users_on d e ≡ 0 = thing_off e h x in
      omega (arith, own_thing e x, times_one (times_held d e) (in_bytes e) t, times_none (users_on d e) (on_bytes e) z, times_none (users_on d e) more_on z)

  pub charged_most : (e : ℕ) → 1 ≤ e → charged d e ≤ most_charged d e
  charged_most e h = cases (lt_or_le 0 (times_held d e))
      (λ p. charged_held e h (omega (arith, held_once d w e)))
      (λ p. cases (lt_or_le 0 (users_on d e))
      (λ q. charged_on e h (omega arith) (omega (arith, on_once d w e h)))
      (λ q. omega (arith, charged_free e h (omega arith) (omega arith))))

  -- ---- one that is charged less

  -- what e is in, or 0
  above : ℕ → ℕ
  above = parent (kinds d) (used_places d) (places d)

  above_thing : (a : ℕ) → (above a ≡ 0 → ⊥) → Thing d (above a)
  unfolding above
  above_thing a n = let k = (parent_held d w a n).0 in (omega arith, omega arith)

  -- the way up from a thing ends at a thing that is in nothing
  top : (m a : ℕ) → T (up above m a) → Thing d a → (r : ℕ) × Thing d r × (above r ≡ 0)
  unfolding up
  top zero a t x = absurd t
  top (suc m) a t x = go (eqb (above a) 0) (same (above a) 0) (top m (above a)) t
    where
      go : (b : Bool) → Same (above a) 0 b → (T (up above m (above a)) → Thing d (above a) → (r : ℕ) × Thing d r × (above r ≡ 0))
          → T (pick b true (up above m (above a))) → (r : ℕ) × Thing d r × (above r ≡ 0)
      go true (it e) f t = (a, x, e)
      go false (other n) f t = f t (above_thing a n)

  climbs : (a : ℕ) → T (up above (suc entity_count) a)
  unfolding above
  climbs = complete entity_count (InTables d) (parent (kinds d) (used_places d) (places d)) (parent_none d w) (parent_held d w)
      (λ a x y. w.links.one_container a x y) (parent_range d w) w.links.no_loop

  top_free : (r : ℕ) → above r ≡ 0 → times_held d r ≡ 0
  unfolding above
  top_free r e =
      let n : ¬ (0 < times_held d r) = λ p. let b = held_there d w r p in parent_none d w r e b.0 b.1 in
      omega arith

  thing_spared : (r : ℕ) → Thing d r → above r ≡ 0 → Some entity_count 1 (λ e. charged d e + place_size ≤ most_charged d e)
  thing_spared r t e =
      let n = w.entity_numbers r (λ q. omega (arith, t.0)) in
      (r, n.0, omega (arith, n.1), charged_free r n.0 (top_free r e) (thing_off r n.0 t))

  -- more numbers than users: one has no user on it. If it is in a container, the way up from it ends; if not, it is the one.
  pub some_spared : Some entity_count 1 (λ e. charged d e + place_size ≤ most_charged d e)
  some_spared =
      let g = total_gap entity_count 1 (users_on d) (omega (arith, on_few d w)) in
      cases (lt_or_le 0 (times_held d g.0))
      (λ p. let r = top (suc entity_count) g.0 (climbs g.0) (held_thing d w g.0 p) in thing_spared r.0 r.1 r.2)
      (λ p. (g.0, g.1, g.2, charged_free g.0 g.1 (omega arith) g.3))
