-- The test of well-formed tables agrees with the statement, on all tables of words; and well-formed tables have nothing outside
-- their records.
use Rattle.std.specs.Prelude.{◌≢◌, ◌⊎◌, ◌≡◌, refl, ◌<◌, ◌≤◌, ℕ}
use Rattle.std.proofs.Common.{inl, inr, subst, sym, not-suc-le-zero}
use Rattle.std.proofs.Math.Path.{fun_ext}
use native.Mathlib.Omega.{arith}
use Rattle.model.specs.Basics.Agree.{Agrees, agrees_and, agrees_as, agrees_range, agrees_then}
use Rattle.model.specs.State.AgreeLinks.{links_agrees}
use Rattle.model.specs.State.AgreeRecords.{Eights, entity_agrees, user_agrees}
use Rattle.model.specs.State.Check.{well_formed_test}
use Rattle.model.specs.State.Tests.{entity_test, user_test}
use Rattle.model.specs.State.WellFormed.{EntityOk, Links, UserOk, WellFormed}
use Rattle.model.specs.Tables.Layout.{Bounded}
use Rattle.model.specs.Tables.RowLaws.{packed_none}
use Rattle.model.specs.Tables.Words.{Tables, device, devices, entity_count, kind, kinds, places, present, used, used_places, user_count}

-- A record of zeros is in order.
pub zero_ok : EntityOk (λ f. 0)
zero_ok = record {
  absent = λ q f. refl;
  shape = search arith;
  filled = record { packed = packed_none; object_empty = λ q. refl; sums = λ q i l. omega arith; no_sums = λ q i. refl; rest_sums = λ i l. refl };
  access = (0, record { packed = packed_none; good = λ i l. absurd (not-suc-le-zero l) });
}

pub zero_user : UserOk (λ f. 0)
zero_user = search (arith, inl)

module _ (d : Tables) (o : Bounded d) where
  pub eights : (e : ℕ) → Eights (d.entity e)
  eights e = record { place8 = o.places_out e; shown8 = o.shown_out e; triple8 = o.triples_out e }

  zero_users : (u : ℕ) → (u ≡ 0) ⊎ (user_count < u) → UserOk (d.user u)
  zero_users u q = subst UserOk (fun_ext (λ f. sym (o.user_out u q f))) zero_user

  zero_entities : (e : ℕ) → (e ≡ 0) ⊎ (entity_count < e) → EntityOk (d.entity e)
  zero_entities e q = subst EntityOk (fun_ext (λ f. sym (o.entity_out e q f))) zero_ok

  -- Rule 3: the test says well-formed.
  pub well_formed_agrees : Agrees (well_formed_test d) (WellFormed d)
  unfolding well_formed_test
  well_formed_agrees = agrees_as {P = ((u : ℕ) → UserOk (d.user u)) × (((e : ℕ) → EntityOk (d.entity e)) × Links d)}
      (λ z. record { user_numbers = λ u p. number_u u p; entity_numbers = λ e p. number_e e p; users = z.0; entities = z.1.0; links = z.1.1 })
      (λ w. (w.users, (w.entities, w.links)))
      (agrees_and (agrees_range user_count (λ u. user_test (d.user u)) (λ u. UserOk (d.user u)) (λ u. user_agrees (d.user u) (o.spares_out u))
      (zero_users 0 (inl refl)) (λ u q. zero_users u (inr q)))
      (agrees_then (agrees_range entity_count (λ e. entity_test (d.entity e)) (λ e. EntityOk (d.entity e))
      (λ e. entity_agrees (d.entity e) (eights e)) (zero_entities 0 (inl refl)) (λ e q. zero_entities e (inr q)))
      (λ ok. links_agrees (kinds d) (used_places d) (places d) (devices d) (λ e q. (o.entity_out e q kind, o.entity_out e q used))
      (λ u q. o.user_out u q device) (λ e. (ok e).filled.packed.room))))
    where
      number_u : (u : ℕ) → d.user u present ≢ 0 → (1 ≤ u) × (u ≤ user_count)
      number_u u p =
          let a : u ≢ 0 = λ q. p (o.user_out u (inl q) present) in
          let b : ¬ (user_count < u) = λ q. p (o.user_out u (inr q) present) in
          (omega arith, omega arith)

      number_e : (e : ℕ) → kinds d e ≢ 0 → (1 ≤ e) × (e ≤ entity_count)
      number_e e p =
          let a : e ≢ 0 = λ q. p (o.entity_out e (inl q) kind) in
          let b : ¬ (entity_count < e) = λ q. p (o.entity_out e (inr q) kind) in
          (omega arith, omega arith)

-- Well-formed tables have nothing outside.
pub well_formed_bounded : (d : Tables) → WellFormed d → Bounded d
well_formed_bounded d w = record {
  user_out = λ u q f. (w.users u).absent (nobody u q) f;
  entity_out = λ e q f. (w.entities e).absent (nothing e q) f;
  places_out = λ e i h. (w.entities e).filled.packed.rest i (omega (arith, (w.entities e).filled.packed.room));
  shown_out = λ e i h. (w.entities e).filled.rest_sums i (omega (arith, (w.entities e).filled.packed.room));
  triples_out = λ e i h. (w.entities e).access.1.packed.rest i (omega (arith, (w.entities e).access.1.packed.room));
  spares_out = λ u i h. (w.users u).spare_zero i;
}
  where
    nobody : (u : ℕ) → (u ≡ 0) ⊎ (user_count < u) → d.user u present ≡ 0
    nobody u (inl q) = let h : ¬ (1 ≤ d.user u present) = λ z. omega (arith, w.user_numbers u (omega arith)) in omega arith
    nobody u (inr q) = let h : ¬ (1 ≤ d.user u present) = λ z. omega (arith, w.user_numbers u (omega arith)) in omega arith

    nothing : (e : ℕ) → (e ≡ 0) ⊎ (entity_count < e) → d.entity e kind ≡ 0
    nothing e (inl q) = let h : ¬ (1 ≤ d.entity e kind) = λ z. omega (arith, w.entity_numbers e (omega arith)) in omega arith
    nothing e (inr q) = let h : ¬ (1 ≤ d.entity e kind) = λ z. omega (arith, w.entity_numbers e (omega arith)) in omega arith

-- So who is on is on a device that has a number.
pub device_range : (d : Tables) → WellFormed d → (u : ℕ) → devices d u ≢ 0 → (1 ≤ devices d u) × (devices d u ≤ entity_count)
device_range d w u h = w.entity_numbers (devices d u) (λ z. omega (arith, w.links.device_is u h))
