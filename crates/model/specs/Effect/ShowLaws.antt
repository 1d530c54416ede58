-- Show keeps tables well-formed and secure.
use Rattle.std.specs.Prelude.{Bool, false, true, ◌≢◌, ◌⊎◌, ◌≡◌, ◌<◌, ◌≤◌, suc, ℕ, T, ltb}
use Rattle.std.proofs.Common.{inl, inr, ◌∙◌, ap, subst, sym, arith}
use Rattle.model.specs.Basics.Choice.{Below, below, over, pick, under}
use Rattle.model.specs.Effect.PutLaws.{Takes, put_secure, put_well_formed}
use Rattle.model.specs.Effect.Screens.{show, placing, spot}
use Rattle.model.specs.Level.{AtMost}
use Rattle.model.specs.State.LinksLaws.{device_apart, shrink}
use Rattle.model.specs.State.Secure.{Good, Secure, labelled}
use Rattle.model.specs.State.WellFormed.{EntityOk, Filled, Holds, Thing, WellFormed}
use Rattle.model.specs.Tables.EditLaws.{case, each, member_cases}
use Rattle.model.specs.Tables.Edits.{on_entity, written}
use Rattle.model.specs.Tables.Kinds.{Screen}
use Rattle.model.specs.Tables.RowLaws.{replace_same, sought}
use Rattle.model.specs.Tables.Rows.{Member, Sought, replace}
use Rattle.model.specs.Tables.Words.{Tables, clearance, devices, kinds, level, place_count, places, sum_most, sums, used_places}

-- the entity is there already: only its sum changes
again_filled : (n i s : ℕ) (at sum : ℕ → ℕ) (k : ℕ) → Screen k → i < n → (1 ≤ s) × (s ≤ sum_most) → Filled k n at sum
    → Filled k n at (replace i s sum)
again_filled n i s at sum k h l hs f = record {
  packed = f.packed;
  object_empty = f.object_empty;
  sums = λ q j lj. case (λ (y : ℕ). (1 ≤ y) × (y ≤ sum_most)) j i s (sum j) (λ z. hs) (λ z. f.sums q j lj);
  no_sums = λ q. absurd (q h);
  rest_sums = λ j lj. case (λ (y : ℕ). y ≡ 0) j i s (sum j) (λ z. absurd (omega arith)) (λ z. f.rest_sums j lj);
}

module _ (d : Tables) (w : WellFormed d) (s : Secure d) (u v e a : ℕ) (on : devices d u ≡ v) (screen : Screen (kinds d v)) (thing : Thing d e)
    (sum : (1 ≤ a) × (a ≤ sum_most))
    (label : T (labelled a)) (low : AtMost (d.entity e level) (d.entity v level)) (clear : AtMost (d.entity e level) (d.user u clearance)) where
  -- already there, at k
  module _ (k : ℕ) (l : k < used_places d v) (at-k : places d v k ≡ e) where
    abbrev again : Tables
    again = on_entity v (placing v e a d k (used_places d v)) d

    again_ok : EntityOk (d.entity v) → EntityOk (written (placing v e a d k (used_places d v)) (d.entity v))
    again_ok o =
        let f : Filled (kinds d v) (used_places d v) (replace k e (places d v)) (replace k a (sums d v))
        = rw (replace_same (places d v) k e at-k) (again_filled (used_places d v) k a (places d v) (sums d v) (kinds d v) screen l sum o.filled) in
        search arith

    no_more : (x c : ℕ) → Holds again x c → Holds d x c
    no_more x c h = go (member_cases x v c (used_places d v) (used_places d x) (replace k e (places d v)) (places d x) h)
      where
        go : ((x ≡ v) × Member (replace k e (places d v)) (used_places d v) c) ⊎ ((x ≢ v) × Holds d x c) → Holds d x c
        go (inl q) =
            subst (λ (y : ℕ). Holds d y c) (sym q.0) (subst (λ (r : ℕ → ℕ). Member r (used_places d v) c) (replace_same (places d v) k e at-k) q.1)
        go (inr q) = q.1

    same_number : (x : ℕ) → used_places again x ≤ used_places d x
    same_number x = case (λ (y : ℕ). y ≤ used_places d x) x v (used_places d v) (used_places d x) (λ q. omega (arith, ap (used_places d) q)) (λ q. omega arith)

    again_well_formed : WellFormed again
    again_well_formed =
        let n = each EntityOk (placing v e a d k (used_places d v)) v d.entity w.entities (again_ok (w.entities v)) in
        let j = shrink (kinds d) (used_places d) (places d) (devices d) w.links (used_places again) (places again) no_more same_number in
        search

    again_secure : Secure again
    again_secure = record {
      contained = λ x c h. s.contained x c (no_more x c h);
      seen = λ x c o h. s.seen x c o (no_more (devices d x) c h);
      value_labelled = λ x j h m. case (λ (y : ℕ). T (labelled y)) x v (replace k a (sums d v) j) (sums d x j)
          (λ q. case (λ (y : ℕ). T (labelled y)) j k a (sums d v j) (λ z. label)
          (λ z. subst (λ (y : ℕ). T (labelled (sums d y j))) q (s.value_labelled x j h (omega (arith, same_number x)))))
          (λ q. s.value_labelled x j h (omega (arith, same_number x)));
      roles = s.roles;
      ceiling = s.ceiling;
    }

  takes_shown : used_places d v < place_count → ((i : ℕ) → i < used_places d v → places d v i ≢ e) → Takes d v e a
  takes_shown room new = record {
    thing = thing;
    holder = omega arith;
    room = room;
    new = new;
    free = λ q. absurd (omega arith);
    apart = device_apart (kinds d) (used_places d) (places d) (devices d) w.links v e screen thing.1;
    on_it = λ q. (u, on);
    sum_on = λ q. sum;
    sum_off = λ q. absurd (q screen);
  }

  -- whoever is on the device is the requester
  cleared_for : (x : ℕ) → devices d x ≡ v → AtMost (d.entity e level) (d.user x clearance)
  cleared_for x q =
      let n = w.entity_numbers v (omega arith) in
      rw (w.links.one_user x u (omega arith) (q ∙ sym on)) clear

  pub show_good : (used_places d v ≤ spot v e d → used_places d v < place_count) → Good (show v e a d)
  show_good room = go (ltb (spot v e d) (used_places d v)) (below (spot v e d) (used_places d v)) (sought e (places d v) (used_places d v))
    where
      go : (b : Bool) → Below (spot v e d) (used_places d v) b → Sought e (places d v) (used_places d v) (spot v e d)
          → Good (on_entity v (placing v e a d (spot v e d) (pick b (used_places d v) (suc (used_places d v)))) d)
      go true (under h) (inl z) = (again_well_formed (spot v e d) z.0 z.1, again_secure (spot v e d) z.0 z.1)
      go true (under h) (inr z) = absurd (omega (arith, z.0))
      go false (over h) (inl z) = absurd (omega (arith, z.0))
      go false (over h) (inr z) =
          let t = takes_shown (room h) z.1 in
          subst (λ (k : ℕ). Good (on_entity v (placing v e a d k (suc (used_places d v))) d)) (sym z.0)
          (put_well_formed d w v e a t, put_secure d w v e a t s low cleared_for (λ q. label))
