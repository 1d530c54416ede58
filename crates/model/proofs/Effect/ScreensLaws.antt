-- Clearing a screen, login and logout keep tables well-formed and secure.
use Rattle.std.specs.Prelude.{Bool, false, true, ◌≢◌, ◌≡◌, refl, ◌<◌, ◌≤◌, ℕ, T, eqb}
use Rattle.std.proofs.Common.{not-suc-le-zero, arith}
use Rattle.model.specs.Basics.Choice.{pick}
use Rattle.model.specs.BitLaws.{subset_zero}
use Rattle.model.specs.Effect.Screens.{clear, clearing, departing, login, logout, off}
use Rattle.model.specs.Level.{AtMost, Subset, role_count}
use Rattle.model.specs.State.LinksLaws.{arrive, depart, shrink}
use Rattle.model.specs.State.Secure.{Secure, labelled}
use Rattle.model.specs.State.WellFormed.{EntityOk, Filled, Holds, UserOk, WellFormed}
use Rattle.model.specs.Tables.EditLaws.{case, each, member_emptied}
use Rattle.model.specs.Tables.Edits.{user_word, written}
use Rattle.model.specs.Tables.Kinds.{Screen, Terminal}
use Rattle.model.specs.Tables.RowLaws.{packed_none}
use Rattle.model.specs.Tables.Words.{Tables, authorised, clearance, current, device, devices, kinds, level, places, present, sums}
use Rattle.model.specs.Tables.Words.{used_places}

-- 11 clear
empty_filled : (k : ℕ) → Filled k 0 (λ i. 0) (λ i. 0)
empty_filled k = record { packed = packed_none; object_empty = λ q. refl; sums = λ q i l. omega arith; no_sums = λ q i. refl; rest_sums = λ i l. refl }

module _ (d : Tables) (w : WellFormed d) (v : ℕ) where
  clear_ok : 1 ≤ kinds d v → EntityOk (d.entity v) → EntityOk (written clearing (d.entity v))
  clear_ok h o = let f = empty_filled (kinds d v) in search arith

  emptied : (x c : ℕ) → Holds (clear v d) x c → Holds d x c
  emptied x c = member_emptied x v c (used_places d x) (places d x)

  none_more : (x : ℕ) → used_places (clear v d) x ≤ used_places d x
  none_more x = case (λ (y : ℕ). y ≤ used_places d x) x v 0 (used_places d x) (λ q. omega arith) (λ q. omega arith)

  pub clear_well_formed : 1 ≤ kinds d v → WellFormed (clear v d)
  clear_well_formed h = record {
    user_numbers = w.user_numbers;
    entity_numbers = w.entity_numbers;
    users = w.users;
    entities = each EntityOk clearing v d.entity w.entities (clear_ok h (w.entities v));
    links = shrink (kinds d) (used_places d) (places d) (devices d) w.links (used_places (clear v d)) (places (clear v d)) emptied none_more;
  }

  pub clear_secure : Secure d → Secure (clear v d)
  clear_secure o = record {
    contained = λ x c h. o.contained x c (emptied x c h);
    seen = λ u c on h. o.seen u c on (emptied (devices d u) c h);
    value_labelled = λ x i k l. shows x i k (eqb x v) l;
    roles = o.roles;
    ceiling = o.ceiling;
  }
    where
      shows : (x i : ℕ) → Screen (kinds d x) → (b : Bool) → i < pick b 0 (used_places d x) → T (labelled (pick b 0 (sums d x i)))
      shows x i k true l = absurd (not-suc-le-zero l)
      shows x i k false l = o.value_labelled x i k l

-- 12 login, 13 logout
module _ (d : Tables) (w : WellFormed d) (s : Secure d) (u v : ℕ) (p : d.user u present ≢ 0) where
  login_ok : 1 ≤ v → d.user u device ≡ 0 → UserOk (d.user u) → UserOk (written (user_word device v) (d.user u))
  login_ok h off o = search arith

  none_at_0 : kinds d 0 ≡ 0
  none_at_0 = let h : ¬ (1 ≤ kinds d 0) = λ z. omega (arith, w.entity_numbers 0 (omega arith)) in omega arith

  pub login_well_formed : d.user u device ≡ 0 → Terminal (kinds d v) → ((x : ℕ) → devices d x ≢ v) → WellFormed (login u v d)
  login_well_formed off h free = record {
    user_numbers = w.user_numbers;
    entity_numbers = w.entity_numbers;
    users = each UserOk (user_word device v) u d.user w.users (login_ok (w.entity_numbers v (omega arith)).0 off (w.users u));
    entities = w.entities;
    links = arrive (kinds d) (used_places d) (places d) (devices d) w.links u v none_at_0 off h free;
  }

  pub login_secure : Terminal (kinds d v) → ((x : ℕ) → devices d x ≢ v) → Secure (login u v d)
  login_secure h free = record {
    contained = s.contained;
    seen = λ x c. case (λ (y : ℕ). y ≢ 0 → Holds d y c → AtMost (d.entity c level) (d.user x clearance)) x u v (devices d x)
        (λ q z m. absurd (omega (arith, m.1, w.links.idle v h free))) (λ q z m. s.seen x c z m);
    value_labelled = s.value_labelled;
    roles = s.roles;
    ceiling = s.ceiling;
  }

module _ (d : Tables) (w : WellFormed d) (s : Secure d) (u : ℕ) (p : d.user u present ≢ 0) where
  off_ok : UserOk (d.user u) → UserOk (written departing (d.user u))
  off_ok o = search arith

  off_well_formed : used_places d (devices d u) ≡ 0 → WellFormed (off u d)
  off_well_formed none = record {
    user_numbers = w.user_numbers;
    entity_numbers = w.entity_numbers;
    users = each UserOk departing u d.user w.users (off_ok (w.users u));
    entities = w.entities;
    links = depart (kinds d) (used_places d) (places d) (devices d) w.links u none;
  }

  off_secure : Secure (off u d)
  off_secure = record {
    contained = s.contained;
    seen = λ x c. case (λ (y : ℕ). y ≢ 0 → Holds d y c → AtMost (d.entity c level) (d.user x clearance)) x u 0 (devices d x)
        (λ q z. absurd (z refl)) (λ q z m. s.seen x c z m);
    value_labelled = s.value_labelled;
    roles = λ x. case (λ (y : ℕ). Subset role_count y (d.user x authorised)) x u 0 (d.user x current)
        (λ q. subset_zero role_count (d.user x authorised)) (λ q. s.roles x);
    ceiling = s.ceiling;
  }

module _ (d : Tables) (w : WellFormed d) (s : Secure d) (u : ℕ) (p : d.user u present ≢ 0) (on : devices d u ≢ 0) where
  none_left : used_places (clear (devices d u) d) (devices d u) ≡ 0
  none_left = case (λ (y : ℕ). y ≡ 0) (devices d u) (devices d u) 0 (used_places d (devices d u)) (λ q. refl) (λ q. absurd (q refl))

  pub logout_well_formed : WellFormed (logout u d)
  logout_well_formed =
      off_well_formed (clear (devices d u) d) (clear_well_formed d w (devices d u) (omega (arith, w.links.device_is u on)))
      (clear_secure d w (devices d u) s) u p none_left

  pub logout_secure : Secure (logout u d)
  logout_secure =
      off_secure (clear (devices d u) d) (clear_well_formed d w (devices d u) (omega (arith, w.links.device_is u on))) (clear_secure d w (devices d u) s) u p
