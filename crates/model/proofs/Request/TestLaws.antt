-- What the tests of rungs 8 and 9 and of refusals 12 and 15 say: a role, permitted, open, on no screen, not inside, a free device.
use Rattle.std.specs.Prelude.{Bool, ◌&&◌, false, not, true, ◌≢◌, ◌⊎◌, ◌≡◌, refl, ◌<◌, ◌≤◌, suc, ℕ, T, eqb, ltb}
use mathlib.Core.List.Memᴰ
use mathlib.Core.List.{List, Memᴰ, [], ◌∷◌}
use Rattle.std.proofs.Common.{inl, inr, subst, sym, arith}
use Rattle.model.specs.Basics.Agree.{Agrees, agrees_T, agrees_and, agrees_as, agrees_eq, agrees_imp, agrees_not, agrees_or}
use Rattle.model.specs.Basics.Agree.{agrees_range, agrees_some, agrees_twice}
use Rattle.model.specs.Basics.TestLaws.{is_true}
use Rattle.model.specs.Basics.Tests.{every, imp}
use Rattle.model.specs.Level.{AtMost, at_most, bit, role_count}
use Rattle.model.specs.Request.Allowed.{Open, Permitted}
use Rattle.model.specs.Request.Asked.{HasRole, has_role}
use Rattle.model.specs.Request.Conditions.{on_screen}
use Rattle.model.specs.Request.Ladder.{bars, permits}
use Rattle.model.specs.State.Agree.{well_formed_bounded}
use Rattle.model.specs.State.AgreeLinks.{member_agrees}
use Rattle.model.specs.State.Check.{parent}
use Rattle.model.specs.State.Climb.{climb}
use Rattle.model.specs.State.ClimbLaws.{climb_complete, climb_sound, complete}
use Rattle.model.specs.State.Depth.{Within}
use Rattle.model.specs.State.ParentLaws.{parent_held, parent_none, parent_range}
use Rattle.model.specs.State.WellFormed.{Holds, InTables, WellFormed}
use Rattle.model.specs.Tables.KindLaws.{screen_kind_agrees}
use Rattle.model.specs.Tables.Kinds.{Screen, screen}
use Rattle.model.specs.Tables.Layout.{Bounded}
use Rattle.model.specs.Tables.Rows.{Member, seek}
use Rattle.model.specs.Tables.Words.{Tables, clearance, current, device, devices, entity_count, kind, kinds, level, mark, place_count}
use Rattle.model.specs.Tables.Words.{places, triple_of, triples, used_places, user_count, who_role}

-- Rule 5.6: the test is of current roles.
pub role_agrees : (d : Tables) (u r : ℕ) → Agrees (has_role d u r) (HasRole d u r)
unfolding has_role
role_agrees d u r = agrees_T (bit r (d.user u current))

-- Rule 7.8.
pub permits_agrees : (d : Tables) (u o k e : ℕ) → Agrees (permits d u o k e) (Permitted d u o k e)
unfolding permits
permits_agrees d u o k e = agrees_or (member_agrees (triples d e) place_count (triple_of u o k))
    (agrees_as {P = (r : ℕ) × (r < role_count) × (HasRole d u r × Member (triples d e) place_count (triple_of (who_role r) o k))}
    (λ z. (z.0, z.1, z.2.0, z.2.1)) (λ z. (z.0, z.1, (z.2, z.3)))
    (agrees_some role_count (λ r. has_role d u r && ltb (seek (triple_of (who_role r) o k) (triples d e) place_count) place_count)
    (λ r. HasRole d u r × Member (triples d e) place_count (triple_of (who_role r) o k))
    (λ r. agrees_and (role_agrees d u r) (member_agrees (triples d e) place_count (triple_of (who_role r) o k)))))

-- one more entity on the way
open_first : (d : Tables) (u e : ℕ) (es : List ℕ) → (d.entity e mark ≢ 0 → AtMost (d.entity e level) (d.user u clearance)) → Open d u es
    → Open d u (e ∷ es)
open_first d u e es f g z m n = first (Memᴰ.cases_cons m)
  where
    first : (z ≡ e) ⊎ Memᴰ z es → AtMost (d.entity z level) (d.user u clearance)
    first (inl q) = subst (λ (v : ℕ). AtMost (d.entity v level) (d.user u clearance)) (sym q) (f (subst (λ (v : ℕ). d.entity v mark ≢ 0) q n))
    first (inr k) = g z k n

-- Rule 7.9.
pub open_agrees : (d : Tables) (u : ℕ) (w : List ℕ) → Agrees (not (bars d (d.user u clearance) w)) (Open d u w)
unfolding bars
open_agrees d u [] = record { to = λ t y m. absurd (Memᴰ.not-nil m); from = λ f. tt }
open_agrees d u (e ∷ es) =
    go (eqb (d.entity e mark) 0) (at_most (d.entity e level) (d.user u clearance)) (agrees_eq (d.entity e mark) 0) refl (open_agrees d u es)
  where
    go : (a b : Bool) → Agrees a (d.entity e mark ≡ 0) → at_most (d.entity e level) (d.user u clearance) ≡ b
        → Agrees (not (bars d (d.user u clearance) es)) (Open d u es)
        → Agrees (not (elim (not a && not b) [ true ↦ true | false ↦ bars d (d.user u clearance) es ])) (Open d u (e ∷ es))
    go true b x y ih =
        record { to = λ t. open_first d u e es (λ n. absurd (n (x.to tt))) (ih.to t); from = λ f. ih.from (λ z m. f z (Memᴰ.tail m)) }
    go false true x y ih =
        record { to = λ t. open_first d u e es (λ n. is_true _ y) (ih.to t); from = λ f. ih.from (λ z m. f z (Memᴰ.tail m)) }
    go false false x y ih = record { to = λ t. absurd t; from = λ f. subst T y (f e (Memᴰ.head refl) (λ q. absurd (x.from q))) }

module _ (d : Tables) (w : WellFormed d) where
  bound : Bounded d
  bound = well_formed_bounded d w

  -- Rule 6.2: e stands on no screen.
  pub screen_agrees : (e : ℕ) → Agrees (not (on_screen d e)) ((x : ℕ) → Screen (kinds d x) → Holds d x e → ⊥)
  unfolding on_screen
  screen_agrees e =
      agrees_twice (agrees_range entity_count (λ v. imp (screen (kinds d v)) (not (ltb (seek e (places d v) (used_places d v)) (used_places d v))))
      (λ x. Screen (kinds d x) → Holds d x e → ⊥)
      (λ v. agrees_imp (screen_kind_agrees (kinds d v)) (agrees_not (member_agrees (places d v) (used_places d v) e)))
      (λ k. absurd (omega (arith, bound.entity_out 0 (inl refl) kind))) (λ x r k. absurd (omega (arith, bound.entity_out x (inr r) kind))))

  -- Rule 6.12: nobody is on the device v.
  pub nobody_agrees : (v : ℕ) → 1 ≤ v → Agrees (every user_count (λ u. not (eqb (devices d (suc u)) v))) ((x : ℕ) → devices d x ≢ v)
  nobody_agrees v h = agrees_range user_count (λ u. not (eqb (devices d u) v)) (λ u. devices d u ≢ v) (λ u. agrees_not (agrees_eq (devices d u) v))
      (λ r. omega (arith, bound.user_out 0 (inl refl) device)) (λ u z r. omega (arith, bound.user_out u (inr z) device))

  -- Rule 6.3: the container is the entity, or inside it at any depth.
  pub inside_agrees : (c e : ℕ) → Agrees (climb (parent (kinds d) (used_places d) (places d)) (suc entity_count) c e) (Within (InTables d) c e)
  inside_agrees c e = record {
    to = climb_sound entity_count (InTables d) par (parent_none d w) (parent_held d w) one (parent_range d w) (suc entity_count) c e;
    from = climb_complete entity_count (InTables d) par (parent_none d w) (parent_held d w) one (parent_range d w) (suc entity_count) c e
        (complete entity_count (InTables d) par (parent_none d w) (parent_held d w) one (parent_range d w) w.links.no_loop c);
  }
    where
      par : ℕ → ℕ
      par = parent (kinds d) (used_places d) (places d)

      one : (a x y : ℕ) → InTables d x a → InTables d y a → x ≡ y
      one = w.links.one_container
