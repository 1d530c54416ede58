-- A screen that shows an entity is found through its user, since what nobody is on shows nothing.
use Rattle.std.specs.Prelude.{Bool, false, true, ◌≢◌, ◌≡◌, refl, ◌+◌, ◌<◌, ◌≤◌, suc, ℕ, eqb, ltb}
use Rattle.std.proofs.Math.Bool.{not}
use Rattle.std.proofs.Common.{inl, inr, ◌∙◌, subst, sym, arith}
use Rattle.std.proofs.Math.Path.{ap}
use borrow.Author.Tests.{eq-eqb, ne_eqb}
use Rattle.laws.specs.Bools.{agreed}
use Rattle.laws.specs.Loops.{each_fails, each_more, every_done}
use Rattle.model.specs.Basics.Agree.{Agrees, agrees_and, agrees_as, agrees_eq, agrees_imp, agrees_not, agrees_range}
use Rattle.model.specs.Basics.Tests.{every, imp}
use Rattle.model.specs.Request.Conditions.{on_screen}
use Rattle.model.specs.State.AgreeLinks.{member_agrees}
use Rattle.model.specs.State.ParentLaws.{entity_out_lem, user_out_lem}
use Rattle.model.specs.State.WellFormed.{Holds, WellFormed}
use Rattle.model.specs.Tables.Rows.{seek}
use Rattle.model.specs.Tables.Words.{Tables, device_kind, devices, entity_count, kinds, place_count, places, user_count, used_places}
use Rattle.rows.specs.SweepLaws.{sweep_used}
use Rattle.standing.specs.Standing.{seeing}

-- what it is to see e
pub seeing_agrees : (d : Tables) (e u : ℕ) → Agrees (seeing d e u) ((devices d u ≢ 0) × Holds d (devices d u) e)
unfolding seeing
seeing_agrees d e u = agrees_and (agrees_not (agrees_eq (devices d u) 0)) (member_agrees (places d (devices d u)) (used_places d (devices d u)) e)

module _ (d : Tables) (w : WellFormed d) where
  -- ---- one user, who is on v

  module _ (u v : ℕ) (ve : v ≡ devices d u) where
    -- the device of somebody who is on has a number
    pub device_in : v ≢ 0 → (1 ≤ v) × (v ≤ entity_count)
    device_in n = w.entity_numbers v (λ z. omega (arith, z, ap (kinds d) ve, w.links.device_is u (λ q. n (ve ∙ q))))

    module _ (e : ℕ) where
      -- who is off sees nothing
      pub sees_nothing : v ≡ 0 → false ≡ seeing d e u
      unfolding seeing
      sees_nothing z = rw (← ve, eq-eqb v 0 z)

      -- who is on sees what the device shows; e is not 0, and what is not used is
      pub sees_shown : v ≢ 0 → 1 ≤ e → (b : Bool) → b ≡ ltb (seek e (places d v) place_count) place_count → b ≡ seeing d e u
      unfolding seeing
      sees_shown n p b be =
          let f = (w.entities v).filled.packed in
          be ∙ sweep_used e (places d v) (used_places d v) place_count p f.room f.rest ∙ rw (← ve, ne_eqb v 0 n)

  -- ---- all users

  module _ (e : ℕ) where
    -- no device shows it
    hidden : Agrees (every entity_count (λ v. imp (eqb (kinds d (suc v)) device_kind)
        (not (ltb (seek e (places d (suc v)) (used_places d (suc v))) (used_places d (suc v)))))) ((v : ℕ) → kinds d v ≡ device_kind → Holds d v e → ⊥)
    hidden = agrees_range entity_count _ (λ v. kinds d v ≡ device_kind → Holds d v e → ⊥)
        (λ v. agrees_imp (agrees_eq (kinds d v) device_kind) (agrees_not (member_agrees (places d v) (used_places d v) e)))
        (λ k m. omega (arith, k, (entity_out_lem d w 0 (inl refl)).0)) (λ v h k m. omega (arith, k, (entity_out_lem d w v (inr h)).0))

    -- nobody sees it
    unseen : Agrees (every user_count (λ u. not (seeing d e (suc u)))) ((u : ℕ) → devices d u ≢ 0 → Holds d (devices d u) e → ⊥)
    unseen = agrees_range user_count (λ u. not (seeing d e u)) (λ u. devices d u ≢ 0 → Holds d (devices d u) e → ⊥)
        (λ u. agrees_as (λ f n m. f (n, m)) (λ f z. f z.0 z.1) (agrees_not (seeing_agrees d e u)))
        (λ n m. n (user_out_lem d w 0 (inl refl))) (λ u h n m. n (user_out_lem d w u (inr h)))

    -- the two say the same
    screens_seen : on_screen d e ≡ not (every user_count (λ u. not (seeing d e (suc u))))
    unfolding on_screen
    screens_seen = ap not (agreed _ _ hidden (agrees_as shown_of seen_of unseen))
      where
        seen_of : ((v : ℕ) → kinds d v ≡ device_kind → Holds d v e → ⊥) → (u : ℕ) → devices d u ≢ 0 → Holds d (devices d u) e → ⊥
        seen_of f u n = f (devices d u) (w.links.device_is u n)

        shown_of : ((u : ℕ) → devices d u ≢ 0 → Holds d (devices d u) e → ⊥) → (v : ℕ) → kinds d v ≡ device_kind → Holds d v e → ⊥
        shown_of f v k m = omega (
          arith,
          m.1,
          w.links.idle v k (λ u q. f u (λ z. omega (arith, k, (entity_out_lem d w v (inl (sym q ∙ z))).0))
              (subst (λ (x : ℕ). Holds d x e) (sym q) m)),
        )

    -- the loop: the next user does not see it, or does, or none was left
    pub unseen_more : (i : ℕ) → every i (λ u. not (seeing d e (suc u))) ≡ true → seeing d e (i + 1) ≡ false
        → every (i + 1) (λ u. not (seeing d e (suc u))) ≡ true
    unseen_more i h z = each_more i (λ u. not (seeing d e u)) h (ap not z)

    pub seen_here : (i : ℕ) → i < user_count → seeing d e (i + 1) ≡ true → true ≡ on_screen d e
    seen_here i h z = ap not (each_fails user_count (λ u. not (seeing d e u)) i h (ap not z)) ∙ sym screens_seen

    pub seen_nowhere : (i : ℕ) → i ≤ user_count → user_count ≤ i → every i (λ u. not (seeing d e (suc u))) ≡ true → false ≡ on_screen d e
    seen_nowhere i l m h = ap not (every_done i user_count (λ u. not (seeing d e (suc u))) h l m) ∙ sym screens_seen
