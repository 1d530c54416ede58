-- What each change of the columns (kinds, used places, places, the users' devices) asks, so that the records still fit together.
use Rattle.std.specs.Prelude.{Bool, false, true, ◌≢◌, ◌⊎◌, ◌≡◌, refl, ◌≤◌, suc, ℕ, eqb}
use Rattle.std.proofs.Common.{inl, inr, ◌∙◌, ap, subst, sym, arith}
use Rattle.model.specs.Basics.Choice.{Same, it, other, pick, same}
use Rattle.model.specs.State.Depth.{Within}
use Rattle.model.specs.State.DepthLaws.{OneMore, fewer, held_by, no_loop_lem}
use Rattle.model.specs.State.WellFormed.{In, Linked}
use Rattle.model.specs.Tables.EditLaws.{case, member_cases, member_emptied}
use Rattle.model.specs.Tables.Kinds.{Screen, Terminal}
use Rattle.model.specs.Tables.RowLaws.{append_member}
use Rattle.model.specs.Tables.Rows.{Member, replace}
use Rattle.model.specs.Tables.Words.{container_kind, object_kind}

abbrev pub at_record : {A : Type 0} → ℕ → A → (ℕ → A) → ℕ → A
at_record e v f x = pick (eqb x e) v (f x)

module _ (k n : ℕ → ℕ) (at : ℕ → ℕ → ℕ) (dev : ℕ → ℕ) (l : Linked k n at dev) where
  -- every row keeps some of its places
  pub shrink : (m : ℕ → ℕ) (to : ℕ → ℕ → ℕ) → ((x c : ℕ) → Member (to x) (m x) c → Member (at x) (n x) c) → ((x : ℕ) → m x ≤ n x) → Linked k m to dev
  shrink m to f le = record {
    contents = λ e c h. l.contents e c (f e c h);
    one_container = λ c a b p q. l.one_container c a b (p.0, f a c p.1) (q.0, f b c q.1);
    no_loop = λ e p. l.no_loop e (fewer (λ b a q. (q.0, f b a q.1)) p);
    device_is = l.device_is;
    one_user = l.one_user;
    idle = λ e h u. omega (arith, le e, l.idle e h u);
  }

  -- e is put last in c
  module _ (c e : ℕ) where
    abbrev pub used+ : ℕ → ℕ
    used+ x = pick (eqb x c) (suc (n c)) (n x)

    abbrev pub place+ : ℕ → ℕ → ℕ
    place+ x i = pick (eqb x c) (replace (n c) e (at c) i) (at x i)

    pub grown : (x a : ℕ) → Member (place+ x) (used+ x) a → Member (at x) (n x) a ⊎ ((x ≡ c) × (a ≡ e))
    grown x a h = go (member_cases x c a (suc (n c)) (n x) (replace (n c) e (at c)) (at x) h)
      where
        go : ((x ≡ c) × Member (replace (n c) e (at c)) (suc (n c)) a) ⊎ ((x ≢ c) × Member (at x) (n x) a)
            → Member (at x) (n x) a ⊎ ((x ≡ c) × (a ≡ e))
        go (inr q) = inl q.1
        go (inl q) = last (append_member (at c) (n c) e a q.1)
          where
            last : Member (at c) (n c) a ⊎ (a ≡ e) → Member (at x) (n x) a ⊎ ((x ≡ c) × (a ≡ e))
            last (inl m) = inl (subst (λ (y : ℕ). Member (at y) (n y) a) (sym q.0) m)
            last (inr z) = inr (q.0, z)

    one_more : OneMore (In k n at) (In k used+ place+) c e
    one_more b a p = go (grown b a p.1)
      where
        go : Member (at b) (n b) a ⊎ ((b ≡ c) × (a ≡ e)) → In k n at b a ⊎ ((b ≡ c) × (a ≡ e))
        go (inl m) = inl (p.0, m)
        go (inr q) = inr q

    pub attach : (object_kind ≤ k e) × (k e ≤ container_kind) → (k c ≡ container_kind → (b : ℕ) → In k n at b e → ⊥) → (Within (In k n at) c e → ⊥)
        → (Terminal (k c) → (u : ℕ) × (dev u ≡ c)) → Linked k used+ place+ dev
    attach thing free apart on = record {
      contents = λ x a h. whole x a (grown x a h);
      one_container = λ a x y p q. alone a x y p q (one_more x a p) (one_more y a q);
      no_loop = no_loop_lem (In k n at) (In k used+ place+) c e one_more l.no_loop apart;
      device_is = l.device_is;
      one_user = l.one_user;
      idle = λ x h z. case (λ (y : ℕ). y ≡ 0) x c (suc (n c)) (n x) (λ q. let o = on (subst (λ (y : ℕ). Terminal (k y)) q h) in absurd
          (z o.0 (o.1 ∙ sym q))) (λ q. l.idle x h z);
    }
      where
        whole : (x a : ℕ) → Member (at x) (n x) a ⊎ ((x ≡ c) × (a ≡ e)) → (object_kind ≤ k a) × (k a ≤ container_kind)
        whole x a (inl m) = l.contents x a m
        whole x a (inr q) = rw q.1 thing

        alone : (a x y : ℕ) → In k used+ place+ x a → In k used+ place+ y a → In k n at x a ⊎ ((x ≡ c) × (a ≡ e))
            → In k n at y a ⊎ ((y ≡ c) × (a ≡ e)) → x ≡ y
        alone a x y p' q' (inl p) (inl q) = l.one_container a x y p q
        alone a x y p' q' (inl p) (inr q) = absurd (free (ap k (sym q.0) ∙ q'.0) x (rw q.1 at p))
        alone a x y p' q' (inr p) (inl q) = absurd (free (ap k (sym p.0) ∙ p'.0) y (rw p.1 at q))
        alone a x y p' q' (inr p) (inr q) = p.0 ∙ sym q.0

  -- a screen is in nothing
  pub device_apart : (c e : ℕ) → Screen (k c) → (k e ≤ container_kind) → Within (In k n at) c e → ⊥
  device_apart c e h he (inl q) = omega (arith, ap k q)
  device_apart c e h he (inr p) = let x = held_by p in omega (arith, l.contents x.0 c x.1.1)

  -- a number that was absent gets a kind, with nothing in it
  module _ (e s : ℕ) (gone : k e ≡ 0) (none : n e ≡ 0) (thing : (object_kind ≤ s) × (s ≤ container_kind)) where
    empty_in : (b c : ℕ) → In (at_record e s k) n at b c → In k n at b c
    empty_in b c p = (
      case (λ (y : ℕ). y ≡ container_kind → k b ≡ container_kind) b e s (k b)
          (λ q z. absurd (omega (arith, p.1.1, subst (λ (y : ℕ). n y ≡ 0) (sym q) none))) (λ q z. z) p.0,
      p.1,
    )

    pub appear : Linked (at_record e s k) n at dev
    appear = record {
      contents = λ x c h. case (λ (y : ℕ). (object_kind ≤ y) × (y ≤ container_kind)) c e s (k c) (λ q. thing) (λ q. l.contents x c h);
      one_container = λ c a b p q. l.one_container c a b (empty_in a c p) (empty_in b c q);
      no_loop = λ x p. l.no_loop x (fewer empty_in p);
      device_is = λ u h. case Terminal (dev u) e s (k (dev u)) (λ q. absurd (omega (arith, l.device_is u h, ap k q))) (λ q. l.device_is u h);
      one_user = l.one_user;
      idle = λ x h. l.idle x (case (λ (y : ℕ). Terminal y → Terminal (k x)) x e s (k x) (λ q z. absurd (omega arith)) (λ q z. z) h);
    }

  -- a record with nothing in it, that stands nowhere and is no device, is zeroed
  module _ (e : ℕ) (nowhere : (b : ℕ) → Member (at b) (n b) e → ⊥) (thing : k e ≤ container_kind) where
    abbrev pub kind_ : ℕ → ℕ
    kind_ x = pick (eqb x e) 0 (k x)

    abbrev pub used_ : ℕ → ℕ
    used_ x = pick (eqb x e) 0 (n x)

    abbrev pub place_ : ℕ → ℕ → ℕ
    place_ x i = pick (eqb x e) 0 (at x i)

    pub still : (x c : ℕ) → Member (place_ x) (used_ x) c → Member (at x) (n x) c
    still x c = member_emptied x e c (n x) (at x)

    still_in : (b c : ℕ) → In kind_ used_ place_ b c → In k n at b c
    still_in b c p =
        (case (λ (y : ℕ). y ≡ container_kind → k b ≡ container_kind) b e 0 (k b) (λ q z. absurd (omega arith)) (λ q z. z) p.0, still b c p.1)

    pub vanish : Linked kind_ used_ place_ dev
    vanish = record {
      contents =
          λ x c h. case (λ (y : ℕ). (object_kind ≤ y) × (y ≤ container_kind)) c e 0 (k c)
          (λ q. absurd (nowhere x (subst (Member (at x) (n x)) q (still x c h))))
          (λ q. l.contents x c (still x c h));
      one_container = λ c a b p q. l.one_container c a b (still_in a c p) (still_in b c q);
      no_loop = λ x p. l.no_loop x (fewer still_in p);
      device_is = λ u h. case Terminal (dev u) e 0 (k (dev u)) (λ q. absurd (omega (arith, l.device_is u h, ap k q))) (λ q. l.device_is u h);
      one_user = l.one_user;
      idle = λ x h z. case (λ (y : ℕ). y ≡ 0) x e 0 (n x) (λ q. refl) (λ q. l.idle x
          (case (λ (y : ℕ). Terminal y → Terminal (k x)) x e 0 (k x) (λ q z. absurd (omega arith)) (λ q z. z) h) z);
    }

  -- a user who was off goes on to a free device
  pub arrive : (u e : ℕ) → k 0 ≡ 0 → dev u ≡ 0 → Terminal (k e) → ((v : ℕ) → dev v ≢ e) → Linked k n at (at_record u e dev)
  arrive u e nil gone h free = record {
    contents = l.contents;
    one_container = l.one_container;
    no_loop = l.no_loop;
    device_is = λ v. case (λ (y : ℕ). y ≢ 0 → Terminal (k y)) v u e (dev v) (λ q z. h) (λ q z. l.device_is v z);
    one_user = λ v x. case (λ (y : ℕ). y ≢ 0 → y ≡ at_record u e dev x → v ≡ x) v u e (dev v)
        (λ q z. case (λ (y : ℕ). e ≡ y → v ≡ x) x u e (dev x) (λ r w. q ∙ sym r) (λ r w. absurd (free x (sym w))))
        (λ q z. case (λ (y : ℕ). dev v ≡ y → v ≡ x) x u e (dev x) (λ r w. absurd (free v w)) (λ r w. l.one_user v x z w));
    idle = λ x hx z. l.idle x hx (λ v q. z v (case (λ (y : ℕ). y ≡ x) v u e (dev v) (λ r. absurd (omega (arith, ap k (sym q ∙ ap dev r ∙ gone)))) (λ r. q)));
  }

  -- a user leaves a device that shows nothing
  pub depart : (u : ℕ) → n (dev u) ≡ 0 → Linked k n at (at_record u 0 dev)
  depart u empty = record {
    contents = l.contents;
    one_container = l.one_container;
    no_loop = l.no_loop;
    device_is = λ v. case (λ (y : ℕ). y ≢ 0 → Terminal (k y)) v u 0 (dev v) (λ q z. absurd (z refl)) (λ q z. l.device_is v z);
    one_user = λ v x. case (λ (y : ℕ). y ≢ 0 → y ≡ at_record u 0 dev x → v ≡ x) v u 0 (dev v)
        (λ q z. absurd (z refl))
        (λ q z. case (λ (y : ℕ). dev v ≡ y → v ≡ x) x u 0 (dev x) (λ r w. absurd (z w)) (λ r w. l.one_user v x z w));
    idle = λ x hx z. last x hx z (eqb x (dev u)) (same x (dev u));
  }
    where
      last : (x : ℕ) → Terminal (k x) → ((v : ℕ) → at_record u 0 dev v ≢ x) → (b : Bool) → Same x (dev u) b → n x ≡ 0
      last x hx z true (it q) = ap n q ∙ empty
      last x hx z false (other q) = l.idle x hx (λ v w. z v (case (λ (y : ℕ). y ≡ x) v u 0 (dev v) (λ r. absurd (q (sym w ∙ ap dev r))) (λ r. w)))
