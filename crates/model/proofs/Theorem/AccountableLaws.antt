-- A level that is lost over any steps drops by one of them, and one only, which was accepted and asked for the level of this very entity, by who may let it
-- drop.
use Rattle.std.specs.Prelude.{Bool, false, true, List, ◌⊎◌, ◌≡◌, refl, eqb}
use Rattle.std.proofs.Common.{inl, inr, ◌∙◌, ap, subst, sym, eq-or-lt_of_le, arith, T_not}
use Prim.Native.Nat.{◌<◌, ◌≤◌, suc, zero, ℕ}
use Rattle.model.specs.Basics.Cases.{cases, lt_or_le}
use Rattle.model.specs.Basics.Choice.{Same, it, other, pick, same}
use Rattle.model.specs.Basics.TestLaws.{is_false, is_true}
use Rattle.model.specs.Effect.Places.{leave, vacant}
use Rattle.model.proofs.Effect.PlacesLaws.{vacant_absent}
use Rattle.model.specs.Level.{AtMost, Drops, at_most, downgrader}
use Rattle.model.proofs.LevelLaws.{at_most_ordered, drops_differs, drops_further}
use Rattle.model.specs.Request.After.{after, effect}
use Rattle.model.proofs.Request.AfterLaws.{after_each, effect_by}
use Rattle.model.specs.Request.Allowed.{Accepted}
use Rattle.model.specs.Request.Asked.{HasRole, asked}
use Rattle.model.specs.Request.Conditions.{level_of}
use Rattle.model.specs.Request.Ladder.{answer}
use Rattle.model.proofs.Request.OperationLaws.{names_found}
use Rattle.model.specs.Request.Operations.{Op, row_of, to_acknowledge, to_authorised, to_clear, to_clearance, to_copy, to_create, to_current}
use Rattle.model.specs.Request.Operations.{to_delete, to_device_level, to_edit, to_grant, to_level, to_login, to_logout, to_mark, to_maximum}
use Rattle.model.specs.Request.Operations.{to_move, to_release, to_revoke, to_show}
use Rattle.model.specs.Request.Step.{after_of, answer_of, sized}
use Rattle.model.specs.Request.Words.{Request, request_of}
use Rattle.model.specs.State.WellFormed.{Thing}
use Rattle.model.specs.Tables.Kinds.{Screen}
use Rattle.model.specs.Tables.Layout.{Bounded, tables_of}
use Rattle.model.specs.Tables.LayoutLaws.{bounded}
use Rattle.model.specs.Tables.Words.{Tables, devices, kinds}
use Rattle.model.proofs.Theorem.Acceptance.{accepted, accepted_good}
use Rattle.model.specs.Theorem.Accountable.{Accountable, Accounted, MayDrop}
use Rattle.model.specs.Theorem.Definitions.{Both, History}
use Rattle.model.proofs.Theorem.LawfulSame.{erased, unborn}
use Rattle.model.specs.Theorem.Sequence.{Steps}
use Rattle.model.proofs.Theorem.Steps.{after_bounded, after_of_tables, answer_of_sized, unsized}
use Rattle.model.specs.Request.Refusals as refusal

-- ---- the first request after which a level is not at least what it was

module _ (l : ℕ → ℕ) where
  -- the first of m changes after which it is not
  record FirstLost (m : ℕ) : Type 0 where
    moment : ℕ
    among : moment < m
    until : (i : ℕ) → i ≤ moment → AtMost (l 0) (l i)
    lost : Drops (l (suc moment)) (l 0)

  -- Over m changes it was always at least what it was, or there is a first after which it was not.
  kept_or_lost : (m : ℕ) → ((i : ℕ) → i ≤ m → AtMost (l 0) (l i)) ⊎ FirstLost m
  kept_or_lost zero = inl (λ i h. subst (λ (j : ℕ). AtMost (l 0) (l j)) (omega arith) (at_most_ordered.reflexive (l 0)))
  kept_or_lost (suc m) = elim (kept_or_lost m) [ inl f ↦ next f (at_most (l 0) (l (suc m))) refl | inr z ↦ inr (later z) ]
    where
      later : FirstLost m → FirstLost (suc m)
      later z = record { moment = z.moment; among = omega (arith, z.among); until = z.until; lost = z.lost }

      next : ((i : ℕ) → i ≤ m → AtMost (l 0) (l i)) → (b : Bool) → at_most (l 0) (l (suc m)) ≡ b
          → ((i : ℕ) → i ≤ suc m → AtMost (l 0) (l i)) ⊎ FirstLost (suc m)
      next f true e = inl (λ i h. cases (eq-or-lt_of_le h) (λ z. subst (λ (j : ℕ). AtMost (l 0) (l j)) (sym z) (is_true (at_most (l 0) (l (suc m))) e))
          (λ z. f i (omega arith)))
      next f false e =
          inr (record { moment = m; among = omega arith; until = f; lost = T_not (at_most (l 0) (l (suc m))) (is_false (at_most (l 0) (l (suc m))) e) })

  -- So where it is not at the end, there is a first.
  first_lost : (m : ℕ) → Drops (l m) (l 0) → FirstLost m
  first_lost m n = elim (kept_or_lost m) [ inl f ↦ absurd (n (f m (omega arith))) | inr z ↦ z ]

-- ---- one accepted request

module _ (d : Tables) (q : Request) (x : ℕ) where
  -- the level of x drops by the effect of the operation o, and x is there before and after
  abbrev DropsBy : Op → Type 0
  DropsBy o = Both d ((row_of o).effect (asked d q) d) x × Drops (level_of ((row_of o).effect (asked d q) d) x) (level_of d x)

  abbrev MayDropBy : Op → Type 0
  MayDropBy o = Accepted o d q → DropsBy o → MayDrop d q x

  -- A level that is as it was has not dropped.
  stays : (o : Op) → level_of ((row_of o).effect (asked d q) d) x ≡ level_of d x → DropsBy o → MayDrop d q x
  stays o e n = absurd (drops_differs (level_of ((row_of o).effect (asked d q) d) x) (level_of d x) n.1 e)

  -- Level: of x alone, and by a downgrader.
  level_may : MayDropBy to_level
  unfolding asked
  level_may a n = go (eqb x e) (same x e) n.1
    where
      e : ℕ
      e = (asked d q).first

      go : (b : Bool) → Same x e b → Drops (pick b q.a (level_of d x)) (level_of d x) → MayDrop d q x
      go true (it r) m = inl (record {
        thing = subst (Thing d) (sym r) a.allowed.thing;
        asks = a.meant;
        operand = sym r;
        role = a.allowed.downgrade (subst (λ (y : ℕ). Drops q.a (level_of d y)) r m);
      })
      go false (other r) m = absurd (drops_differs (level_of d x) (level_of d x) m refl)

  -- Device level: of x alone, and by a downgrader, or whoever is on it.
  device_level_may : MayDropBy to_device_level
  unfolding asked
  device_level_may a n = go (eqb x e) (same x e) n.1
    where
      e : ℕ
      e = (asked d q).first

      may : x ≡ e → Drops q.a (level_of d x) → (b : Bool) → Same e (devices d q.user) b → HasRole d q.user downgrader ⊎ (devices d q.user ≡ x)
      may r m true (it z) = inr (sym (r ∙ z))
      may r m false (other z) = inl (a.allowed.downgrade (subst (λ (y : ℕ). Drops q.a (level_of d y)) r m) z)

      go : (b : Bool) → Same x e b → Drops (pick b q.a (level_of d x)) (level_of d x) → MayDrop d q x
      go true (it r) m = inr (record {
        screen = subst (λ (y : ℕ). Screen (kinds d y)) (sym r) a.allowed.screen;
        asks = a.meant;
        operand = sym r;
        role = may r m (eqb e (devices d q.user)) (same e (devices d q.user));
      })
      go false (other r) m = absurd (drops_differs (level_of d x) (level_of d x) m refl)

  -- Every operation: created x was not there before, deleted x is not there afterwards, and no other operation writes a level.
  may_drop : (o : Op) → MayDropBy o
  may_drop to_create a n =
      stays to_create (unborn (vacant d) d x (level_of d x) (asked d q).b (vacant_absent d a.allowed.number) n.0.0) n
  may_drop to_delete a n = stays to_delete (erased (asked d q).first (leave (asked d q).first d) x (level_of d x) n.0.1) n
  may_drop to_move a n = stays to_move refl n
  may_drop to_edit a n = stays to_edit refl n
  may_drop to_copy a n = stays to_copy refl n
  may_drop to_level a n = level_may a n
  may_drop to_mark a n = stays to_mark refl n
  may_drop to_grant a n = stays to_grant refl n
  may_drop to_revoke a n = stays to_revoke refl n
  may_drop to_show a n = stays to_show refl n
  may_drop to_clear a n = stays to_clear refl n
  may_drop to_login a n = stays to_login refl n
  may_drop to_logout a n = stays to_logout refl n
  may_drop to_current a n = stays to_current refl n
  may_drop to_clearance a n = stays to_clearance refl n
  may_drop to_authorised a n = stays to_authorised refl n
  may_drop to_maximum a n = stays to_maximum refl n
  may_drop to_device_level a n = device_level_may a n
  may_drop to_release a n = stays to_release refl n
  may_drop to_acknowledge a n = stays to_acknowledge refl n

-- ---- one request

-- What a request lets drop, of what is there before and after, it was accepted for, and may.
pub request_may : (d : Tables) → Bounded d → (q : Request) (x : ℕ) → Both d (after d q) x → Drops (level_of (after d q) x) (level_of d x)
    → (answer d q ≡ refusal.accepted) × MayDrop d q x
request_may d w q x = after_each d q Accounts settled (λ l h b n. unmoved n) (λ h b n. unmoved n)
  where
    Accounts : Tables → Type 0
    Accounts d' = Both d d' x → Drops (level_of d' x) (level_of d x) → (answer d q ≡ refusal.accepted) × MayDrop d q x

    unmoved : Drops (level_of d x) (level_of d x) → (answer d q ≡ refusal.accepted) × MayDrop d q x
    unmoved n = absurd (drops_differs (level_of d x) (level_of d x) n refl)

    settled : answer d q ≡ refusal.accepted → Accounts (effect d q)
    settled e =
        let a = accepted d q e (accepted_good d q e w).0 in
        rw (effect_by d q a.0 (names_found q a.0 a.1.meant.named)) (λ b n. (e, may_drop d q x a.0 a.1 (b, n)))

-- So it is on words, however many they are.
pub words_may : (t q : List ℕ) (x : ℕ) → Both (tables_of t) (tables_of (after_of t q)) x → Drops (level_of (tables_of (after_of t q)) x)
    (level_of (tables_of t) x)
    → (answer_of t q ≡ refusal.accepted) × MayDrop (tables_of t) (request_of q) x
words_may t q x b n = go (sized t q) refl
  where
    go : (c : Bool) → sized t q ≡ c → (answer_of t q ≡ refusal.accepted) × MayDrop (tables_of t) (request_of q) x
    go true z =
        let s = is_true (sized t q) z in
        let e = after_of_tables t q s in
        let f = request_may (tables_of t) (bounded t) (request_of q) x (rw e at b) (rw e at n) in
        (answer_of_sized t q s ∙ f.0, f.1)
    go false z =
        let e = ap (λ (r : List ℕ). level_of (tables_of r) x) (unsized t q (is_false (sized t q) z)).1 in
        absurd (drops_differs (level_of (tables_of (after_of t q)) x) (level_of (tables_of t) x) n e)

-- ---- many requests

-- Rule 9.15 holds of tables one after another if each request that lets a level drop was accepted, and may.
module _ (m : ℕ) (tables : ℕ → Tables) (requests : ℕ → Request) (answers : ℕ → ℕ) where
  each_accountable : ((i : ℕ) → i < m → (x : ℕ) → Both (tables i) (tables (suc i)) x → Drops (level_of (tables (suc i)) x) (level_of (tables i) x)
      → (answers i ≡ refusal.accepted) × MayDrop (tables i) (requests i) x) → Accountable m tables requests answers
  each_accountable each x there n =
      let l : ℕ → ℕ = λ i. level_of (tables i) x in
      let f = first_lost l m n in
      let i = f.moment in
      let drop = drops_further (l (suc i)) (l 0) (l i) (f.until i (omega arith)) f.lost in
      let z = each i f.among x (there i (omega (arith, f.among)), there (suc i) (omega (arith, f.among))) drop in
      record { moment = i; among = f.among; until = f.until; lost = f.lost; drops = drop; accepted = z.0; by = z.1 }

-- Over any steps on words no level is lost but one of them accounts for it.
pub steps_accountable : (m : ℕ) (tables requests : ℕ → List ℕ) (answers : ℕ → ℕ) → Steps m tables requests answers
    → Accountable m (λ i. tables_of (tables i)) (λ i. request_of (requests i)) answers
steps_accountable m tables requests answers s = each_accountable m (λ i. tables_of (tables i)) (λ i. request_of (requests i)) answers
    (λ i h x b n. let e = s.left i h in let z = words_may (tables i) (requests i) x (rw e at b) (rw e at n) in (s.answered i h ∙ z.0, z.1))

-- So it is in every history of the desk (Definition 4), from any tables of words on.
pub history_accountable : (start : Tables) → Bounded start → (tables : ℕ → Tables) (requests : ℕ → Request) → History after start tables requests → (m : ℕ)
    → Accountable m tables requests (λ i. answer (tables i) (requests i))
history_accountable start w tables requests h m = each_accountable m tables requests (λ i. answer (tables i) (requests i))
    (λ i l x b n. let e = h.goes_on i in request_may (tables i) (held i) (requests i) x (rw e at b) (rw e at n))
  where
    held : (i : ℕ) → Bounded (tables i)
    held zero = rw h.starts w
    held (suc i) = rw (h.goes_on i) (after_bounded (tables i) (held i) (requests i))

-- One request only accounts for it.
pub accounted_once : {m : ℕ} {tables : ℕ → Tables} {requests : ℕ → Request} {answers : ℕ → ℕ} {x : ℕ} (y z : Accounted m tables requests answers x)
    → y.moment ≡ z.moment
accounted_once y z =
    cases (lt_or_le y.moment z.moment) (λ h. absurd (y.lost (z.until (suc y.moment) h)))
    (λ h. cases (lt_or_le z.moment y.moment) (λ k. absurd (z.lost (y.until (suc z.moment) k))) (λ k. omega arith))
