-- The rungs from 10 on and the effects of the operations on objects and containers: 4, 5, 6, 7, 19.
use Rattle.std.specs.Prelude.{Bool, ◌&&◌, false, true, List, ◌≡◌, ℕ}
use Rattle.std.proofs.Math.Bool.{not}
use Rattle.std.proofs.Common.{◌∙◌, sym, lit<, lit≤}
use Rattle.std.proofs.Math.Path.{ap, refl}
use Rattle.ladder.specs.Contract.{First, Judged, Passed, Second, Taking}
use Rattle.ladder.specs.JudgeLaws.{accepted, asked_of, free, kind_right, kind_wrong, kinds_right, kinds_wrong, pass, skip, stop, user_is_lem}
use Rattle.model.specs.Basics.Tests.{every}
use Rattle.model.specs.Request.Asked.{asked, has_role}
use Rattle.model.specs.Request.Ladder.{refused}
use Rattle.model.specs.Request.Words.{request_of}
use Rattle.model.specs.Tables.Layout.{tables_of}
use Rattle.model.specs.Effect.Words.{edit, release, set_level, set_mark}
use Rattle.model.specs.Level.{at_most, downgrader, drops, releasing}
use Rattle.model.specs.Request.Conditions.{first_above, is_container, is_draft, is_entity, lacks, level_dropped}
use Rattle.model.specs.Request.Operations.{to_copy, to_edit, to_level, to_mark, to_release}
use Rattle.model.specs.State.Check.{secure_test}
use Rattle.model.specs.Tables.Words.{level, value}
use Rattle.ladder.specs.RungLaws.{lacks_is, level_effect_lem, level_trial, trial_done, trial_failed, trial_judged}
use Rattle.ladder.specs.Trial.{Tried}
use Rattle.model.specs.Request.Refusals as refusal

-- ---- operation 4, edit

module _ (t q : List ℕ) (u e : ℕ) (k : Taking to_edit t q u) (g : First t q e) (b : Bool) (h : b ≡ is_entity (tables_of t) e) where
  pub edit_10 : b ≡ false → Judged t q refusal.wrong_kind t
  edit_10 z = kind_wrong k e g is_entity refl b h z

  pub edit_done : b ≡ true → (a : ℕ) → a ≡ (request_of q).a → (n : List ℕ) → tables_of n ≡ edit e a (tables_of t) → Judged t q refusal.accepted n
  unfolding every free asked
  edit_done z a i n w = accepted k n (skip k 6 refusal.wrong_kind (lit≤ tt) (lit≤ tt) (kind_right k e g is_entity refl b h z) tt)
      (w ∙ rw i (ap (λ (x : ℕ). edit x (request_of q).a (tables_of t)) (sym g.is)))

-- ---- operation 7, mark

module _ (t q : List ℕ) (u e : ℕ) (k : Taking to_mark t q u) (g : First t q e) (b : Bool) (h : b ≡ is_container (tables_of t) e) where
  pub mark_10 : b ≡ false → Judged t q refusal.wrong_kind t
  mark_10 z = kind_wrong k e g is_container refl b h z

  pub mark_done : b ≡ true → (a : ℕ) → a ≡ (request_of q).a → (n : List ℕ) → tables_of n ≡ set_mark e a (tables_of t) → Judged t q refusal.accepted n
  unfolding every free asked
  mark_done z a i n w = accepted k n (skip k 6 refusal.wrong_kind (lit≤ tt) (lit≤ tt) (kind_right k e g is_container refl b h z) tt)
      (w ∙ rw i (ap (λ (x : ℕ). set_mark x (request_of q).a (tables_of t)) (sym g.is)))

-- ---- operation 5, copy

module _ (t q : List ℕ) (u e c : ℕ) (k : Taking to_copy t q u) (g : First t q e) (f : Second t q c) (a b : Bool) (h : a ≡ is_entity (tables_of t) e)
    (j : b ≡ is_entity (tables_of t) c) where
  pub copy_10 : (a && b) ≡ false → Judged t q refusal.wrong_kind t
  copy_10 z = kinds_wrong k e g c f is_entity is_entity refl a b h j z

  module _ (z : (a && b) ≡ true) (x : Bool) (m : x ≡ at_most ((tables_of t).entity e level) ((tables_of t).entity c level)) where
    copy_12 : Passed refusal.role_missing (tables_of t) (request_of q)
    unfolding every free
    copy_12 = skip k 2 refusal.wrong_kind (lit≤ tt) (lit≤ tt) (kinds_right k e g c f is_entity is_entity refl a b h j z) tt

    above_is : first_above (tables_of t) (asked_of t q) ≡ not x
    unfolding first_above
    above_is = rw (g.is, f.is, m)

    pub copy_13 : x ≡ false → Judged t q refusal.level_or_roles t
    unfolding refused
    copy_13 y = stop k refusal.role_missing (lit≤ tt) (lit< tt) copy_12 (above_is ∙ ap not y)

    pub copy_done : x ≡ true → (v : ℕ) → v ≡ (tables_of t).entity e value → (n : List ℕ) → tables_of n ≡ edit c v (tables_of t) → Judged t q refusal.accepted n
    unfolding refused every free
    copy_done y v w n s = accepted k n (skip k 3 refusal.level_or_roles (lit≤ tt) (lit≤ tt)
        (pass k refusal.role_missing (lit≤ tt) (lit< tt) copy_12 (above_is ∙ ap not y)) tt)
        (s ∙ rw (w, ← g.is, ← f.is))

-- ---- operation 6, level

module _ (t q : List ℕ) (u e : ℕ) (k : Taking to_level t q u) (g : First t q e) (b : Bool) (h : b ≡ is_entity (tables_of t) e) where
  pub level_10 : b ≡ false → Judged t q refusal.wrong_kind t
  level_10 z = kind_wrong k e g is_entity refl b h z

  module _ (z : b ≡ true) (a : ℕ) (i : a ≡ (request_of q).a) (x : Bool)
      (l : x ≡ (drops a ((tables_of t).entity e level) && not (has_role (tables_of t) u downgrader))) where
    level_11 : Passed refusal.no_such_user (tables_of t) (request_of q)
    unfolding every free
    level_11 = skip k 1 refusal.wrong_kind (lit≤ tt) (lit≤ tt) (kind_right k e g is_entity refl b h z) tt

    dropped_is : level_dropped (tables_of t) (asked_of t q) ≡ x
    unfolding level_dropped lacks asked
    dropped_is = rw (l, g.is, ← i, k.climbed.user)

    pub level_12 : x ≡ true → Judged t q refusal.role_missing t
    unfolding refused
    level_12 w = stop k refusal.no_such_user (lit≤ tt) (lit< tt) level_11 (dropped_is ∙ w)

    module _ (w : x ≡ false) where
      passed_12 : Passed refusal.role_missing (tables_of t) (request_of q)
      unfolding refused
      passed_12 = pass k refusal.no_such_user (lit≤ tt) (lit< tt) level_11 (dropped_is ∙ w)

      module _ (s : Bool) (m : s ≡ secure_test (set_level e a (tables_of t))) where
        pub level_13 : s ≡ false → Judged t q refusal.level_or_roles t
        level_13 = trial_failed to_level level_trial t q u k passed_12 (set_level e a (tables_of t)) (level_effect_lem t q e a g i) s m

        pub level_done : s ≡ true → (n : List ℕ) → tables_of n ≡ set_level e a (tables_of t) → Judged t q refusal.accepted n
        level_done = trial_done to_level level_trial t q u k passed_12 (set_level e a (tables_of t)) (level_effect_lem t q e a g i) s m

      pub level_tried : (r : ℕ) (n : List ℕ) → Tried (set_level e a (tables_of t)) t r n → Judged t q r n
      level_tried = trial_judged t q (set_level e a (tables_of t)) (level_13 (secure_test (set_level e a (tables_of t))) refl)
          (level_done (secure_test (set_level e a (tables_of t))) refl)

-- ---- operation 19, release

module _ (t q : List ℕ) (u e : ℕ) (k : Taking to_release t q u) (g : First t q e) (b : Bool) (h : b ≡ is_draft (tables_of t) e) where
  pub release_10 : b ≡ false → Judged t q refusal.wrong_kind t
  release_10 z = kind_wrong k e g is_draft refl b h z

  module _ (z : b ≡ true) (y : Bool) (r : y ≡ has_role (tables_of t) u releasing) where
    release_11 : Passed refusal.no_such_user (tables_of t) (request_of q)
    unfolding every free
    release_11 = skip k 1 refusal.wrong_kind (lit≤ tt) (lit≤ tt) (kind_right k e g is_draft refl b h z) tt

    releaser_is : lacks releasing (tables_of t) (asked_of t q) ≡ not y
    releaser_is = lacks_is to_release t q u k releasing y r

    pub release_12 : y ≡ false → Judged t q refusal.role_missing t
    unfolding refused
    release_12 w = stop k refusal.no_such_user (lit≤ tt) (lit< tt) release_11 (releaser_is ∙ ap not w)

    pub release_done : y ≡ true → (n : List ℕ) → tables_of n ≡ release u e (tables_of t) → Judged t q refusal.accepted n
    unfolding refused every free
    release_done w n j = accepted k n (skip k 4 refusal.role_missing (lit≤ tt) (lit≤ tt)
        (pass k refusal.no_such_user (lit≤ tt) (lit< tt) release_11 (releaser_is ∙ ap not w)) tt) (j ∙ effect_is)
      where
        effect_is : release u e (tables_of t) ≡ release (asked_of t q).user (asked_of t q).first (tables_of t)
        effect_is = rw (g.is, user_is_lem k)
