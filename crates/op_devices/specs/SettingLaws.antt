-- The rungs from 10 on and the effects of the operations on devices: 17, 18.
use Rattle.std.specs.Prelude.{Bool, ◌&&◌, false, true, List, ◌≡◌, ℕ, eqb}
use Rattle.std.proofs.Math.Bool.{not}
use Rattle.std.proofs.Common.{◌∙◌, sym, lit<, lit≤}
use Rattle.std.proofs.Math.Path.{ap, refl}
use Rattle.ladder.specs.Contract.{First, Judged, Passed, Taking}
use Rattle.ladder.specs.JudgeLaws.{accepted, asked_of, free, kind_right, kind_wrong, pass, skip, stop}
use Rattle.model.specs.Basics.Tests.{every}
use Rattle.model.specs.Request.Asked.{asked, has_role}
use Rattle.model.specs.Request.Ladder.{refused}
use Rattle.model.specs.Request.Words.{request_of}
use Rattle.model.specs.Tables.Layout.{tables_of}
use Rattle.model.specs.Effect.Words.{set_level, set_maximum}
use Rattle.model.specs.Level.{at_most, downgrader, drops, officer}
use Rattle.model.specs.Request.Conditions.{device_above, device_dropped, is_device, lacks}
use Rattle.model.specs.Request.Operations.{to_device_level, to_maximum}
use Rattle.model.specs.State.Check.{secure_test}
use Rattle.model.specs.Tables.Words.{device, level}
use Rattle.ladder.specs.RungLaws.{device_level_trial, lacks_is, level_effect_lem, trial_done, trial_failed, trial_judged}
use Rattle.ladder.specs.Trial.{Tried}
use Rattle.model.specs.Request.Refusals as refusal

-- ---- operation 17, maximum

module _ (t q : List ℕ) (u e : ℕ) (k : Taking to_maximum t q u) (g : First t q e) (b : Bool) (h : b ≡ is_device (tables_of t) e) where
  pub maximum_10 : b ≡ false → Judged t q refusal.wrong_kind t
  maximum_10 z = kind_wrong k e g is_device refl b h z

  module _ (z : b ≡ true) (y : Bool) (r : y ≡ has_role (tables_of t) u officer) where
    maximum_11 : Passed refusal.no_such_user (tables_of t) (request_of q)
    unfolding every free
    maximum_11 = skip k 1 refusal.wrong_kind (lit≤ tt) (lit≤ tt) (kind_right k e g is_device refl b h z) tt

    officer_is : lacks officer (tables_of t) (asked_of t q) ≡ not y
    officer_is = lacks_is to_maximum t q u k officer y r

    pub maximum_12 : y ≡ false → Judged t q refusal.role_missing t
    unfolding refused
    maximum_12 w = stop k refusal.no_such_user (lit≤ tt) (lit< tt) maximum_11 (officer_is ∙ ap not w)

    module _ (w : y ≡ true) (a : ℕ) (i : a ≡ (request_of q).a) (x : Bool) (m : x ≡ at_most ((tables_of t).entity e level) a) where
      maximum_passed : Passed refusal.role_missing (tables_of t) (request_of q)
      unfolding refused
      maximum_passed = pass k refusal.no_such_user (lit≤ tt) (lit< tt) maximum_11 (officer_is ∙ ap not w)

      above_is : device_above (tables_of t) (asked_of t q) ≡ not x
      unfolding device_above asked
      above_is = rw (g.is, ← i, ← m)

      pub maximum_13 : x ≡ false → Judged t q refusal.level_or_roles t
      unfolding refused
      maximum_13 v = stop k refusal.role_missing (lit≤ tt) (lit< tt) maximum_passed (above_is ∙ ap not v)

      pub maximum_done : x ≡ true → (n : List ℕ) → tables_of n ≡ set_maximum e a (tables_of t) → Judged t q refusal.accepted n
      unfolding refused every free asked
      maximum_done v n j = accepted k n (skip k 3 refusal.level_or_roles (lit≤ tt) (lit≤ tt)
          (pass k refusal.role_missing (lit≤ tt) (lit< tt) maximum_passed (above_is ∙ ap not v)) tt)
          (j ∙ rw (i) (ap (λ (x : ℕ). set_maximum x (request_of q).a (tables_of t)) (sym g.is)))

-- ---- operation 18, device-level

module _ (t q : List ℕ) (u e : ℕ) (k : Taking to_device_level t q u) (g : First t q e) (b : Bool) (h : b ≡ is_device (tables_of t) e) where
  pub device_level_10 : b ≡ false → Judged t q refusal.wrong_kind t
  device_level_10 z = kind_wrong k e g is_device refl b h z

  module _ (z : b ≡ true) (a : ℕ) (i : a ≡ (request_of q).a) (x : Bool)
      (l : x ≡ (drops a ((tables_of t).entity e level) && (not (eqb e ((tables_of t).user u device)) && not (has_role (tables_of t) u downgrader)))) where
    device_level_11 : Passed refusal.no_such_user (tables_of t) (request_of q)
    unfolding every free
    device_level_11 = skip k 1 refusal.wrong_kind (lit≤ tt) (lit≤ tt) (kind_right k e g is_device refl b h z) tt

    dropped_is : device_dropped (tables_of t) (asked_of t q) ≡ x
    unfolding device_dropped lacks asked
    dropped_is = rw (l, g.is, ← i, k.climbed.user)

    pub device_level_12 : x ≡ true → Judged t q refusal.role_missing t
    unfolding refused
    device_level_12 w = stop k refusal.no_such_user (lit≤ tt) (lit< tt) device_level_11 (dropped_is ∙ w)

    module _ (w : x ≡ false) where
      device_level_passed : Passed refusal.role_missing (tables_of t) (request_of q)
      unfolding refused
      device_level_passed = pass k refusal.no_such_user (lit≤ tt) (lit< tt) device_level_11 (dropped_is ∙ w)

      module _ (s : Bool) (m : s ≡ secure_test (set_level e a (tables_of t))) where
        pub device_level_13 : s ≡ false → Judged t q refusal.level_or_roles t
        device_level_13 = trial_failed to_device_level device_level_trial t q u k device_level_passed (set_level e a (tables_of t))
            (level_effect_lem t q e a g i) s m

        pub device_level_done : s ≡ true → (n : List ℕ) → tables_of n ≡ set_level e a (tables_of t) → Judged t q refusal.accepted n
        device_level_done = trial_done to_device_level device_level_trial t q u k device_level_passed (set_level e a (tables_of t))
            (level_effect_lem t q e a g i) s m

      pub device_level_tried : (r : ℕ) (n : List ℕ) → Tried (set_level e a (tables_of t)) t r n → Judged t q r n
      device_level_tried = trial_judged t q (set_level e a (tables_of t)) (device_level_13 (secure_test (set_level e a (tables_of t))) refl)
          (device_level_done (secure_test (set_level e a (tables_of t))) refl)
