-- The rungs from 10 on and the effects of the operations on users and notices: 14, 15, 16, 20.
use Rattle.std.specs.Prelude.{Bool, ◌&&◌, ◌||◌, false, true, List, ◌≡◌, refl, ◌≤◌, ℕ, eqb}
use Rattle.std.proofs.Math.Bool.{not}
use Rattle.std.proofs.Common.{◌∙◌, sym, lit<, lit≤}
use Rattle.std.proofs.Math.Path.{ap}
use Rattle.ladder.specs.ArgumentLaws.{arguments_in}
use Rattle.ladder.specs.Contract.{Judged, Passed, Taking}
use Rattle.ladder.specs.JudgeLaws.{accepted, asked_of, free, kinds_none, pass, skip, stop, user_is_lem}
use Rattle.model.specs.Basics.Tests.{every}
use Rattle.model.specs.Request.Asked.{asked, has_role}
use Rattle.model.specs.Request.Ladder.{refused}
use Rattle.model.specs.Request.Words.{request_of}
use Rattle.model.specs.Tables.Layout.{tables_of}
use Rattle.model.specs.Effect.Words.{acknowledge, set_authorised, set_clearance, set_current}
use Rattle.model.specs.Level.{officer, role_count, subset}
use Rattle.model.specs.Request.Conditions.{current_outside, lacks, not_acknowledged, roles_of_another, roles_off, roles_unauthorised, user_absent}
use Rattle.model.specs.Request.Operations.{clearance_effect, to_acknowledge, to_authorised, to_clearance, to_current}
use Rattle.model.specs.State.Check.{secure_test}
use Rattle.model.specs.Tables.Edits.{◌and◌, on_user, user_word}
use Rattle.model.specs.Tables.StoreLaws.{user_twice}
use Rattle.model.specs.Tables.Words.{authorised, current, device, held, held_op, missed, present, user_count}
use Rattle.op_users.specs.Officers.{OfOfficer, PastOfficer}
use Rattle.tables.specs.Singles.{UserIn}
use Rattle.ladder.specs.RungLaws.{authorised_officers, clearance_officers, clearance_trial, trial_done, trial_failed, trial_judged}
use Rattle.ladder.specs.Trial.{Tried}
use Rattle.model.specs.Request.Refusals as refusal

-- the user that a request speaks of has a record
pub spoken : (q : List ℕ) (a : ℕ) → a ≡ (request_of q).a → (1 ≤ (request_of q).a) × ((request_of q).a ≤ user_count) → (1 ≤ a) × (a ≤ user_count)
spoken q a i h = rw i h

module _ (t q : List ℕ) (u a : ℕ) (i : a ≡ (request_of q).a) where
  pub current_in : Taking to_current t q u → UserIn t a
  current_in k = let r = spoken q a i (arguments_in to_current t q u k).0 in (k.climbed.ready.whole, r.0, r.1)

  pub clearance_in : Taking to_clearance t q u → UserIn t a
  clearance_in k = let r = spoken q a i (arguments_in to_clearance t q u k).0 in (k.climbed.ready.whole, r.0, r.1)

  pub authorised_in : Taking to_authorised t q u → UserIn t a
  authorised_in k = let r = spoken q a i (arguments_in to_authorised t q u k).0 in (k.climbed.ready.whole, r.0, r.1)

-- ---- operation 14, current roles

module _ (t q : List ℕ) (u : ℕ) (k : Taking to_current t q u) (a b p v : ℕ) (i : a ≡ (request_of q).a) (j : b ≡ (request_of q).b)
    (hp : p ≡ (tables_of t).user a present) (hv : v ≡ (tables_of t).user a device) where
  off_is : roles_off (tables_of t) (asked_of t q) ≡ (eqb p 0 || (eqb v 0 && not (eqb b 0)))
  unfolding roles_off user_absent asked
  off_is = rw (← i, ← j, ← hp, ← hv)

  pub current_11 : (eqb p 0 || (eqb v 0 && not (eqb b 0))) ≡ true → Judged t q refusal.no_such_user t
  unfolding refused
  current_11 w = stop k refusal.wrong_kind (lit≤ tt) (lit< tt) (kinds_none k refl) (off_is ∙ w)

  module _ (w : (eqb p 0 || (eqb v 0 && not (eqb b 0))) ≡ false) (y : Bool) (r : y ≡ has_role (tables_of t) u officer) where
    current_passed_11 : Passed refusal.no_such_user (tables_of t) (request_of q)
    unfolding refused
    current_passed_11 = pass k refusal.wrong_kind (lit≤ tt) (lit< tt) (kinds_none k refl) (off_is ∙ w)

    another_is : roles_of_another (tables_of t) (asked_of t q) ≡ (not (eqb a u) && not y)
    unfolding roles_of_another lacks asked
    another_is = rw (← i, k.climbed.user, ← r)

    pub current_12 : (not (eqb a u) && not y) ≡ true → Judged t q refusal.role_missing t
    unfolding refused
    current_12 x = stop k refusal.no_such_user (lit≤ tt) (lit< tt) current_passed_11 (another_is ∙ x)

    module _ (x : (not (eqb a u) && not y) ≡ false) (s : Bool) (m : s ≡ subset role_count b ((tables_of t).user a authorised)) where
      current_passed_12 : Passed refusal.role_missing (tables_of t) (request_of q)
      unfolding refused
      current_passed_12 = pass k refusal.no_such_user (lit≤ tt) (lit< tt) current_passed_11 (another_is ∙ x)

      unauthorised_is : roles_unauthorised (tables_of t) (asked_of t q) ≡ not s
      unfolding roles_unauthorised asked
      unauthorised_is = rw (← i, ← j, ← m)

      pub current_13 : s ≡ false → Judged t q refusal.level_or_roles t
      unfolding refused
      current_13 z = stop k refusal.role_missing (lit≤ tt) (lit< tt) current_passed_12 (unauthorised_is ∙ ap not z)

      pub current_done : s ≡ true → (n : List ℕ) → tables_of n ≡ set_current a b (tables_of t) → Judged t q refusal.accepted n
      unfolding refused every free asked
      current_done z n e = accepted k n (skip k 3 refusal.level_or_roles (lit≤ tt) (lit≤ tt)
          (pass k refusal.role_missing (lit≤ tt) (lit< tt) current_passed_12 (unauthorised_is ∙ ap not z)) tt) (e ∙ rw (i, j))

-- ---- operations of officers: rungs 11 and 12

module _ (t q : List ℕ) (u : ℕ) where
  pub of_clearance : Taking to_clearance t q u → OfOfficer t q u
  of_clearance k = record { operation = to_clearance; rungs = clearance_officers; taking = k; named = clearance_in t q u (request_of q).a refl k }

  pub of_authorised : Taking to_authorised t q u → OfOfficer t q u
  of_authorised k = record { operation = to_authorised; rungs = authorised_officers; taking = k; named = authorised_in t q u (request_of q).a refl k }

-- ---- operation 15, clearance: rung 13

module _ (t q : List ℕ) (u : ℕ) (k : Taking to_clearance t q u) (a : ℕ) (p : PastOfficer t q a) (b : ℕ) (j : b ≡ (request_of q).b) where
  clearance_effect_lem : clearance_effect (asked_of t q) (tables_of t) ≡ set_clearance a b (tables_of t)
  unfolding asked
  clearance_effect_lem = rw (p.is, j)

  module _ (s : Bool) (m : s ≡ secure_test (set_clearance a b (tables_of t))) where
    pub clearance_13 : s ≡ false → Judged t q refusal.level_or_roles t
    clearance_13 = trial_failed to_clearance clearance_trial t q u k p.passed (set_clearance a b (tables_of t)) clearance_effect_lem s m

    pub clearance_done : s ≡ true → (n : List ℕ) → tables_of n ≡ set_clearance a b (tables_of t) → Judged t q refusal.accepted n
    clearance_done = trial_done to_clearance clearance_trial t q u k p.passed (set_clearance a b (tables_of t)) clearance_effect_lem s m

  pub clearance_tried : (r : ℕ) (n : List ℕ) → Tried (set_clearance a b (tables_of t)) t r n → Judged t q r n
  clearance_tried = trial_judged t q (set_clearance a b (tables_of t)) (clearance_13 (secure_test (set_clearance a b (tables_of t))) refl)
      (clearance_done (secure_test (set_clearance a b (tables_of t))) refl)

-- ---- operation 16, authorised roles: rung 13

module _ (t q : List ℕ) (u : ℕ) (k : Taking to_authorised t q u) (a : ℕ) (p : PastOfficer t q a) (b : ℕ) (j : b ≡ (request_of q).b) (s : Bool)
    (m : s ≡ subset role_count ((tables_of t).user a current) b) where
  outside_is : current_outside (tables_of t) (asked_of t q) ≡ not s
  unfolding current_outside asked
  outside_is = rw (← p.is, ← j, ← m)

  pub authorised_13 : s ≡ false → Judged t q refusal.level_or_roles t
  unfolding refused
  authorised_13 z = stop k refusal.role_missing (lit≤ tt) (lit< tt) p.passed (outside_is ∙ ap not z)

  pub authorised_done : s ≡ true → (n : List ℕ) → tables_of n ≡ set_authorised a b (tables_of t) → Judged t q refusal.accepted n
  unfolding refused every free asked
  authorised_done z n e = accepted k n (skip k 3 refusal.level_or_roles (lit≤ tt) (lit≤ tt)
      (pass k refusal.role_missing (lit≤ tt) (lit< tt) p.passed (outside_is ∙ ap not z)) tt) (e ∙ rw (p.is, j))

-- ---- operation 20, acknowledge

module _ (t q : List ℕ) (u : ℕ) (k : Taking to_acknowledge t q u) (a b h m : ℕ) (i : a ≡ (request_of q).a) (j : b ≡ (request_of q).b)
    (hh : h ≡ (tables_of t).user u held) (hm : m ≡ (tables_of t).user u missed) where
  acknowledge_15 : Passed refusal.arrangement (tables_of t) (request_of q)
  unfolding every free
  acknowledge_15 = skip k 5 refusal.wrong_kind (lit≤ tt) (lit≤ tt) (kinds_none k refl) tt

  differs_is : not_acknowledged (tables_of t) (asked_of t q) ≡ (eqb h 0 || (not (eqb a h) || not (eqb b m)))
  unfolding not_acknowledged asked
  differs_is = rw (k.climbed.user, ← i, ← j, ← hh, ← hm)

  pub acknowledge_16 : (eqb h 0 || (not (eqb a h) || not (eqb b m))) ≡ true → Judged t q refusal.not_acknowledged t
  unfolding refused
  acknowledge_16 w = stop k refusal.arrangement (lit≤ tt) (lit< tt) acknowledge_15 (differs_is ∙ w)

  pub acknowledge_done : (eqb h 0 || (not (eqb a h) || not (eqb b m))) ≡ false → (n : List ℕ)
      → tables_of n ≡ on_user u (user_word held 0) (on_user u (user_word held_op 0) (on_user u (user_word missed 0) (tables_of t))) → Judged t q
      refusal.accepted n
  unfolding refused
  acknowledge_done w n e = accepted k n (pass k refusal.arrangement (lit≤ tt) (lit< tt) acknowledge_15 (differs_is ∙ w))
      (e ∙ ap (on_user u (user_word held 0)) (user_twice u (user_word held_op 0) (user_word missed 0) (tables_of t))
      ∙ user_twice u (user_word held 0) (user_word held_op 0 and user_word missed 0) (tables_of t)
      ∙ ap (λ (x : ℕ). acknowledge x (tables_of t)) (sym (user_is_lem k)))
