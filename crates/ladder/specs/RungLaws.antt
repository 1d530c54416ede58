-- The rungs that several operations on words have alike, as their functions climb them.
use Rattle.std.specs.Prelude.{Bool, false, true, List, ◌≡◌, refl, ℕ, eqb}
use Rattle.std.proofs.Math.Bool.{not}
use Rattle.std.proofs.Common.{◌∙◌, sym, lit<, lit≤}
use Rattle.std.proofs.Math.Path.{ap}
use Rattle.ladder.specs.Contract.{First, Judged, Passed, Taking}
use Rattle.ladder.specs.JudgeLaws.{accepted, asked_of, free, kinds_none, pass, skip, stop, user_is_lem}
use Rattle.model.specs.Basics.Choice.{pick}
use Rattle.model.specs.Basics.Tests.{every}
use Rattle.model.specs.Effect.Words.{set_level}
use Rattle.model.specs.Level.{officer}
use Rattle.model.specs.Request.Asked.{asked, has_role}
use Rattle.model.specs.Request.Conditions.{insecure, lacks, user_absent}
use Rattle.model.specs.Request.Ladder.{refused}
use Rattle.model.specs.Request.Operations.{Op, level_effect, row_of, to_authorised, to_clearance, to_device_level, to_level}
use Rattle.model.specs.Request.Words.{request_of}
use Rattle.model.specs.State.Check.{secure_test}
use Rattle.model.specs.Tables.Layout.{tables_of}
use Rattle.model.specs.Tables.Words.{Tables, present}
use Rattle.ladder.specs.Rungs.{OfOfficers, OnTrial}
use Rattle.ladder.specs.Trial.{Tried}
use Rattle.model.specs.Request.Refusals as refusal

-- ---- the operations that have them

pub clearance_officers : OfOfficers to_clearance
unfolding refused
clearance_officers = record { bare = refl; eleven = λ d s. refl; twelve = λ d s. refl }

pub authorised_officers : OfOfficers to_authorised
unfolding refused
authorised_officers = record { bare = refl; eleven = λ d s. refl; twelve = λ d s. refl }

pub level_trial : OnTrial to_level
unfolding refused every free
level_trial = record { thirteen = λ d s. refl; last = tt }

pub clearance_trial : OnTrial to_clearance
unfolding refused every free
clearance_trial = record { thirteen = λ d s. refl; last = tt }

pub device_level_trial : OnTrial to_device_level
unfolding refused every free
device_level_trial = record { thirteen = λ d s. refl; last = tt }

-- ---- a role that the requester must have

pub lacks_is : (o : Op) (t q : List ℕ) (u : ℕ) → Taking o t q u → (r : ℕ) (y : Bool) → y ≡ has_role (tables_of t) u r
    → lacks r (tables_of t) (asked_of t q) ≡ not y
unfolding lacks
lacks_is o t q u k r y h = rw (user_is_lem k, ← h)

-- ---- rungs 11 and 12 of operations that officers ask for

module _ (o : Op) (z : OfOfficers o) (t q : List ℕ) (u : ℕ) (k : Taking o t q u) (a p : ℕ) (i : a ≡ (request_of q).a) (hp : p ≡ (tables_of t).user a present)
  where
    absent_is : refused refusal.no_such_user (row_of o).conditions (tables_of t) (asked_of t q) ≡ eqb p 0
    unfolding user_absent asked
    absent_is = z.eleven (tables_of t) (asked_of t q) ∙ rw (← i, ← hp)

    -- user a is absent
    pub user_absent_lem : eqb p 0 ≡ true → Judged t q refusal.no_such_user t
    user_absent_lem w = stop k refusal.wrong_kind (lit≤ tt) (lit< tt) (kinds_none k z.bare) (absent_is ∙ w)

    module _ (w : eqb p 0 ≡ false) (y : Bool) (r : y ≡ has_role (tables_of t) u officer) where
      there : Passed refusal.no_such_user (tables_of t) (request_of q)
      there = pass k refusal.wrong_kind (lit≤ tt) (lit< tt) (kinds_none k z.bare) (absent_is ∙ w)

      officer_is : refused refusal.role_missing (row_of o).conditions (tables_of t) (asked_of t q) ≡ not y
      officer_is = z.twelve (tables_of t) (asked_of t q) ∙ lacks_is o t q u k officer y r

      -- the requester is no officer
      pub no_officer : y ≡ false → Judged t q refusal.role_missing t
      no_officer x = stop k refusal.no_such_user (lit≤ tt) (lit< tt) there (officer_is ∙ ap not x)

      -- the requester is one
      pub by_officer : y ≡ true → Passed refusal.role_missing (tables_of t) (request_of q)
      by_officer x = pass k refusal.no_such_user (lit≤ tt) (lit< tt) there (officer_is ∙ ap not x)

-- ---- rung 13 and the effect of operations whose outcome is tried

-- s says whether the tables with the effect, `new`, are secure
module _ (o : Op) (z : OnTrial o) (t q : List ℕ) (u : ℕ) (k : Taking o t q u) (p : Passed refusal.role_missing (tables_of t) (request_of q)) (new : Tables)
    (e : (row_of o).effect (asked_of t q) (tables_of t) ≡ new) (s : Bool) (m : s ≡ secure_test new) where
  trial_is : refused refusal.level_or_roles (row_of o).conditions (tables_of t) (asked_of t q) ≡ not s
  unfolding insecure
  trial_is = z.thirteen (tables_of t) (asked_of t q) ∙ ap (λ (d : Tables). not (secure_test d)) e ∙ ap not (sym m)

  -- they are not
  pub trial_failed : s ≡ false → Judged t q refusal.level_or_roles t
  trial_failed v = stop k refusal.role_missing (lit≤ tt) (lit< tt) p (trial_is ∙ ap not v)

  -- they are
  pub trial_done : s ≡ true → (n : List ℕ) → tables_of n ≡ new → Judged t q refusal.accepted n
  trial_done v n j = accepted k n (skip k 3 refusal.level_or_roles (lit≤ tt) (lit≤ tt)
      (pass k refusal.role_missing (lit≤ tt) (lit< tt) p (trial_is ∙ ap not v)) z.last) (j ∙ sym e)

-- the operation's own answer is that of the trial
pub trial_judged : (t q : List ℕ) (new : Tables) → (secure_test new ≡ false → Judged t q refusal.level_or_roles t)
    → (secure_test new ≡ true → (n : List ℕ) → tables_of n ≡ new → Judged t q refusal.accepted n) → (r : ℕ) (n : List ℕ) → Tried new t r n → Judged t q r n
trial_judged t q new f g r n h = go (secure_test new) h.answer f g
  where
    go : (s : Bool) → r ≡ pick s refusal.accepted refusal.level_or_roles → (s ≡ false → Judged t q refusal.level_or_roles t)
        → (s ≡ true → (n : List ℕ) → tables_of n ≡ new → Judged t q refusal.accepted n) → Judged t q r n
    go true i f g = rw i (g refl n (h.kept i))
    go false i f g = rw (i, h.unchanged i) (f refl)

-- the effect of operations 6 and 18, as they were read
pub level_effect_lem : (t q : List ℕ) (e a : ℕ) → First t q e → a ≡ (request_of q).a → level_effect (asked_of t q) (tables_of t) ≡ set_level e a (tables_of t)
unfolding asked
level_effect_lem t q e a g i = rw i (ap (λ (x : ℕ). set_level x (request_of q).a (tables_of t)) g.is)
