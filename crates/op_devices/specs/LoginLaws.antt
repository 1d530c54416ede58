-- Rules 6.12 and 7: a request to log in, test by test, as its function climbs the ladder.
use Rattle.std.specs.Prelude.{Bool, ◌||◌, false, not, true, List, ◌≡◌, suc, ℕ, eqb}
use Rattle.std.proofs.Common.{◌∙◌, arith}
use Rattle.std.proofs.Math.Path.{refl}
use Rattle.ladder.specs.Contract.{First, Judged, Passed, Taking}
use Rattle.ladder.specs.JudgeLaws.{accepted, asked_of, free, kind_right, kind_wrong, pass, skip, stop, user_is_lem}
use Rattle.model.specs.Basics.Tests.{every}
use Rattle.model.specs.Effect.Screens.{login}
use Rattle.model.specs.Request.Conditions.{is_device, login_taken}
use Rattle.model.specs.Request.Ladder.{refused}
use Rattle.model.specs.Request.Operations.{to_login}
use Rattle.model.specs.Request.Words.{request_of}
use Rattle.model.specs.Tables.Layout.{tables_of}
use Rattle.model.specs.Tables.Words.{devices, user_count}
use Rattle.model.specs.Request.Refusals as refusal

module _ (t q : List ℕ) (u e : ℕ) (k : Taking to_login t q u × First t q e) (b : Bool) (hb : b ≡ is_device (tables_of t) e) where
  pub login_wrong : b ≡ false → Judged t q refusal.wrong_kind t
  login_wrong = kind_wrong k.0 e k.1 is_device refl b hb

  -- v is the requester's device, and x says whether nobody is on e
  module _ (yes : b ≡ true) (v : ℕ) (hv : v ≡ devices (tables_of t) u) (x : Bool)
      (hx : x ≡ every user_count (λ y. not (eqb (devices (tables_of t) (suc y)) e))) where
    up : Passed refusal.no_room (tables_of t) (request_of q)
    unfolding every free
    up = skip k.0 4 refusal.wrong_kind (omega arith) (omega arith) (kind_right k.0 e k.1 is_device refl b hb yes) tt

    taken_is : login_taken (tables_of t) (asked_of t q) ≡ (not (eqb v 0) || not x)
    unfolding login_taken
    taken_is = rw (k.1.is, user_is_lem k.0, hv, hx)

    pub login_taken_lem : (not (eqb v 0) || not x) ≡ true → Judged t q refusal.arrangement t
    unfolding refused
    login_taken_lem z = stop k.0 refusal.no_room (omega arith) (omega arith) up (taken_is ∙ z)

    pub login_done : (n : List ℕ) → (not (eqb v 0) || not x) ≡ false → tables_of n ≡ login u e (tables_of t) → Judged t q refusal.accepted n
    unfolding every free refused
    login_done n z y = accepted k.0 n
        (skip k.0 1 refusal.arrangement (omega arith) (omega arith) (pass k.0 refusal.no_room (omega arith) (omega arith) up (taken_is ∙ z)) tt)
        (y ∙ rw (k.1.is, user_is_lem k.0))
