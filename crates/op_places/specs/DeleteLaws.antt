-- Operation 2: the rungs of delete in the order of the code, and its end.
use Rattle.std.specs.Prelude.{Bool, ◌||◌, false, not, true, List, ◌≡◌, ℕ, eqb}
use Rattle.std.proofs.Common.{◌∙◌, arith}
use Rattle.std.proofs.Math.Path.{ap, refl}
use Rattle.ladder.specs.Contract.{First, Judged, Passed, Taking}
use Rattle.ladder.specs.JudgeLaws.{accepted, asked_of, free, kind_right, kind_wrong, pass, skip, stop}
use Rattle.laws.specs.Bools.{not_no, not_yes}
use Rattle.model.specs.Basics.Tests.{every}
use Rattle.model.specs.Effect.Places.{erase, leave}
use Rattle.model.specs.Request.Conditions.{delete_forbidden, is_entity, on_screen}
use Rattle.model.specs.Request.Ladder.{refused}
use Rattle.model.specs.Request.Operations.{row_of, to_delete}
use Rattle.model.specs.Request.Words.{request_of}
use Rattle.model.specs.Tables.Layout.{tables_of}
use Rattle.model.specs.Tables.Words.{used_places, type}
use Rattle.model.specs.Request.Refusals as refusal

module _ (t q : List ℕ) (u e : ℕ) (k : Taking to_delete t q u) (g : First t q e) (b : Bool) (h : b ≡ is_entity (tables_of t) e) where
  -- 10: e is neither an object nor a container
  pub delete_kind : not b ≡ true → Judged t q refusal.wrong_kind t
  delete_kind z = kind_wrong k e g is_entity refl b h (not_yes b z)

  module _ (zb : not b ≡ false) (x y : ℕ) (r : Bool) (hx : x ≡ used_places (tables_of t) e) (hr : r ≡ on_screen (tables_of t) e)
      (hy : y ≡ (tables_of t).entity e type) where
    fourteen : Passed refusal.no_room (tables_of t) (request_of q)
    unfolding every free
    fourteen = skip k 4 refusal.wrong_kind (omega arith) (omega arith) (kind_right k e g is_entity refl b h (not_no b zb)) tt

    forbidden_is : refused refusal.arrangement (row_of to_delete).conditions (tables_of t) (asked_of t q) ≡ (not (eqb x 0) || (r || eqb y 2))
    unfolding refused delete_forbidden
    forbidden_is = rw (g.is, hx, hr, hy)

    -- 15: it holds something, is on a screen, or is released
    pub delete_forbidden_lem : (not (eqb x 0) || (r || eqb y 2)) ≡ true → Judged t q refusal.arrangement t
    delete_forbidden_lem z = stop k refusal.no_room (omega arith) (omega arith) fourteen (forbidden_is ∙ z)

    -- accepted
    pub deleted : (not (eqb x 0) || (r || eqb y 2)) ≡ false → (s n : List ℕ) → tables_of s ≡ leave e (tables_of t) → tables_of n ≡ erase e (tables_of s)
        → Judged t q refusal.accepted n
    unfolding every free
    deleted z s n a c = accepted k n
        (skip k 1 refusal.arrangement (omega arith) (omega arith) (pass k refusal.no_room (omega arith) (omega arith) fourteen (forbidden_is ∙ z)) tt)
        (c ∙ ap (erase e) a ∙ rw g.is)
