-- Operation 3: the rungs of move in the order of the code, and its end.
use Rattle.std.specs.Prelude.{Bool, ◌&&◌, false, not, true, List, ◌≡◌, ◌<◌, suc, ℕ, eqb, leb}
use Rattle.std.proofs.Common.{◌∙◌, subst, sym, arith}
use Rattle.std.proofs.Math.Path.{ap, refl}
use borrow.Author.Tests.{eqb-true, leb-false}
use Rattle.ladder.specs.Contract.{First, Judged, Passed, Second, Taking}
use Rattle.ladder.specs.JudgeLaws.{accepted, asked_of, free, kinds_right, kinds_wrong, pass, skip, stop}
use Rattle.laws.specs.Bools.{and_r, not_no, not_yes}
use Rattle.model.specs.Basics.Tests.{every}
use Rattle.model.specs.Effect.Places.{leave, put}
use Rattle.model.specs.Level.{at_most}
use Rattle.model.specs.Request.Conditions.{first_above, is_container, is_entity, move_inside, move_no_room}
use Rattle.model.specs.Request.Ladder.{refused}
use Rattle.model.specs.Request.Operations.{row_of, to_move}
use Rattle.model.specs.Request.Words.{request_of}
use Rattle.model.specs.State.Climb.{climb}
use Rattle.model.specs.State.WellFormed.{WellFormed}
use Rattle.model.specs.Tables.Layout.{tables_of}
use Rattle.model.specs.Tables.Words.{Tables, container_kind, used_places, entity_count, kinds, level, place_count, sums}
use Rattle.op_places.specs.HolderLaws.{full_left}
use Rattle.standing.specs.Standing.{parent_in}
use Rattle.model.specs.Request.Refusals as refusal

module _ (t q : List ℕ) (u e c : ℕ) (k : Taking to_move t q u) (g : First t q e) (f : Second t q c)
    (a b : Bool) (ha : a ≡ is_entity (tables_of t) e) (hb : b ≡ is_container (tables_of t) c) where
  -- 10: e is neither an object nor a container, or c is no container
  pub move_kinds : not (a && b) ≡ true → Judged t q refusal.wrong_kind t
  move_kinds z = kinds_wrong k e g c f is_entity is_container refl a b ha hb (not_yes (a && b) z)

  module _ (zk : not (a && b) ≡ false) where
    well : WellFormed (tables_of t)
    well = k.climbed.ready.good.0

    box : kinds (tables_of t) c ≡ container_kind
    unfolding is_container
    box = eqb-true (kinds (tables_of t) c) container_kind (sym hb ∙ and_r a b (not_no (a && b) zk))

    twelve : Passed refusal.role_missing (tables_of t) (request_of q)
    unfolding every free
    twelve = skip k 2 refusal.wrong_kind (omega arith) (omega arith)
        (kinds_right k e g c f is_entity is_container refl a b ha hb (not_no (a && b) zk)) tt

    module _ (l m : ℕ) (y : Bool) (hl : l ≡ (tables_of t).entity e level) (hm : m ≡ (tables_of t).entity c level) (hy : y ≡ at_most l m) where
      above_is : refused refusal.level_or_roles (row_of to_move).conditions (tables_of t) (asked_of t q) ≡ not y
      unfolding refused first_above
      above_is = rw (g.is, f.is, hy, hl, hm)

      -- 13: e is too high for c
      pub move_above_lem : not y ≡ true → Judged t q refusal.level_or_roles t
      move_above_lem z = stop k refusal.role_missing (omega arith) (omega arith) twelve (above_is ∙ z)

      module _ (zy : not y ≡ false) (h n : ℕ) (hh : h ≡ parent_in (tables_of t) e) (hn : n ≡ used_places (tables_of t) c) where
        thirteen : Passed refusal.level_or_roles (tables_of t) (request_of q)
        thirteen = pass k refusal.role_missing (omega arith) (omega arith) twelve (above_is ∙ zy)

        full_is : (not (eqb h c) && leb place_count n) ≡ leb place_count (used_places (leave e (tables_of t)) c)
        full_is = full_left (tables_of t) well e h hh c n f.low box hn

        room_is : refused refusal.no_room (row_of to_move).conditions (tables_of t) (asked_of t q) ≡ (not (eqb h c) && leb place_count n)
        unfolding refused move_no_room
        room_is = rw (g.is, f.is) (sym full_is)

        -- 14: c is full, even when e has left its old place
        pub move_full_lem : (not (eqb h c) && leb place_count n) ≡ true → Judged t q refusal.no_room t
        move_full_lem z = stop k refusal.level_or_roles (omega arith) (omega arith) thirteen (room_is ∙ z)

        module _ (zr : (not (eqb h c) && leb place_count n) ≡ false) (i : Bool) (hi : i ≡ climb (parent_in (tables_of t)) (suc entity_count) c e) where
          fourteen : Passed refusal.no_room (tables_of t) (request_of q)
          fourteen = pass k refusal.level_or_roles (omega arith) (omega arith) thirteen (room_is ∙ zr)

          inside_is : refused refusal.arrangement (row_of to_move).conditions (tables_of t) (asked_of t q) ≡ i
          unfolding refused move_inside
          inside_is = rw (g.is, f.is) (sym hi)

          -- 15: c is e or lies in it
          pub move_inside_lem : i ≡ true → Judged t q refusal.arrangement t
          move_inside_lem z = stop k refusal.no_room (omega arith) (omega arith) fourteen (inside_is ∙ z)

          -- c has room, and shows nothing, once e has left
          module _ (s : List ℕ) (x : tables_of s ≡ leave e (tables_of t)) where
            pub move_room : used_places (tables_of s) c < place_count
            move_room = subst (λ (d : Tables). used_places d c < place_count) (sym x)
                (leb-false place_count (used_places (leave e (tables_of t)) c) (sym full_is ∙ zr))

            pub move_unshown : (j : ℕ) → sums (tables_of s) c j ≡ 0
            move_unshown j = subst (λ (d : Tables). sums d c j ≡ 0) (sym x) ((well.entities c).filled.no_sums (omega (arith, box)) j)

          -- accepted
          pub moved : i ≡ false → (s r : List ℕ) → tables_of s ≡ leave e (tables_of t) → tables_of r ≡ put c e 0 (tables_of s) → Judged t q refusal.accepted r
          unfolding every free
          moved z s r x v = accepted k r
              (skip k 1 refusal.arrangement (omega arith) (omega arith) (pass k refusal.no_room (omega arith) (omega arith) fourteen (inside_is ∙ z)) tt)
              (v ∙ ap (put c e 0) x ∙ rw (g.is, f.is))
