-- Operation 1: the rungs of create in the order of the code, and its end.
use Rattle.std.specs.Prelude.{Bool, ◌||◌, false, not, true, List, ◌≡◌, ◌<◌, ◌≤◌, ℕ, leb, ltb}
use Rattle.std.proofs.Common.{◌∙◌, subst, sym, arith}
use Rattle.std.proofs.Math.Path.{ap, refl}
use borrow.Author.Tests.{eqb-true, le-leb, leb-false, lt-leb, ltb-false}
use Rattle.ladder.specs.Contract.{First, Judged, Passed, Taking}
use Rattle.ladder.specs.JudgeLaws.{accepted, asked_of, free, kind_right, kind_wrong, pass, skip, stop}
use Rattle.laws.specs.Bools.{neither_l, neither_r, not_no, not_yes}
use Rattle.model.specs.Basics.Choice.{Below, below, over, under}
use Rattle.model.specs.Basics.Tests.{every}
use Rattle.model.specs.Effect.Places.{fresh, put, sort_kind, sort_type, vacant}
use Rattle.model.specs.Level.{at_most}
use Rattle.model.specs.Request.Asked.{asked}
use Rattle.model.specs.Request.Conditions.{create_above, create_no_room, is_container}
use Rattle.model.specs.Request.Ladder.{refused}
use Rattle.model.specs.Request.Operations.{row_of, to_create}
use Rattle.model.specs.Request.Words.{request_of}
use Rattle.model.specs.Tables.Layout.{tables_of}
use Rattle.model.specs.Tables.Words.{Tables, container_kind, used_places, entity_count, kinds, level, place_count, sums}
use Rattle.model.specs.Request.Refusals as refusal

-- "more than" is "not at most"
over_not : (a b : ℕ) → ltb b a ≡ not (leb a b)
over_not a b = go (ltb b a) (below b a)
  where
    go : (c : Bool) → Below b a c → c ≡ not (leb a b)
    go true (under l) = sym (ap not (lt-leb a b l))
    go false (over l) = sym (ap not (le-leb a b l))

module _ (t q : List ℕ) where
  -- the sort and the level that are asked for
  sort_asked : (asked_of t q).a ≡ (request_of q).a
  unfolding asked
  sort_asked = refl

  level_asked : (asked_of t q).b ≡ (request_of q).b
  unfolding asked
  level_asked = refl

module _ (t q : List ℕ) (u c : ℕ) (k : Taking to_create t q u) (g : First t q c) (b : Bool) (h : b ≡ is_container (tables_of t) c) where
  -- 10: c is no container
  pub create_kind : not b ≡ true → Judged t q refusal.wrong_kind t
  create_kind z = kind_wrong k c g is_container refl b h (not_yes b z)

  module _ (zb : not b ≡ false) where
    box : kinds (tables_of t) c ≡ container_kind
    unfolding is_container
    box = eqb-true (kinds (tables_of t) c) container_kind (sym h ∙ not_no b zb)

    twelve : Passed refusal.role_missing (tables_of t) (request_of q)
    unfolding every free
    twelve = skip k 2 refusal.wrong_kind (omega arith) (omega arith) (kind_right k c g is_container refl b h (not_no b zb)) tt

    module _ (l : ℕ) (m : Bool) (hl : l ≡ (tables_of t).entity c level) (hm : m ≡ at_most (request_of q).b l) where
      above_is : refused refusal.level_or_roles (row_of to_create).conditions (tables_of t) (asked_of t q) ≡ not m
      unfolding refused create_above
      above_is = rw (level_asked t q, g.is, hm, hl)

      -- 13: the level is too high for c
      pub create_above_lem : not m ≡ true → Judged t q refusal.level_or_roles t
      create_above_lem z = stop k refusal.role_missing (omega arith) (omega arith) twelve (above_is ∙ z)

      module _ (zm : not m ≡ false) (n x : ℕ) (hn : n ≡ vacant (tables_of t)) (hx : x ≡ used_places (tables_of t) c) where
        thirteen : Passed refusal.level_or_roles (tables_of t) (request_of q)
        thirteen = pass k refusal.role_missing (omega arith) (omega arith) twelve (above_is ∙ zm)

        room_is : refused refusal.no_room (row_of to_create).conditions (tables_of t) (asked_of t q) ≡ (ltb entity_count n || leb place_count x)
        unfolding refused create_no_room
        room_is = rw (g.is, hx, hn, over_not (vacant (tables_of t)) entity_count)

        -- 14: no number or no place is left
        pub create_full : (ltb entity_count n || leb place_count x) ≡ true → Judged t q refusal.no_room t
        create_full z = stop k refusal.level_or_roles (omega arith) (omega arith) thirteen (room_is ∙ z)

        module _ (zr : (ltb entity_count n || leb place_count x) ≡ false) where
          -- the new number is one of an entity
          pub new_in : (1 ≤ n) × (n ≤ entity_count)
          new_in = (rw hn (omega arith), ltb-false entity_count n (neither_l (ltb entity_count n) (leb place_count x) zr))

          -- c has room, and shows nothing, also once the new entity is there
          module _ (s : List ℕ)
              (e : tables_of s ≡ fresh n c (sort_kind (request_of q).a) (sort_type (request_of q).a) (request_of q).b (tables_of t)) where
            pub create_room : used_places (tables_of s) c < place_count
            create_room = subst (λ (d : Tables). used_places d c < place_count) (sym e)
                (omega (arith, leb-false place_count x (neither_r (ltb entity_count n) (leb place_count x) zr)))

            pub create_unshown : (i : ℕ) → sums (tables_of s) c i ≡ 0
            create_unshown i = subst (λ (d : Tables). sums d c i ≡ 0) (sym e) ((k.climbed.ready.good.0.entities c).filled.no_sums (omega (arith, box)) i)

          -- accepted
          pub created : (s r : List ℕ) → tables_of s ≡ fresh n c (sort_kind (request_of q).a) (sort_type (request_of q).a) (request_of q).b (tables_of t)
              → tables_of r ≡ put c n 0 (tables_of s) → Judged t q refusal.accepted r
          unfolding every free
          created s r e z = accepted k r
              (skip k 2 refusal.no_room (omega arith) (omega arith) (pass k refusal.level_or_roles (omega arith) (omega arith) thirteen (room_is ∙ zr)) tt)
              (z ∙ ap (put c n 0) e ∙ rw (hn, sort_asked t q, level_asked t q, g.is))
