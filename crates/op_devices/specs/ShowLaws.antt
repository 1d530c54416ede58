-- Rules 6.10 and 7: a request to show, test by test, as its function climbs the ladder.
use Rattle.std.specs.Prelude.{Bool, ◌&&◌, ◌||◌, false, true, List, ◌≡◌, ◌<◌, ◌≤◌, ℕ, leb, ltb}
use Rattle.std.proofs.Math.Bool.{not}
use Rattle.std.proofs.Common.{◌∙◌, arith, le-leb}
use Rattle.std.proofs.Math.Path.{ap, refl, sym}
use Rattle.ladder.specs.Contract.{First, Judged, Passed, Taking}
use Rattle.ladder.specs.JudgeLaws.{accepted, asked_of, free, kind_right, kind_wrong, pass, skip, stop, user_is_lem}
use Rattle.laws.specs.Bools.{both, clash}
use Rattle.laws.specs.Loops.{seek_within}
use Rattle.model.specs.Basics.Choice.{Below, below, over, under}
use Rattle.model.specs.Basics.Tests.{every}
use Rattle.model.specs.Effect.Screens.{show}
use Rattle.model.specs.Level.{at_most}
use Rattle.model.specs.Request.Asked.{asked}
use Rattle.model.specs.Request.Conditions.{is_entity, show_above, show_no_room, show_unlabelled}
use Rattle.model.specs.Request.Ladder.{refused}
use Rattle.model.specs.Request.Operations.{to_show}
use Rattle.model.specs.Request.Words.{request_of}
use Rattle.model.specs.State.Secure.{labelled}
use Rattle.model.specs.Tables.Layout.{tables_of}
use Rattle.model.specs.Tables.Rows.{seek}
use Rattle.model.specs.Tables.Words.{clearance, used_places, devices, level, place_count, places}
use Rattle.model.specs.Request.Refusals as refusal

-- a device uses eight places at most
pub used_in : (t q : List ℕ) (u : ℕ) → Taking to_show t q u → (v n : ℕ) → n ≡ used_places (tables_of t) v → n ≤ place_count
used_in t q u k v n h = rw h (k.climbed.ready.good.0.entities v).filled.packed.room

-- where there is room, the place is one of the eight
pub room_in : (e k n : ℕ) (r : ℕ → ℕ) → n ≤ place_count → k ≡ seek e r n → (leb n k && leb place_count n) ≡ false → k < place_count
room_in e k n r h p z = go (ltb k place_count) (below k place_count)
  where
    go : (b : Bool) → Below k place_count b → k < place_count
    go true (under l) = l
    go false (over l) = clash (leb n k && leb place_count n)
        (both (leb n k) (leb place_count n) (le-leb n k (omega arith)) (le-leb place_count n (omega (arith, seek_within e r n)))) z

module _ (t q : List ℕ) (u e : ℕ) (k : Taking to_show t q u × First t q e) (b : Bool) (hb : b ≡ is_entity (tables_of t) e) where
  pub show_wrong : b ≡ false → Judged t q refusal.wrong_kind t
  show_wrong = kind_wrong k.0 e k.1 is_entity refl b hb

  -- v is the requester's device, m its level; l is the level of e, c the requester's clearance; x and y compare them
  module _ (yes : b ≡ true) (v l c m : ℕ) (x y : Bool) (hv : v ≡ devices (tables_of t) u) (hl : l ≡ (tables_of t).entity e level)
      (hc : c ≡ (tables_of t).user u clearance) (hm : m ≡ (tables_of t).entity v level) (hx : x ≡ at_most l c) (hy : y ≡ at_most l m) where
    up : Passed refusal.role_missing (tables_of t) (request_of q)
    unfolding every free
    up = skip k.0 2 refusal.wrong_kind (omega arith) (omega arith) (kind_right k.0 e k.1 is_entity refl b hb yes) tt

    above_is : show_above (tables_of t) (asked_of t q) ≡ (not x || not y)
    unfolding show_above
    above_is = rw (k.1.is, user_is_lem k.0, hx, hy, hl, hc, hm, hv)

    pub show_above_lem : (not x || not y) ≡ true → Judged t q refusal.level_or_roles t
    unfolding refused
    show_above_lem z = stop k.0 refusal.role_missing (omega arith) (omega arith) up (above_is ∙ z)

    -- n is how many places are used, p the place of e
    module _ (low : (not x || not y) ≡ false) (n p : ℕ) (hn : n ≡ used_places (tables_of t) v) (hp : p ≡ seek e (places (tables_of t) v) n) where
      over_it : Passed refusal.level_or_roles (tables_of t) (request_of q)
      unfolding refused
      over_it = pass k.0 refusal.role_missing (omega arith) (omega arith) up (above_is ∙ low)

      room_is : show_no_room (tables_of t) (asked_of t q) ≡ (leb n p && leb place_count n)
      unfolding show_no_room
      room_is = rw (k.1.is, user_is_lem k.0, hp, hn, hv)

      pub show_full_lem : (leb n p && leb place_count n) ≡ true → Judged t q refusal.no_room t
      unfolding refused
      show_full_lem z = stop k.0 refusal.level_or_roles (omega arith) (omega arith) over_it (room_is ∙ z)

      module _ (room : (leb n p && leb place_count n) ≡ false) (a : ℕ) (ha : a ≡ (request_of q).a) (w : Bool) (hw : w ≡ labelled a) where
        roomy : Passed refusal.no_room (tables_of t) (request_of q)
        unfolding refused
        roomy = pass k.0 refusal.level_or_roles (omega arith) (omega arith) over_it (room_is ∙ room)

        bare_is : show_unlabelled (tables_of t) (asked_of t q) ≡ not w
        unfolding show_unlabelled asked
        bare_is = rw (← ha) (ap not (sym hw))

        pub show_bare : w ≡ false → Judged t q refusal.arrangement t
        unfolding refused
        show_bare z = stop k.0 refusal.no_room (omega arith) (omega arith) roomy (bare_is ∙ ap not z)

        sum_is : (asked_of t q).a ≡ a
        unfolding asked
        sum_is = sym ha

        pub show_done : (s : List ℕ) → w ≡ true → tables_of s ≡ show v e a (tables_of t) → Judged t q refusal.accepted s
        unfolding every free refused
        show_done s z y = accepted k.0 s
            (skip k.0 1 refusal.arrangement (omega arith) (omega arith)
            (pass k.0 refusal.no_room (omega arith) (omega arith) roomy (bare_is ∙ ap not z)) tt)
            (y ∙ rw (k.1.is, user_is_lem k.0, sum_is, hv))
