-- Rule 6.18: a level of a device keeps the tables secure exactly where all that it shows is at most that, and it at most the maximum.
use Rattle.std.specs.Prelude.{Bool, ◌&&◌, false, true, ◌≡◌, ◌<◌, ◌≤◌, ℕ, eqb}
use Rattle.std.proofs.Math.Bool.{and_comm, and-true}
use Rattle.std.proofs.Common.{◌∙◌, ap, ap₂, sym}
use borrow.Author.Tests.{eq-eqb}
use Rattle.model.specs.Basics.TestLaws.{every_same, holds_true}
use Rattle.model.specs.Basics.Tests.{every, imp}
use Rattle.model.specs.Effect.Words.{set_level}
use Rattle.model.specs.Level.{at_most}
use Rattle.model.specs.State.Check.{secure_test}
use Rattle.model.specs.State.Secure.{Good, labelled}
use Rattle.model.specs.Tables.Words.{Tables, used_places, device_kind, entity_count, kinds, level, maximum}
use Rattle.model.specs.Tables.Words.{places, sums}
use Rattle.rows.specs.Rows.{place_at_most}
use Rattle.secure.specs.Secured.{place_secure}
use Rattle.secure.specs.ReachLaws.{held_level, here, level_own, used}
use Rattle.secure.specs.SecureLaws.{entity_secure_lem}

module _ (d : Tables) (g : Good d) where
  module _ (e a : ℕ) (k : kinds d e ≡ device_kind) where
    -- what a device shows with its value has its label already
    place_device : (i : ℕ) → i < used_places d e → place_at_most d e a i ≡ place_secure (set_level e a d) e i
    unfolding place_secure place_at_most imp
    place_device i h = rw (
      held_level d g e a k e i h,
      here e a (d.entity e level),
      eq-eqb (kinds d e) device_kind k,
      holds_true (labelled (sums d e i)) (g.1.value_labelled e i k h),
    ) (sym (and-true (at_most (d.entity (places d e i) level) a)))

    ceiling_device : at_most a (d.entity e maximum) ≡ imp (eqb (kinds d e) device_kind) (at_most ((set_level e a d).entity e level) (d.entity e maximum))
    unfolding imp
    ceiling_device = rw (eq-eqb (kinds d e) device_kind k, here e a (d.entity e level))

    -- all that a device shows is at most its level, and that at most its maximum
    device_level_is : 1 ≤ e → e ≤ entity_count → (every (used_places d e) (place_at_most d e a) && at_most a (d.entity e maximum)) ≡ secure_test
        (set_level e a d)
    device_level_is low high = ap₂ ◌&&◌ (every_same (used_places d e) (place_at_most d e a) (place_secure (set_level e a d) e) place_device
        ∙ ap (λ (n : ℕ). every n (place_secure (set_level e a d) e)) (used d g e)) ceiling_device
        ∙ entity_secure_lem (set_level e a d) e ∙ sym (level_own d g e a k low high)

    -- x is its maximum
    module _ (low : 1 ≤ e) (high : e ≤ entity_count) (x : ℕ) (xe : x ≡ d.entity e maximum) (m : Bool) (me : m ≡ at_most a x) where
      from_maximum : (m && every (used_places d e) (place_at_most d e a)) ≡ secure_test (set_level e a d)
      from_maximum = rw (me, xe) (and_comm (at_most a (d.entity e maximum)) (every (used_places d e) (place_at_most d e a)) ∙ device_level_is low high)

      -- the level is above it
      pub device_above_lem : m ≡ false → false ≡ secure_test (set_level e a d)
      device_above_lem z = rw z at from_maximum

      -- it is not, and all that is shown, n entities, is left
      pub device_shows : m ≡ true → (n : ℕ) (b : Bool) → n ≡ used_places d e → b ≡ every n (place_at_most d e a) → b ≡ secure_test (set_level e a d)
      device_shows z n b ne be = be ∙ rw ne (rw z at from_maximum)
