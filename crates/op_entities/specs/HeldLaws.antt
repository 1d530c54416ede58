-- What is asked of a new level, as the functions meet it: read word by word, and answered at the first that decides.
use Rattle.std.specs.Prelude.{Bool, ◌&&◌, false, true, ◌≢◌, ◌≡◌, ◌≤◌, ℕ, ltb}
use Rattle.std.proofs.Common.{◌∙◌, sym, eq-eqb, ne_eqb}
use Rattle.model.specs.Basics.Tests.{every, imp}
use Rattle.model.specs.Level.{at_most}
use Rattle.model.specs.State.WellFormed.{WellFormed}
use Rattle.model.specs.Tables.Rows.{seek}
use Rattle.model.specs.Tables.Words.{Tables, clearance, devices, level, place_count, places, used_places}
use Rattle.op_entities.specs.Held.{container_admits, contents_stay, holders_stay, screen_admits, screens_admit}
use Rattle.rows.specs.Rows.{place_at_most}
use Rattle.standing.specs.SeenLaws.{sees_nothing, sees_shown}
use Rattle.standing.specs.Standing.{parent_in}

-- e holds n entities
pub contents_asked : (d : Tables) (e a n : ℕ) (b : Bool) → n ≡ used_places d e → b ≡ every n (place_at_most d e a) → b ≡ contents_stay d e a
unfolding contents_stay
contents_asked d e a n b ne be = be ∙ rw ne

-- ---- a screen: user u is on v

module _ (d : Tables) (w : WellFormed d) (e a u : ℕ) (low : 1 ≤ e) (v : ℕ) (ve : v ≡ devices d u) where
  -- which is nothing
  pub screen_off : v ≡ 0 → true ≡ screen_admits d e a u
  unfolding screen_admits imp
  screen_off z = rw (← sees_nothing d w u v ve e z)

  -- or a device, all of whose places were looked through
  module _ (n : v ≢ 0) (b : Bool) (be : b ≡ ltb (seek e (places d v) place_count) place_count) where
    admits_is : screen_admits d e a u ≡ imp b (at_most a (d.entity v level) && at_most a (d.user u clearance))
    unfolding screen_admits imp
    admits_is = rw (← sees_shown d w u v ve e n low b be, ve)

    -- which does not show e
    pub screen_other : b ≡ false → true ≡ screen_admits d e a u
    unfolding imp
    screen_other z = rw z at (sym admits_is)

    -- or does, and is of level l, where u is of clearance k
    pub screen_shows : b ≡ true → (l k : ℕ) (x y : Bool) → l ≡ d.entity v level → k ≡ d.user u clearance → x ≡ at_most a l → y ≡ at_most a k
        → (x && y) ≡ screen_admits d e a u
    unfolding imp
    screen_shows z l k x y le ke xe ye = rw (xe, ye, le, ke) (rw z at (sym admits_is))

-- ---- the container, h

module _ (d : Tables) (e a h : ℕ) (he : h ≡ parent_in d e) where
  -- there is none
  pub container_none : h ≡ 0 → true ≡ container_admits d e a
  unfolding container_admits imp
  container_none z = rw (eq-eqb (parent_in d e) 0 (sym he ∙ z))

  -- it is of level l
  pub container_asked : h ≢ 0 → (l : ℕ) (b : Bool) → l ≡ d.entity h level → b ≡ at_most a l → b ≡ container_admits d e a
  unfolding container_admits imp
  container_asked n l b le be = be ∙ rw (ne_eqb (parent_in d e) 0 (λ z. n (he ∙ z)), le, he)

-- ---- both

module _ (d : Tables) (e a : ℕ) (s : Bool) (se : s ≡ screens_admit d e a) where
  -- some screen does not admit it
  pub holders_screens : s ≡ false → false ≡ holders_stay d e a
  unfolding holders_stay
  holders_screens z = rw (← se, z)

  -- all do, and the container is left
  pub holders_container : s ≡ true → (b : Bool) → b ≡ container_admits d e a → b ≡ holders_stay d e a
  unfolding holders_stay
  holders_container z b be = rw (← se, z, be)
