-- Rule 6.6: what is asked of a new level a of an object or container e. What e holds must be at most a, and what holds or shows e, and who sees it
-- there, at least a.
use Rattle.std.specs.Prelude.{Bool, ◌&&◌, not, suc, ℕ, eqb}
use Rattle.model.specs.Basics.Tests.{every, imp}
use Rattle.model.specs.Level.{at_most}
use Rattle.model.specs.Tables.Words.{Tables, clearance, devices, level, used_places, user_count}
use Rattle.rows.specs.Rows.{place_at_most}
use Rattle.standing.specs.Standing.{parent_in, seeing}

-- all that stands in e is at most a
unfoldable pub contents_stay : Tables → (e a : ℕ) → Bool
contents_stay d e a = every (used_places d e) (place_at_most d e a)

-- where user u is on a device that shows e, both the device and the clearance of u are at least a
unfoldable pub screen_admits : Tables → (e a u : ℕ) → Bool
screen_admits d e a u = imp (seeing d e u) (at_most a (d.entity (devices d u) level) && at_most a (d.user u clearance))

-- so of every user
unfoldable pub screens_admit : Tables → (e a : ℕ) → Bool
screens_admit d e a = every user_count (λ u. screen_admits d e a (suc u))

-- where e stands in a container, that is at least a
unfoldable pub container_admits : Tables → (e a : ℕ) → Bool
container_admits d e a = imp (not (eqb (parent_in d e) 0)) (at_most a (d.entity (parent_in d e) level))

-- the screens and the container
unfoldable pub holders_stay : Tables → (e a : ℕ) → Bool
holders_stay d e a = screens_admit d e a && container_admits d e a
