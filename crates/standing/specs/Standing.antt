-- What stands in what, as the searches ask for it.
use Rattle.std.specs.Prelude.{Bool, ◌&&◌, not, ◌≢◌, ◌<◌, suc, ℕ, eqb, ltb}
use Rattle.model.specs.Basics.Choice.{pick}
use Rattle.model.specs.State.Check.{in_test, parent}
use Rattle.model.specs.Tables.Rows.{seek}
use Rattle.model.specs.Tables.Words.{Tables, devices, kinds, places, used_places}

-- v is of kind k, and e stands in one of its places
abbrev pub standing : Tables → ℕ → ℕ → ℕ → Bool
standing d k e v = eqb (kinds d v) k && ltb (seek e (places d v) (used_places d v)) (used_places d v)

-- the container that e stands in, or 0
abbrev pub parent_in : Tables → ℕ → ℕ
parent_in d = parent (kinds d) (used_places d) (places d)

-- none of the first i entities is a container that e stands in
abbrev pub Unheld : Tables → ℕ → ℕ → Type 0
Unheld d e i = (j : ℕ) → j < i → ◌≢◌ {A = ℕ} (pick (in_test (kinds d) (used_places d) (places d) (suc j) e) 1 0) 1

-- user u is on a device that shows e
unfoldable pub seeing : Tables → ℕ → ℕ → Bool
seeing d e u = not (eqb (devices d u) 0) && ltb (seek e (places d (devices d u)) (used_places d (devices d u))) (used_places d (devices d u))
