-- Document 01, its opening and "The request and its operations"; rules 6.2, 6.19 and 8.7: what this desk keeps beyond Definition 11, of created and
-- deleted numbers too, and what no request changes.
use Rattle.std.specs.Prelude.{◌↔◌, ◌≢◌, ◌⊎◌, ◌≡◌, ℕ}
use Rattle.model.specs.Request.Words.{Request}
use Rattle.model.specs.Tables.Words.{Tables, absent_kind, device_kind, kinds, present, released_type, releaser, type}
use Rattle.model.specs.Theorem.Definitions.{Released}

-- Rule 6.19: what is released afterwards was so before, or was made so by a release of that very draft; a number newly given is no exception.
abbrev pub OnlyReleased : Tables → Request → Tables → Type 0
OnlyReleased d q d' = (x : ℕ) → d'.entity x type ≡ released_type → (d.entity x type ≡ released_type) ⊎ Released d q d' x

-- the number x is there, is released, and has the releaser that it had
pub record StillReleased (d d' : Tables) (x : ℕ) : Type 0 where
  pub there : kinds d' x ≢ absent_kind
  pub released : d'.entity x type ≡ released_type
  pub releaser : d'.entity x releaser ≡ d.entity x releaser

-- Rules 6.2 and 6.19: nothing released is deleted, made a draft again, or given another releaser.
abbrev pub ReleasedStays : Tables → Tables → Type 0
ReleasedStays d d' = (x : ℕ) → d.entity x type ≡ released_type → StillReleased d d' x

-- Rule 8.7: the same users are there.
abbrev pub SameUsers : Tables → Tables → Type 0
SameUsers d d' = (u : ℕ) → d'.user u present ≡ d.user u present

-- Rule 8.7: the same numbers are devices.
abbrev pub SameDevices : Tables → Tables → Type 0
SameDevices d d' = (x : ℕ) → (kinds d' x ≡ device_kind) ↔ (kinds d x ≡ device_kind)
