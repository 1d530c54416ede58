-- Document 01, "The request and its operations" and "The refusal ladder"; document 02, M-101; rules 6 and 7.4 to 7.16: what an acceptance says, rungs 4
-- to 16 as statements. `Allowed` has a record for each operation that asks more than an operand's kind.
use mathlib.Core.List.{List, Memᴰ}
use Rattle.std.specs.Prelude.{◌≢◌, ◌⊎◌, ◌≡◌, ◌<◌, ◌≤◌, ℕ, T}
use Rattle.model.specs.Effect.Places.{draft_sort, leave, object_sort, vacant}
use Rattle.model.specs.Effect.Screens.{spot}
use Rattle.model.specs.Level.{AtMost, Drops, Subset, downgrader, level_count, officer, releasing, role_count, role_sets}
use Rattle.model.specs.Request.Asked.{Asked, HasRole, asked, basis_of, named_triple, operand, own}
use Rattle.model.specs.Request.Conditions.{level_of}
use Rattle.model.specs.Request.Form.{Between, Fits, Names, taken}
use Rattle.model.specs.Request.Operations.{Op, clearance_effect, level_effect, number_of, to_acknowledge, to_authorised}
use Rattle.model.specs.Request.Operations.{to_clear, to_clearance, to_copy, to_create, to_current, to_delete, to_device_level, to_edit}
use Rattle.model.specs.Request.Operations.{to_grant, to_level, to_login, to_logout, to_mark, to_maximum, to_move, to_release, to_revoke}
use Rattle.model.specs.Request.Operations.{to_show}
use Rattle.model.specs.Request.Words.{Request}
use Rattle.model.specs.State.Depth.{Within}
use Rattle.model.specs.State.Secure.{Secure, labelled}
use Rattle.model.specs.State.WellFormed.{GoodTriple, Holds, InTables, Thing}
use Rattle.model.specs.Tables.Kinds.{Screen, Terminal}
use Rattle.model.specs.Tables.Rows.{Member, seek}
use Rattle.model.specs.Tables.Words.{Tables, authorised, clearance, container_kind, current, devices, draft_type, entity_count, held}
use Rattle.model.specs.Tables.Words.{kinds, level, mark, missed, object_kind, place_count, present, released_type, sum_most, triple_of}
use Rattle.model.specs.Tables.Words.{triples, type, used_places, user_count, who_role}

-- Rule 7.4: the requester is one of the users that are there.
pub record Known (d : Tables) (u : ℕ) : Type 0 where
  pub low : 1 ≤ u
  pub high : u ≤ user_count
  pub there : d.user u present ≢ 0

-- k is the position of an operand that the operation takes
abbrev pub Operand : Op → ℕ → Type 0
Operand o k = (1 ≤ k) × (k ≤ taken o)

-- Rules 7.4, 7.5 and 7.7: a request that means something in these tables, by the operation o.
pub record Meant (o : Op) (d : Tables) (q : Request) : Type 0 where
  pub known : Known d q.user
  pub named : Names q o
  pub fitting : Fits o q
  pub leading : (k : ℕ) → Operand o k → operand (asked d q) k ≢ 0

-- Rule 7.8: a triple of e names the user, or a role that the user has now, for this operation and position.
abbrev pub Permitted : Tables → ℕ → ℕ → ℕ → ℕ → Type 0
Permitted d u o k e = Member (triples d e) place_count (triple_of u o k)
    ⊎ ((r : ℕ) × (r < role_count) × HasRole d u r × Member (triples d e) place_count (triple_of (who_role r) o k))

-- Rule 7.9: every marked entity on the way is at most the user's clearance.
abbrev pub Open : Tables → ℕ → List ℕ → Type 0
Open d u way = (y : ℕ) → Memᴰ y way → d.entity y mark ≢ 0 → AtMost (d.entity y level) (d.user u clearance)

-- Rule 7.6: a login and an acknowledgement alone ask for no device.
abbrev pub WantsDevice : Op → Type 0
WantsDevice o = (o ≡ to_login → ⊥) × (o ≡ to_acknowledge → ⊥)

abbrev pub On : Op → Tables → ℕ → Type 0
On o d u = WantsDevice o → devices d u ≢ 0

-- Rule 6.1.
pub record MayCreate (s : Asked) (d : Tables) : Type 0 where
  pub box : kinds d s.first ≡ container_kind
  pub sort : Between object_sort draft_sort s.a
  pub level_in : s.b < level_count
  pub low : AtMost s.b (level_of d s.first)
  pub number : vacant d ≤ entity_count
  pub room : used_places d s.first < place_count

-- Rule 6.2.
pub record MayDelete (s : Asked) (d : Tables) : Type 0 where
  pub thing : Thing d s.first
  pub empty : used_places d s.first ≡ 0
  pub unseen : (x : ℕ) → Screen (kinds d x) → Holds d x s.first → ⊥
  pub kept : d.entity s.first type ≢ released_type

-- Rule 6.3.
pub record MayMove (s : Asked) (d : Tables) : Type 0 where
  pub thing : Thing d s.first
  pub box : kinds d s.second ≡ container_kind
  pub low : AtMost (level_of d s.first) (level_of d s.second)
  pub room : used_places (leave s.first d) s.second < place_count
  pub apart : Within (InTables d) s.second s.first → ⊥

-- Rule 6.5.
pub record MayCopy (s : Asked) (d : Tables) : Type 0 where
  pub thing : Thing d s.first
  pub thing₂ : Thing d s.second
  pub low : AtMost (level_of d s.first) (level_of d s.second)

-- Rule 6.6.
pub record MayLevel (s : Asked) (d : Tables) : Type 0 where
  pub thing : Thing d s.first
  pub level_in : s.a < level_count
  pub downgrade : Drops s.a (level_of d s.first) → HasRole d s.user downgrader
  pub secure : Secure (level_effect s d)

-- Rule 6.7.
pub record MayMark (s : Asked) (d : Tables) : Type 0 where
  pub box : kinds d s.first ≡ container_kind
  pub flag : s.a ≤ 1

-- Rules 6.8 and 6.9.
pub record MayGrant (s : Asked) (d : Tables) : Type 0 where
  pub here : object_kind ≤ kinds d s.first
  pub good : GoodTriple (named_triple s)
  pub room : seek (named_triple s) (triples d s.first) place_count ≡ place_count → seek 0 (triples d s.first) place_count < place_count

pub record MayRevoke (s : Asked) (d : Tables) : Type 0 where
  pub here : object_kind ≤ kinds d s.first
  pub good : GoodTriple (named_triple s)

-- Rule 6.10.
pub record MayShow (s : Asked) (d : Tables) : Type 0 where
  pub on : own d s ≢ 0
  pub thing : Thing d s.first
  pub sum : Between 1 sum_most s.a
  pub low : AtMost (level_of d s.first) (level_of d (own d s))
  pub clear : AtMost (level_of d s.first) (d.user s.user clearance)
  pub label : T (labelled s.a)
  pub room : used_places d (own d s) ≤ spot (own d s) s.first d → used_places d (own d s) < place_count

-- Rule 6.12.
pub record MayLogin (s : Asked) (d : Tables) : Type 0 where
  pub terminal : Terminal (kinds d s.first)
  pub off : own d s ≡ 0
  pub free : (x : ℕ) → devices d x ≢ s.first

-- Rule 6.14.
pub record MayCurrent (s : Asked) (d : Tables) : Type 0 where
  pub present : d.user s.a present ≢ 0
  pub roles_in : s.b < role_sets
  pub off : devices d s.a ≡ 0 → s.b ≡ 0
  pub officer : s.a ≢ s.user → HasRole d s.user officer
  pub authorised : Subset role_count s.b (d.user s.a authorised)

-- Rule 6.15.
pub record MayClearance (s : Asked) (d : Tables) : Type 0 where
  pub present : d.user s.a present ≢ 0
  pub level_in : s.b < level_count
  pub officer : HasRole d s.user officer
  pub secure : Secure (clearance_effect s d)

-- Rule 6.16.
pub record MayAuthorised (s : Asked) (d : Tables) : Type 0 where
  pub present : d.user s.a present ≢ 0
  pub roles_in : s.b < role_sets
  pub officer : HasRole d s.user officer
  pub within : Subset role_count (d.user s.a current) s.b

-- Rule 6.17.
pub record MayMaximum (s : Asked) (d : Tables) : Type 0 where
  pub screen : Screen (kinds d s.first)
  pub level_in : s.a < level_count
  pub officer : HasRole d s.user officer
  pub low : AtMost (level_of d s.first) s.a

-- Rule 6.18.
pub record MayDeviceLevel (s : Asked) (d : Tables) : Type 0 where
  pub screen : Screen (kinds d s.first)
  pub level_in : s.a < level_count
  pub downgrade : Drops s.a (level_of d s.first) → s.first ≢ own d s → HasRole d s.user downgrader
  pub secure : Secure (level_effect s d)

-- Rule 6.19.
pub record MayRelease (s : Asked) (d : Tables) : Type 0 where
  pub box : kinds d s.first ≡ container_kind
  pub draft : d.entity s.first type ≡ draft_type
  pub releaser : HasRole d s.user releasing

-- Rule 6.20.
pub record MayAcknowledge (s : Asked) (d : Tables) : Type 0 where
  pub holding : d.user s.user held ≢ 0
  pub refusal : s.a ≡ d.user s.user held
  pub missed : s.b ≡ d.user s.user missed

abbrev pub Allowed : Op → Asked → Tables → Type 0
Allowed to_create s d = MayCreate s d
Allowed to_delete s d = MayDelete s d
Allowed to_move s d = MayMove s d
Allowed to_edit s d = Thing d s.first
Allowed to_copy s d = MayCopy s d
Allowed to_level s d = MayLevel s d
Allowed to_mark s d = MayMark s d
Allowed to_grant s d = MayGrant s d
Allowed to_revoke s d = MayRevoke s d
Allowed to_show s d = MayShow s d
Allowed to_clear s d = own d s ≢ 0
Allowed to_login s d = MayLogin s d
Allowed to_logout s d = own d s ≢ 0
Allowed to_current s d = MayCurrent s d
Allowed to_clearance s d = MayClearance s d
Allowed to_authorised s d = MayAuthorised s d
Allowed to_maximum s d = MayMaximum s d
Allowed to_device_level s d = MayDeviceLevel s d
Allowed to_release s d = MayRelease s d
Allowed to_acknowledge s d = MayAcknowledge s d

-- All that an answer 0 gives of a request by the operation o.
pub record Accepted (o : Op) (d : Tables) (q : Request) : Type 0 where
  pub meant : Meant o d q
  pub on : On o d q.user
  pub permitted : (k : ℕ) → Operand o k → Permitted d q.user (number_of o) k (operand (asked d q) k)
  pub cleared : (k : ℕ) → Operand o k → Open d q.user (basis_of (asked d q) k)
  pub allowed : Allowed o (asked d q) d
