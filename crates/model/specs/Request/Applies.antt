-- Document 01, "The refusal ladder" and the last column of "The request and its operations"; document 02, M-101; rule 7 as statements: when each refusal
-- applies, in the words of the rules. No rung, no condition and no row of the table of operations is in it. Theorem/Stated proves that the answer is the
-- lowest number whose refusal applies, and 0 where none does.
use mathlib.Core.List.{List, Memᴰ}
use Rattle.std.specs.Prelude.{◌≢◌, ◌≡◌, ◌<◌, ◌≤◌, ℕ, eqb, length}
use Rattle.model.specs.Basics.Choice.{pick}
use Rattle.model.specs.Level.{AtMost, Bit, Drops, Subset, downgrader, officer, releasing, role_count}
use Rattle.model.specs.Request.Allowed.{Known, Operand, Permitted, WantsDevice}
use Rattle.model.specs.Request.Asked.{Asked, HasRole, asked, named_triple, own}
use Rattle.model.specs.Request.Conditions.{level_of}
use Rattle.model.specs.Request.Form.{Fits, Names}
use Rattle.model.specs.Request.Operations.{Op, number_of, to_acknowledge, to_authorised, to_clear, to_clearance, to_copy, to_create, to_current}
use Rattle.model.specs.Request.Operations.{to_delete, to_device_level, to_edit, to_grant, to_level, to_login, to_logout, to_mark, to_maximum}
use Rattle.model.specs.Request.Operations.{to_move, to_release, to_revoke, to_show}
use Rattle.model.specs.Request.Reference.{Leads}
use Rattle.model.specs.Request.Words.{Reference, Request, names, request_of, request_words}
use Rattle.model.specs.State.Depth.{Within}
use Rattle.model.specs.State.Secure.{Secure}
use Rattle.model.specs.State.WellFormed.{Holds, InTables, Thing, WellFormed}
use Rattle.model.specs.Tables.Kinds.{Screen, Terminal}
use Rattle.model.specs.Tables.Layout.{tables_of, word_count}
use Rattle.model.specs.Tables.Words.{EntityWord, Tables, UserWord, absent_kind, authorised, clearance, container_kind, current, devices}
use Rattle.model.specs.Tables.Words.{draft_type, entity_count, held, kinds, label_bit, level, mark, missed, object_kind, place_count, places, present}
use Rattle.model.specs.Tables.Words.{released_type, triples, type, value_bit}
use Rattle.model.specs.Request.Refusals as refusal

-- the reference at position 1 or 2
abbrev pub reference_of : Request → ℕ → Reference
reference_of q k = pick (eqb k 1) q.first q.second

-- Rule 5.3: the reference at position k, which the operation o takes, leads by the entities of the way to x.
pub record Refers (o : Op) (k : ℕ) (d : Tables) (q : Request) (way : List ℕ) (x : ℕ) : Type 0 where
  pub named : Names q o
  pub taken : Operand o k
  pub leads : Leads d (names (reference_of q k)) way x

-- Rule 7.7: the reference leads nowhere: by no way do its names come to an entity.
abbrev pub Nowhere : Tables → Reference → Type 0
Nowhere d r = (way : List ℕ) (x : ℕ) → Leads d (names r) way x → ⊥

-- Rule 5.5: what the operand x at position k must be.
abbrev pub Suits : Op → ℕ → Tables → ℕ → Type 0
Suits to_create k d x = kinds d x ≡ container_kind
Suits to_delete k d x = Thing d x
Suits to_move k d x = (k ≡ 1 → Thing d x) × (k ≡ 2 → kinds d x ≡ container_kind)
Suits to_edit k d x = Thing d x
Suits to_copy k d x = Thing d x
Suits to_level k d x = Thing d x
Suits to_mark k d x = kinds d x ≡ container_kind
Suits to_grant k d x = object_kind ≤ kinds d x
Suits to_revoke k d x = object_kind ≤ kinds d x
Suits to_show k d x = Thing d x
Suits to_clear k d x = Unit {0}
Suits to_login k d x = Terminal (kinds d x)
Suits to_logout k d x = Unit {0}
Suits to_current k d x = Unit {0}
Suits to_clearance k d x = Unit {0}
Suits to_authorised k d x = Unit {0}
Suits to_maximum k d x = Screen (kinds d x)
Suits to_device_level k d x = Screen (kinds d x)
Suits to_release k d x = (kinds d x ≡ container_kind) × (d.entity x type ≡ draft_type)
Suits to_acknowledge k d x = Unit {0}

-- Each of the eight places of a row is used,
abbrev pub Full : (ℕ → ℕ) → Type 0
Full row = (i : ℕ) → i < place_count → row i ≢ 0

-- and each of them by another than x.
abbrev pub EightOthers : (ℕ → ℕ) → ℕ → Type 0
EightOthers row x = (i : ℕ) → i < place_count → (row i ≢ 0) × (row i ≢ x)

-- The tables d' are d with the word f of the entity e set to v,
pub record WithEntity (e : ℕ) (f : EntityWord) (v : ℕ) (d d' : Tables) : Type 0 where
  pub set : d'.entity e f ≡ v
  pub others : (x : ℕ) (g : EntityWord) → (x ≡ e → g ≡ f → ⊥) → d'.entity x g ≡ d.entity x g
  pub users : (x : ℕ) (g : UserWord) → d'.user x g ≡ d.user x g

-- or with the word f of the user u.
pub record WithUser (u : ℕ) (f : UserWord) (v : ℕ) (d d' : Tables) : Type 0 where
  pub set : d'.user u f ≡ v
  pub others : (x : ℕ) (g : UserWord) → (x ≡ u → g ≡ f → ⊥) → d'.user x g ≡ d.user x g
  pub entities : (x : ℕ) (g : EntityWord) → d'.entity x g ≡ d.entity x g

-- Rules 6.1 to 6.20: the operations' own refusals 11 to 16, one line for each way in which one is earned.
pub data Own (s : Asked) (d : Tables) : Op → ℕ → Type 0 where
  -- create: the new level is not at most the container's; every number is taken, or every place of the container
  create_above : (AtMost s.b (level_of d s.first) → ⊥) → Own s d to_create refusal.level_or_roles
  create_number : ((e : ℕ) → 1 ≤ e → e ≤ entity_count → kinds d e ≢ absent_kind) → Own s d to_create refusal.no_room
  create_place : Full (places d s.first) → Own s d to_create refusal.no_room
  -- delete: it holds something, a screen shows it, or it is released
  delete_filled : (c : ℕ) → Holds d s.first c → Own s d to_delete refusal.arrangement
  delete_shown : (v : ℕ) → Screen (kinds d v) → Holds d v s.first → Own s d to_delete refusal.arrangement
  delete_released : d.entity s.first type ≡ released_type → Own s d to_delete refusal.arrangement
  -- move: its level is not at most the container's; eight others stand there; the container is it, or lies in it
  move_above : (AtMost (level_of d s.first) (level_of d s.second) → ⊥) → Own s d to_move refusal.level_or_roles
  move_full : EightOthers (places d s.second) s.first → Own s d to_move refusal.no_room
  move_inside : Within (InTables d) s.second s.first → Own s d to_move refusal.arrangement
  -- copy: the first's level is not at most the second's
  copy_above : (AtMost (level_of d s.first) (level_of d s.second) → ⊥) → Own s d to_copy refusal.level_or_roles
  -- level: it drops, by no downgrader; the tables with that level are not secure
  level_dropped : Drops s.a (level_of d s.first) → (HasRole d s.user downgrader → ⊥) → Own s d to_level refusal.role_missing
  level_insecure : ((d' : Tables) → WithEntity s.first level s.a d d' → Secure d' → ⊥) → Own s d to_level refusal.level_or_roles
  -- grant: eight other triples are held
  grant_full : EightOthers (triples d s.first) (named_triple s) → Own s d to_grant refusal.no_room
  -- show: its level is not at most the requester's clearance, or not at most the device's level; eight others are shown; a value without its label
  show_uncleared : (AtMost (level_of d s.first) (d.user s.user clearance) → ⊥) → Own s d to_show refusal.level_or_roles
  show_above_screen : (AtMost (level_of d s.first) (level_of d (own d s)) → ⊥) → Own s d to_show refusal.level_or_roles
  show_full : EightOthers (places d (own d s)) s.first → Own s d to_show refusal.no_room
  show_unlabelled : Bit value_bit s.a → (Bit label_bit s.a → ⊥) → Own s d to_show refusal.arrangement
  -- login: the requester is on already, or somebody is on that device
  login_on : own d s ≢ 0 → Own s d to_login refusal.arrangement
  login_occupied : (u : ℕ) → devices d u ≡ s.first → Own s d to_login refusal.arrangement
  -- current roles: user a is absent, or off and to have some; another's by no officer; not all of them authorised
  current_absent : d.user s.a present ≡ 0 → Own s d to_current refusal.no_such_user
  current_off : devices d s.a ≡ 0 → s.b ≢ 0 → Own s d to_current refusal.no_such_user
  current_anothers : s.a ≢ s.user → (HasRole d s.user officer → ⊥) → Own s d to_current refusal.role_missing
  current_unauthorised : (Subset role_count s.b (d.user s.a authorised) → ⊥) → Own s d to_current refusal.level_or_roles
  -- clearance: user a is absent; no officer; the tables with that clearance are not secure
  clearance_absent : d.user s.a present ≡ 0 → Own s d to_clearance refusal.no_such_user
  clearance_role : (HasRole d s.user officer → ⊥) → Own s d to_clearance refusal.role_missing
  clearance_insecure : ((d' : Tables) → WithUser s.a clearance s.b d d' → Secure d' → ⊥) → Own s d to_clearance refusal.level_or_roles
  -- authorised roles: user a is absent; no officer; a acts with a role that b leaves out
  authorised_absent : d.user s.a present ≡ 0 → Own s d to_authorised refusal.no_such_user
  authorised_role : (HasRole d s.user officer → ⊥) → Own s d to_authorised refusal.role_missing
  authorised_outside : (Subset role_count (d.user s.a current) s.b → ⊥) → Own s d to_authorised refusal.level_or_roles
  -- maximum: no officer; the device stands above it
  maximum_role : (HasRole d s.user officer → ⊥) → Own s d to_maximum refusal.role_missing
  maximum_above : (AtMost (level_of d s.first) s.a → ⊥) → Own s d to_maximum refusal.level_or_roles
  -- device level: it drops, on a device that is not the requester's own, by no downgrader; the tables with that level are not secure
  device_dropped : Drops s.a (level_of d s.first) → s.first ≢ own d s → (HasRole d s.user downgrader → ⊥)
      → Own s d to_device_level refusal.role_missing
  device_insecure : ((d' : Tables) → WithEntity s.first level s.a d d' → Secure d' → ⊥) → Own s d to_device_level refusal.level_or_roles
  -- release: no releaser
  release_role : (HasRole d s.user releasing → ⊥) → Own s d to_release refusal.role_missing
  -- acknowledge: nothing is held, or a is not what is held, or b is not the number missed
  acknowledge_nothing : d.user s.user held ≡ 0 → Own s d to_acknowledge refusal.not_acknowledged
  acknowledge_other : s.a ≢ d.user s.user held → Own s d to_acknowledge refusal.not_acknowledged
  acknowledge_number : s.b ≢ d.user s.user missed → Own s d to_acknowledge refusal.not_acknowledged

-- Rules 7.2 to 7.16: refusal n applies to the request q on the tables d.
pub data Applies (d : Tables) (q : Request) : ℕ → Type 0 where
  -- 2 and 3: the tables are not well-formed; they are not secure
  not_well_formed : (WellFormed d → ⊥) → Applies d q refusal.not_well_formed
  not_secure : (Secure d → ⊥) → Applies d q refusal.not_secure
  -- 4: the requester is none of the users that are there
  unknown_requester : (Known d q.user → ⊥) → Applies d q refusal.unknown_requester
  -- 5: the request fits no operation
  bad_request : ((o : Op) → Names q o → Fits o q → ⊥) → Applies d q refusal.bad_request
  -- 6: the requester is on no device, and the operation wants one
  not_logged_on : (o : Op) → Names q o → WantsDevice o → devices d q.user ≡ 0 → Applies d q refusal.not_logged_on
  -- 7: an operand's reference leads nowhere
  no_such_name : (o : Op) (k : ℕ) → Names q o → Operand o k → Nowhere d (reference_of q k) → Applies d q refusal.no_such_name
  -- 8: an operand does not permit the requester to do this with it
  no_access : (o : Op) (k x : ℕ) (way : List ℕ) → Refers o k d q way x → (Permitted d q.user (number_of o) k x → ⊥) → Applies d q refusal.no_access
  -- 9: a container on the way to an operand is marked, and its level is not at most the requester's clearance
  marked : (o : Op) (k x y : ℕ) (way : List ℕ) → Refers o k d q way x → Memᴰ y way → d.entity y mark ≢ 0
      → (AtMost (d.entity y level) (d.user q.user clearance) → ⊥) → Applies d q refusal.marked
  -- 10: an operand is not what it must be
  wrong_kind : (o : Op) (k x : ℕ) (way : List ℕ) → Refers o k d q way x → (Suits o k d x → ⊥) → Applies d q refusal.wrong_kind
  -- 11 to 16: the operation's own, of the entities that its references lead to (Request/Asked)
  own_refusal : {n : ℕ} (o : Op) → Names q o → Own (asked d q) d o n → Applies d q n

-- Rule 7.1 too: refusal n applies to any words q of a request on any words t of tables.
pub data AppliesTo (t q : List ℕ) : ℕ → Type 0 where
  bad_length : (length t ≡ word_count → length q ≡ request_words → ⊥) → AppliesTo t q refusal.bad_length
  on_tables : {n : ℕ} → Applies (tables_of t) (request_of q) n → AppliesTo t q n

-- Rule 7.0: n is the lowest number that P holds of, or 0 where it holds of none.
pub data Lowest (P : ℕ → Type 0) : ℕ → Type 0 where
  lowest : {n : ℕ} → P n → ((m : ℕ) → m < n → P m → ⊥) → Lowest P n
  none : ((m : ℕ) → P m → ⊥) → Lowest P refusal.accepted
