-- Document 01, "The request and its operations"; rules 6.1 to 6.20 and 8.4: the values that an accepted operation leaves in the words of its rule,
-- for each of the twenty. Said of the tables before and after alone, with rows read as lists, and by none of the edits that the effects are made of.
use mathlib.Core.List.{List, Memᴰ, [], ◌++◌, ◌∷◌}
use Rattle.std.specs.Prelude.{◌≢◌, ◌≡◌, ◌<◌, ◌≤◌, ℕ}
use Rattle.model.specs.Effect.Places.{draft_sort, object_sort}
use Rattle.model.specs.Request.Asked.{Asked, named_triple, own}
use Rattle.model.specs.Request.Operations.{Op, to_acknowledge, to_authorised, to_clear, to_clearance, to_copy, to_create, to_current}
use Rattle.model.specs.Request.Operations.{to_delete, to_device_level, to_edit, to_grant, to_level, to_login, to_logout, to_mark, to_maximum}
use Rattle.model.specs.Request.Operations.{to_move, to_release, to_revoke, to_show}
use Rattle.model.specs.State.WellFormed.{WellFormed}
use Rattle.model.specs.Tables.Contents.{TakenOut, access_list, content_sums, contents}
use Rattle.model.specs.Tables.Words.{EntityWord, Tables, absent_kind, authorised, clearance, container_kind, current, device, draft_type}
use Rattle.model.specs.Tables.Words.{entity_count, held, held_op, kinds, level, mark, maximum, missed, object_kind, places, plain_type}
use Rattle.model.specs.Tables.Words.{released_type, releaser, sums, triples, type, used_places, value}
use Rattle.model.specs.Theorem.MayChange.{Frame}

-- Rule 6.1: the sort 2 of a new entity; 1 and 3 have their names in Effect/Places.
abbrev pub container_sort : ℕ
container_sort = 2

-- Rule 6.1: a new record, last in the container that is the first operand.
pub record HasCreated (s : Asked) (d d' : Tables) : Type 0 where
  -- rule 6.1: the number of the new record
  pub new : ℕ
  -- rule 2.1: entities are numbered from 1 on,
  pub low : 1 ≤ new
  -- rule 2.1: and there are sixty-four
  pub high : new ≤ entity_count
  -- rule 6.1: nothing had the number before
  pub absent : kinds d new ≡ absent_kind
  -- rule 6.1: something had every lower number
  pub lowest : (x : ℕ) → 1 ≤ x → x < new → kinds d x ≢ absent_kind
  -- rule 6.1: sort 1 is an object, of plain type
  pub object : s.a ≡ object_sort → (kinds d' new ≡ object_kind) × (d'.entity new type ≡ plain_type)
  -- rule 6.1: sort 2 is a container of plain type
  pub container : s.a ≡ container_sort → (kinds d' new ≡ container_kind) × (d'.entity new type ≡ plain_type)
  -- rule 6.1: sort 3 is a container that is a draft
  pub draft : s.a ≡ draft_sort → (kinds d' new ≡ container_kind) × (d'.entity new type ≡ draft_type)
  -- rule 6.1: its level is b
  pub levelled : d'.entity new level ≡ s.b
  -- rule 6.1: its triples are those of the container, word for word
  pub access : (i : ℕ) → triples d' new i ≡ triples d s.first i
  -- rule 6.1: it has no mark, whatever the container has
  pub unmarked : d'.entity new mark ≡ 0
  -- rule 6.1: its value is zero
  pub valueless : d'.entity new value ≡ 0
  -- rule 6.1: it has no releaser
  pub unreleased : d'.entity new releaser ≡ 0
  -- rule 6.1: its maximum is zero
  pub unlimited : d'.entity new maximum ≡ 0
  -- rule 6.1: none of its places is used
  pub empty : used_places d' new ≡ 0
  -- rule 6.1: every place of it is zero
  pub no_place : (i : ℕ) → places d' new i ≡ 0
  -- rule 6.1: every sum of it is zero
  pub no_sum : (i : ℕ) → sums d' new i ≡ 0
  -- rule 6.1: it stands in the container behind all that stood there
  pub last : contents d' s.first ≡ contents d s.first ++ (new ∷ [])
  -- rule 3.12: its sum there is 0, like those of the others
  pub unshown : (i : ℕ) → sums d' s.first i ≡ 0

-- Rule 6.2: the entity is gone.
pub record HasDeleted (s : Asked) (d d' : Tables) : Type 0 where
  -- rule 6.2: every word of its record is zero
  pub zeroed : (f : EntityWord) → d'.entity s.first f ≡ 0
  -- rule 6.2: the container that held it has closed up; the others are as they were
  pub left : (x : ℕ) → kinds d x ≡ container_kind → TakenOut s.first (contents d x) (contents d' x)

-- Rule 6.3: the first operand stands last in the second, and in no other container.
pub record HasMoved (s : Asked) (d d' : Tables) : Type 0 where
  -- rule 6.3: the container that held it has closed up; the others are as they were
  pub left : (x : ℕ) → kinds d x ≡ container_kind → x ≢ s.second → TakenOut s.first (contents d x) (contents d' x)
  -- rule 6.3: the second operand has closed up too, if the entity stood there; then comes the entity, behind all others
  pub entered : (rest : List ℕ) × TakenOut s.first (contents d s.second) rest × (contents d' s.second ≡ rest ++ (s.first ∷ []))
  -- rule 3.12: its sum there is 0, like those of the others
  pub unshown : (i : ℕ) → sums d' s.second i ≡ 0

-- Rule 6.8: the operand has the triple.
pub record HasGranted (s : Asked) (d d' : Tables) : Type 0 where
  -- rule 6.8: a triple that is there stays where it stands
  pub again : Memᴰ (named_triple s) (access_list d s.first) → access_list d' s.first ≡ access_list d s.first
  -- rule 6.8: a new one comes behind all others
  pub last : (Memᴰ (named_triple s) (access_list d s.first) → ⊥) → access_list d' s.first ≡ access_list d s.first ++ (named_triple s ∷ [])

-- Rule 6.10: the requester's device shows the operand with the sum a.
pub record HasShown (s : Asked) (d d' : Tables) : Type 0 where
  -- rule 6.10: a device that shows it already shows the same things in the same order
  pub again : Memᴰ s.first (contents d (own d s)) → contents d' (own d s) ≡ contents d (own d s)
  -- rule 6.10: the sum at its place is a
  pub sum : (i : ℕ) → i < used_places d (own d s) → places d (own d s) i ≡ s.first → sums d' (own d s) i ≡ s.a
  -- rule 6.10: on a device that does not show it, the entity comes behind all others
  pub last : (Memᴰ s.first (contents d (own d s)) → ⊥) → contents d' (own d s) ≡ contents d (own d s) ++ (s.first ∷ [])
  -- rule 6.10: its sum a then comes behind all other sums
  pub last_sum : (Memᴰ s.first (contents d (own d s)) → ⊥) → content_sums d' (own d s) ≡ content_sums d (own d s) ++ (s.a ∷ [])
  -- rule 6.10: in both cases every other entity on the device keeps its sum
  pub others : (i : ℕ) → i < used_places d (own d s) → places d (own d s) i ≢ s.first → sums d' (own d s) i ≡ sums d (own d s) i

-- Rule 6.11: the device v shows nothing.
pub record Emptied (v : ℕ) (d' : Tables) : Type 0 where
  -- rule 6.11: no place is used
  pub none : used_places d' v ≡ 0
  -- rule 6.11: every place is zero
  pub no_place : (i : ℕ) → places d' v i ≡ 0
  -- rule 6.11: every sum is zero
  pub no_sum : (i : ℕ) → sums d' v i ≡ 0

-- Rule 6.13: the requester is off.
pub record HasLoggedOut (s : Asked) (d d' : Tables) : Type 0 where
  -- rule 6.13: the device that the requester was on shows nothing
  pub screen : Emptied (own d s) d'
  -- rule 6.13: the requester is on no device
  pub off : d'.user s.user device ≡ 0
  -- rule 6.13: the requester has no current roles
  pub no_roles : d'.user s.user current ≡ 0

-- Rule 6.19: the operand is released.
pub record HasReleased (s : Asked) (d' : Tables) : Type 0 where
  -- rule 6.19: its type says so
  pub released : d'.entity s.first type ≡ released_type
  -- rule 6.19: its releaser is the requester
  pub by : d'.entity s.first releaser ≡ s.user

-- Rule 6.20: the requester's notice is empty.
pub record HasAcknowledged (s : Asked) (d' : Tables) : Type 0 where
  -- rule 6.20: no refusal is held
  pub no_refusal : d'.user s.user held ≡ 0
  -- rule 6.20: no operation is kept with it
  pub no_operation : d'.user s.user held_op ≡ 0
  -- rule 6.20: no refusal is counted as missed
  pub none_missed : d'.user s.user missed ≡ 0

-- What the operation o has done, of what was asked, from the tables d to the tables d'.
abbrev pub Done : Op → Asked → Tables → Tables → Type 0
Done to_create s d d' = HasCreated s d d'
Done to_delete s d d' = HasDeleted s d d'
Done to_move s d d' = HasMoved s d d'
Done to_edit s d d' = d'.entity s.first value ≡ s.a
Done to_copy s d d' = d'.entity s.second value ≡ d.entity s.first value
Done to_level s d d' = d'.entity s.first level ≡ s.a
Done to_mark s d d' = d'.entity s.first mark ≡ s.a
Done to_grant s d d' = HasGranted s d d'
Done to_revoke s d d' = TakenOut (named_triple s) (access_list d s.first) (access_list d' s.first)
Done to_show s d d' = HasShown s d d'
Done to_clear s d d' = Emptied (own d s) d'
Done to_login s d d' = d'.user s.user device ≡ s.first
Done to_logout s d d' = HasLoggedOut s d d'
Done to_current s d d' = d'.user s.a current ≡ s.b
Done to_clearance s d d' = d'.user s.a clearance ≡ s.b
Done to_authorised s d d' = d'.user s.a authorised ≡ s.b
Done to_maximum s d d' = d'.entity s.first maximum ≡ s.a
Done to_device_level s d d' = d'.entity s.first level ≡ s.a
Done to_release s d d' = HasReleased s d'
Done to_acknowledge s d d' = HasAcknowledged s d'

-- All that the rules say of the tables d' after an accepted operation.
pub record Outcome (o : Op) (s : Asked) (d d' : Tables) : Type 0 where
  -- rule 3: they are well-formed
  pub well_formed : WellFormed d'
  -- rule 6: the words of the operation's rule have the values that it names
  pub done : Done o s d d'
  -- rule 8.4: every other word is as before
  pub framed : Frame o s d d'
