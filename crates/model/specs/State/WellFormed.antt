-- Document 01, "The tables"; rule 3, well-formed: a named part for each sentence. The parts are grouped by the words that they speak of, so that an
-- edit of other words leaves a group as it is, by computation. All quantify over every number: what is absent is zero.
use Rattle.std.specs.Prelude.{◌↔◌, ◌≢◌, ◌⊎◌, ◌≡◌, ◌<◌, ◌≤◌, ℕ}
use Rattle.model.specs.Level.{level_count, role_sets}
use Rattle.model.specs.State.Depth.{Inside}
use Rattle.model.specs.Tables.Kinds.{Screen, Terminal}
use Rattle.model.specs.Tables.Rows.{Member, Packed}
use Rattle.model.specs.Tables.Words.{EntityWord, Tables, UserWord, absent_kind, authorised, clearance, container_kind, current, device}
use Rattle.model.specs.Tables.Words.{device_kind, devices, entity_count, first_noticed, held, held_op, kind, kinds, last_noticed, level}
use Rattle.model.specs.Tables.Words.{mark, maximum, missed, missed_most, object_kind, operation_count, operation_in, place, places}
use Rattle.model.specs.Tables.Words.{plain_type, position_count, position_of, present, released_type, releaser, shown, spare, sum_most}
use Rattle.model.specs.Tables.Words.{triple, type, used, used_places, user_count, value, who_most, who_of}

-- Rule 3.22: what a triple may name.
pub record GoodTriple (t : ℕ) : Type 0 where
  pub who : (1 ≤ who_of t) × (who_of t ≤ who_most)
  pub operation : (1 ≤ operation_in t) × (operation_in t ≤ operation_count)
  pub position : (1 ≤ position_of t) × (position_of t ≤ position_count)

-- Words 0 to 6 of an entity: kind k, type t, level l, mark m, value v, releaser r, maximum x.
pub record Shape (k t l m v r x : ℕ) : Type 0 where
  -- rule 3.3: each word within the numbers that its layout gives; a value is any word
  pub kind_in : k ≤ device_kind
  pub type_in : t ≤ released_type
  pub level_in : l < level_count
  pub mark_in : m ≤ 1
  pub maximum_in : x < level_count
  -- rule 3.8: drafts, releases and marks are a container's
  pub typed : t ≢ plain_type → k ≡ container_kind
  pub marked : m ≢ 0 → k ≡ container_kind
  -- rule 3.9: a releaser exactly where something is released
  pub releaser_on : t ≡ released_type → (1 ≤ r) × (r ≤ user_count)
  pub releaser_off : t ≢ released_type → r ≡ 0
  -- rule 3.10: what is no screen has no maximum
  pub maximum_on : (¬ Screen k) → x ≡ 0
  -- rule 3.11: a screen has no value of its own
  pub device_value : Screen k → v ≡ 0

-- The contents of an entity of kind k, n places used, and what is shown of each.
pub record Filled (k n : ℕ) (at sum : ℕ → ℕ) : Type 0 where
  -- rule 3.4: no gap, and none twice
  pub packed : Packed at n
  -- rule 3.7: nothing stands in an object
  pub object_empty : k ≡ object_kind → n ≡ 0
  -- rule 3.12: a screen says how much it shows of each; nothing else does
  pub sums : Screen k → (i : ℕ) → i < n → (1 ≤ sum i) × (sum i ≤ sum_most)
  pub no_sums : (¬ Screen k) → (i : ℕ) → sum i ≡ 0
  pub rest_sums : (i : ℕ) → n ≤ i → sum i ≡ 0

-- Rule 3.5: n access triples, each one good.
pub record Access (n : ℕ) (at : ℕ → ℕ) : Type 0 where
  pub packed : Packed at n
  pub good : (i : ℕ) → i < n → GoodTriple (at i)

-- An entity's record by itself.
pub record EntityOk (w : EntityWord → ℕ) : Type 0 where
  -- rule 3.1: what is absent has nothing
  pub absent : w kind ≡ absent_kind → (f : EntityWord) → w f ≡ 0
  pub shape : Shape (w kind) (w type) (w level) (w mark) (w value) (w releaser) (w maximum)
  pub filled : Filled (w kind) (w used) (λ i. w (place i)) (λ i. w (shown i))
  pub access : (n : ℕ) × Access n (λ i. w (triple i))

-- A notice: the refusal held h, its operation o, the number missed n.
pub record Notice (h o n : ℕ) : Type 0 where
  -- rule 3.19: only a refusal that leaves a notice is held
  pub held_in : (h ≡ 0) ⊎ ((first_noticed ≤ h) × (h ≤ last_noticed))
  -- rule 3.2: the operation refused, or 0
  pub operation_in : o ≤ operation_count
  -- rule 3.21: the number missed has a greatest
  pub missed_in : n ≤ missed_most
  -- rule 3.20: nothing is held exactly where nothing is missed, and then there is no operation
  pub none : (h ≡ 0) ↔ (n ≡ 0)
  pub quiet : h ≡ 0 → o ≡ 0

-- A user's record by itself.
pub record UserOk (w : UserWord → ℕ) : Type 0 where
  -- rule 3.1: who is absent has nothing
  pub absent : w present ≡ 0 → (f : UserWord) → w f ≡ 0
  -- rule 3.2: each word within its numbers; that the device is 0 to 64 follows from 3.15
  pub present_in : w present ≤ 1
  pub clearance_in : w clearance < level_count
  pub authorised_in : w authorised < role_sets
  pub current_in : w current < role_sets
  pub spare_zero : (i : ℕ) → w (spare i) ≡ 0
  -- rule 3.17: who is off acts with no role
  pub off : w device ≡ 0 → w current ≡ 0
  pub notice : Notice (w held) (w held_op) (w missed)

-- c is directly in the container b
abbrev pub In : (k n : ℕ → ℕ) (at : ℕ → ℕ → ℕ) → ℕ → ℕ → Type 0
In k n at b c = (k b ≡ container_kind) × Member (at b) (n b) c

-- What one record says of another, over the columns kinds k, numbers of used places n, places at, and the users' devices dev.
pub record Linked (k n : ℕ → ℕ) (at : ℕ → ℕ → ℕ) (dev : ℕ → ℕ) : Type 0 where
  -- rule 3.6: only objects and containers stand in places
  pub contents : (e c : ℕ) → Member (at e) (n e) c → (object_kind ≤ k c) × (k c ≤ container_kind)
  -- rule 3.13: one container at most; screens do not count
  pub one_container : (c a b : ℕ) → In k n at a c → In k n at b c → a ≡ b
  -- rule 3.14: nothing lies in itself, however deep
  pub no_loop : (e : ℕ) → Inside (In k n at) e e → ⊥
  -- rule 3.15: who is on is on a terminal
  pub device_is : (u : ℕ) → dev u ≢ 0 → Terminal (k (dev u))
  -- rule 3.16: one user to a terminal; 0 is none
  pub one_user : (u v : ℕ) → dev u ≢ 0 → dev u ≡ dev v → u ≡ v
  -- rule 3.18: a terminal without a user shows nothing
  pub idle : (e : ℕ) → Terminal (k e) → ((u : ℕ) → dev u ≢ e) → n e ≡ 0

abbrev pub Links : Tables → Type 0
Links d = Linked (kinds d) (used_places d) (places d) (devices d)

-- c stands in a used place of e: in a container, or on a screen
abbrev pub Holds : Tables → ℕ → ℕ → Type 0
Holds d e c = Member (places d e) (used_places d e) c

-- e directly in a container, of given tables
abbrev pub InTables : Tables → ℕ → ℕ → Type 0
InTables d = In (kinds d) (used_places d) (places d)

-- rule 5.5: e is an object or a container
abbrev pub Thing : Tables → ℕ → Type 0
Thing d e = (object_kind ≤ kinds d e) × (kinds d e ≤ container_kind)

pub record WellFormed (d : Tables) : Type 0 where
  -- rule 2.1: only these numbers are present
  pub user_numbers : (u : ℕ) → d.user u present ≢ 0 → (1 ≤ u) × (u ≤ user_count)
  pub entity_numbers : (e : ℕ) → d.entity e kind ≢ absent_kind → (1 ≤ e) × (e ≤ entity_count)
  pub users : (u : ℕ) → UserOk (d.user u)
  pub entities : (e : ℕ) → EntityOk (d.entity e)
  pub links : Links d
