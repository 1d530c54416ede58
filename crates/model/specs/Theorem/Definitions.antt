-- Document 01, "How the definitions are read"; document 02, M-101; rules 9.3 to 9.14: Definitions 3 to 14 of the model, as predicates of the tables
-- before, a request and the tables after. They say nothing of this desk's answer: anybody's desk can be judged by them.
use Rattle.std.specs.Prelude.{Bool, ◌&&◌, ◌≢◌, ◌⊎◌, ◌≡◌, ◌<◌, suc, ℕ, T, leb}
use Rattle.model.specs.Level.{AtMost, Drops, Lower, bit, downgrader, officer, releasing}
use Rattle.model.specs.Request.Allowed.{Meant, Open, Operand, Permitted}
use Rattle.model.specs.Request.Asked.{Asked, HasRole, asked, basis_of, operand, own}
use Rattle.model.specs.Request.Conditions.{level_of}
use Rattle.model.specs.Request.Operations.{Op, number_of, to_copy, to_release, to_show}
use Rattle.model.specs.Request.Words.{Request}
use Rattle.model.specs.State.Secure.{Good}
use Rattle.model.specs.Tables.Kinds.{Screen}
use Rattle.model.specs.Tables.Layout.{Bounded}
use Rattle.model.specs.Tables.Words.{EntityWord, Tables, UserWord, absent_kind, authorised, clearance, current, devices, draft_type}
use Rattle.model.specs.Tables.Words.{held, id_bit, kinds, maximum, missed, places, released_type, releaser, sums, type, used_places}
use Rattle.model.specs.Tables.Words.{user_tag}

-- Definition 3 (rule 9.3): a desk is a transform of tables by requests, and the tables that it starts with.
abbrev pub Transform : Type 0
Transform = Tables → Request → Tables

-- Definition 4 (rule 9.4): a history pairs each moment with the tables that stand and the request that is put to them.
pub record History (T : Transform) (start : Tables) (tables : ℕ → Tables) (requests : ℕ → Request) : Type 0 where
  pub starts : tables 0 ≡ start
  pub goes_on : (n : ℕ) → tables (suc n) ≡ T (tables n) (requests n)

-- Rule 9: the numbers that rules 9.6 and 9.8 to 9.11 run over are present before and after.
abbrev pub Both : Tables → Tables → ℕ → Type 0
Both d d' x = (kinds d x ≢ absent_kind) × (kinds d' x ≢ absent_kind)

-- the words of a user that a notice is kept in
abbrev pub notice_word : UserWord → Bool
notice_word f = leb (user_tag held) (user_tag f) && leb (user_tag f) (user_tag missed)

-- Nothing but the requester's notice has changed.
pub record Quiet (d : Tables) (u : ℕ) (d' : Tables) : Type 0 where
  pub users : (x : ℕ) (f : UserWord) → (x ≡ u → T (notice_word f) → ⊥) → d'.user x f ≡ d.user x f
  pub entities : (x : ℕ) (f : EntityWord) → d'.entity x f ≡ d.entity x f

-- Definition 5 (rule 9.5): each operand's triples allow the requester, by name or by a current role, this operation at this position;
-- or nothing has changed but the notice.
abbrev pub AccessSecure : Tables → Request → Tables → Type 0
AccessSecure d q d' = Quiet d q.user d'
    ⊎ ((o : Op) × Meant o d q × ((k : ℕ) → Operand o k → Permitted d q.user (number_of o) k (operand (asked d q) k)))

-- Definition 6 (rule 9.6): the flows are copy, from the first operand to the second, and show, from the entity to the requester's device.
pub record Flows (o : Op) (s : Asked) (d d' : Tables) : Type 0 where
  pub copied : o ≡ to_copy → Both d d' s.first → Both d d' s.second → AtMost (level_of d s.first) (level_of d s.second)
  pub screen : o ≡ to_show → own d s ≢ 0
  pub shown : o ≡ to_show → Both d d' s.first → Both d d' (own d s) → AtMost (level_of d s.first) (level_of d (own d s))

abbrev pub CopySecure : Tables → Request → Tables → Type 0
CopySecure d q d' = Quiet d q.user d' ⊎ ((o : Op) × Meant o d q × Flows o (asked d q) d d')

-- Definition 7 (rule 9.7): every marked container that an operand's reference is based on is at most the requester's clearance.
abbrev pub CcrSecure : Tables → Request → Tables → Type 0
CcrSecure d q d' = Quiet d q.user d'
    ⊎ ((o : Op) × Meant o d q × ((k : ℕ) → Operand o k → Open d q.user (basis_of (asked d q) k)))

-- the screen v shows the ID of x
abbrev pub ShowsId : Tables → ℕ → ℕ → Type 0
ShowsId d v x = (Screen (kinds d v)) × ((i : ℕ) × (i < used_places d v) × (places d v i ≡ x) × T (bit id_bit (sums d v i)))

-- the request names x by a reference that passes no marked container above the requester's clearance
abbrev pub NamedOpenly : Tables → Request → ℕ → Type 0
NamedOpenly d q x = (o : Op) × Meant o d q × ((k : ℕ) × Operand o k × (operand (asked d q) k ≡ x) × Open d q.user (basis_of (asked d q) k))

-- Definition 8 (rule 9.8): an ID that the requester's device shows afterwards, and did not show before, is one that the request names
-- openly; a requester who is on another device than before had that one before.
abbrev pub TranslationSecure : Tables → Request → Tables → Type 0
TranslationSecure d q d' = (x : ℕ) → Both d d' x → ShowsId d' (devices d' q.user) x → ShowsId d (devices d q.user) x ⊎ NamedOpenly d q x

-- Definition 9 (rule 9.9): maxima, clearances and authorised roles are set by the officer only, current roles by the user or the officer.
pub record SetSecure (d : Tables) (q : Request) (d' : Tables) : Type 0 where
  pub maximum : (x : ℕ) → Both d d' x → d'.entity x maximum ≢ d.entity x maximum → HasRole d q.user officer
  pub clearance : (x : ℕ) → d'.user x clearance ≢ d.user x clearance → HasRole d q.user officer
  pub authorised : (x : ℕ) → d'.user x authorised ≢ d.user x authorised → HasRole d q.user officer
  pub current : (x : ℕ) → d'.user x current ≢ d.user x current → (x ≡ q.user) ⊎ HasRole d q.user officer

-- Definition 10 (rule 9.10): a level that drops wants the downgrader, but on the requester's own device.
abbrev pub DowngradeSecure : Tables → Request → Tables → Type 0
DowngradeSecure d q d' = (x : ℕ) → Both d d' x → x ≢ devices d q.user → Drops (level_of d' x) (level_of d x) → HasRole d q.user downgrader

-- Definition 10 as the paper has it (rule 9.10): only a strictly lower level wants the downgrader. No rule of this desk asks it; that whoever obeys the
-- one above obeys it too is DefinitionLaws: `downgrade_stricter`.
abbrev pub PaperDowngradeSecure : Tables → Request → Tables → Type 0
PaperDowngradeSecure d q d' = (x : ℕ) → Both d d' x → x ≢ devices d q.user → Lower (level_of d' x) (level_of d x) → HasRole d q.user downgrader

-- Definition 11 (rule 9.11): x was made a released message by a release of x, by the requester, who is its releaser and has the role.
pub record Released (d : Tables) (q : Request) (d' : Tables) (x : ℕ) : Type 0 where
  pub releaser : d'.entity x releaser ≡ q.user
  pub asks : Meant to_release d q
  pub operand : (asked d q).first ≡ x
  pub role : HasRole d q.user releasing
  pub draft : d.entity x type ≡ draft_type

-- What is released stays so, with its releaser; what becomes released does so by a release.
pub record ReleaseSecure (d : Tables) (q : Request) (d' : Tables) : Type 0 where
  pub stays : (x : ℕ) → Both d d' x → d.entity x type ≡ released_type
      → (d'.entity x type ≡ released_type) × (d'.entity x releaser ≡ d.entity x releaser)
  pub becomes : (x : ℕ) → Both d d' x → d.entity x type ≢ released_type → d'.entity x type ≡ released_type → Released d q d' x

-- all seven
pub record Obeys (d : Tables) (q : Request) (d' : Tables) : Type 0 where
  pub access : AccessSecure d q d'
  pub copy : CopySecure d q d'
  pub ccr : CcrSecure d q d'
  pub translation : TranslationSecure d q d'
  pub setting : SetSecure d q d'
  pub downgrade : DowngradeSecure d q d'
  pub release : ReleaseSecure d q d'

-- Definition 12 (rule 9.12), of all tables that words can give.
abbrev pub TransformSecure : Transform → Type 0
TransformSecure T = (d : Tables) → Bounded d → (q : Request) → Obeys d q (T d q)

-- Definition 13 (rule 9.13): every state is secure, and so is the transform. State secure is well-formed and Definition 2.
pub record HistorySecure (T : Transform) (tables : ℕ → Tables) : Type 0 where
  pub states : (n : ℕ) → Good (tables n)
  pub transform : TransformSecure T

-- Definition 14 (rule 9.14): each of its histories is secure.
abbrev pub SystemSecure : Transform → Tables → Type 0
SystemSecure T start = (tables : ℕ → Tables) (requests : ℕ → Request) → History T start tables requests → HistorySecure T tables
