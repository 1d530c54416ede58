-- Document 02, M-101; rule 9.15: which request accounts for a level that has dropped. As in Theorem/Definitions, anybody's desk can be judged by it: it is
-- said of tables one after another, and of the requests and answers between them.
use Rattle.std.specs.Prelude.{◌≢◌, ◌⊎◌, ◌≡◌, ◌<◌, ◌≤◌, suc, ℕ}
use Rattle.model.specs.Level.{AtMost, Drops, downgrader}
use Rattle.model.specs.Request.Allowed.{Meant}
use Rattle.model.specs.Request.Asked.{HasRole, asked}
use Rattle.model.specs.Request.Conditions.{level_of}
use Rattle.model.specs.Request.Operations.{to_device_level, to_level}
use Rattle.model.specs.Request.Words.{Request}
use Rattle.model.specs.State.WellFormed.{Thing}
use Rattle.model.specs.Tables.Kinds.{Screen}
use Rattle.model.specs.Tables.Words.{Tables, absent_kind, devices, kinds}
use Rattle.model.specs.Request.Refusals as refusal

-- Rule 6.6: x is an object or a container, and the request asks for its level to be set; the requester has the downgrader's role now.
pub record LevelAsked (d : Tables) (q : Request) (x : ℕ) : Type 0 where
  pub thing : Thing d x
  pub asks : Meant to_level d q
  pub operand : (asked d q).first ≡ x
  pub role : HasRole d q.user downgrader

-- Rule 6.18: x is a device, and the request asks for its level to be set; the requester has the downgrader's role now, or is on that device.
pub record DeviceLevelAsked (d : Tables) (q : Request) (x : ℕ) : Type 0 where
  pub screen : Screen (kinds d x)
  pub asks : Meant to_device_level d q
  pub operand : (asked d q).first ≡ x
  pub role : HasRole d q.user downgrader ⊎ (devices d q.user ≡ x)

-- Rule 9.15: a request that may let the level of x drop.
abbrev pub MayDrop : Tables → Request → ℕ → Type 0
MayDrop d q x = LevelAsked d q x ⊎ DeviceLevelAsked d q x

-- the level of x before request i
abbrev pub level_at : (ℕ → Tables) → ℕ → ℕ → ℕ
level_at tables x i = level_of (tables i) x

-- Rule 9.15: x is there before and after each of m requests.
abbrev pub Throughout : ℕ → (ℕ → Tables) → ℕ → Type 0
Throughout m tables x = (i : ℕ) → i ≤ m → kinds (tables i) x ≢ absent_kind

-- Rule 9.15: one of m requests accounts for it that the level of x is no longer at least what it was at the start.
pub record Accounted (m : ℕ) (tables : ℕ → Tables) (requests : ℕ → Request) (answers : ℕ → ℕ) (x : ℕ) : Type 0 where
  pub moment : ℕ
  pub among : moment < m
  -- up to it the level was at least that of the start, and after it it is not
  pub until : (i : ℕ) → i ≤ moment → AtMost (level_at tables x 0) (level_at tables x i)
  pub lost : Drops (level_at tables x (suc moment)) (level_at tables x 0)
  -- by this very request it dropped
  pub drops : Drops (level_at tables x (suc moment)) (level_at tables x moment)
  -- and it was accepted, and may do that
  pub accepted : answers moment ≡ refusal.accepted
  pub by : MayDrop (tables moment) (requests moment) x

-- Rule 9.15: no level is lost over m requests but one of them accounts for it.
abbrev pub Accountable : ℕ → (ℕ → Tables) → (ℕ → Request) → (ℕ → ℕ) → Type 0
Accountable m tables requests answers =
    (x : ℕ) → Throughout m tables x → Drops (level_at tables x m) (level_at tables x 0) → Accounted m tables requests answers x
