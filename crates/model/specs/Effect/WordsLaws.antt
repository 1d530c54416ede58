-- The effects on single words keep tables well-formed and secure: everything but those words is as it was, by computation.
use Rattle.std.specs.Prelude.{◌≢◌, ◌≡◌, ◌<◌, ◌≤◌, ℕ, eqb}
use Rattle.std.proofs.Common.{inl, arith}
use Rattle.model.specs.Basics.Choice.{pick}
use Rattle.model.specs.Effect.Words.{acknowledge, edit, quieting, release, set_authorised, set_clearance, set_current, set_level, set_mark}
use Rattle.model.specs.Effect.Words.{set_maximum}
use Rattle.model.specs.Level.{AtMost, Subset, level_count, role_count, role_sets}
use Rattle.model.specs.State.Secure.{Secure}
use Rattle.model.specs.State.WellFormed.{EntityOk, Thing, UserOk, WellFormed}
use Rattle.model.specs.Tables.EditLaws.{case, each}
use Rattle.model.specs.Tables.Edits.{◌and◌, user_word, word, written}
use Rattle.model.specs.Tables.Kinds.{Screen}
use Rattle.model.specs.Tables.Words.{Tables, authorised, clearance, container_kind, current, device, kind, level, mark, maximum}
use Rattle.model.specs.Tables.Words.{present, released_type, releaser, type, user_count, value}

module _ (d : Tables) (w : WellFormed d) where
  -- 4 edit
  edit_ok : (e v : ℕ) → Thing d e → EntityOk (d.entity e) → EntityOk (written (word value v) (d.entity e))
  edit_ok e v t o = search arith

  pub edit_well_formed : (e v : ℕ) → Thing d e → WellFormed (edit e v d)
  edit_well_formed e v t = let n = each EntityOk (word value v) e d.entity w.entities (edit_ok e v t (w.entities e)) in search

  -- 6 and 18 level: the new state is tested
  level_ok : (e v : ℕ) → 1 ≤ d.entity e kind → v < level_count → EntityOk (d.entity e) → EntityOk (written (word level v) (d.entity e))
  level_ok e v t h o = search arith

  pub level_well_formed : (e v : ℕ) → 1 ≤ d.entity e kind → v < level_count → WellFormed (set_level e v d)
  level_well_formed e v t h = let n = each EntityOk (word level v) e d.entity w.entities (level_ok e v t h (w.entities e)) in search

  -- 7 mark
  mark_ok : (e v : ℕ) → d.entity e kind ≡ container_kind → v ≤ 1 → EntityOk (d.entity e) → EntityOk (written (word mark v) (d.entity e))
  mark_ok e v t h o = search arith

  pub mark_well_formed : (e v : ℕ) → d.entity e kind ≡ container_kind → v ≤ 1 → WellFormed (set_mark e v d)
  mark_well_formed e v t h = let n = each EntityOk (word mark v) e d.entity w.entities (mark_ok e v t h (w.entities e)) in search

  -- 17 maximum
  maximum_ok : (e v : ℕ) → Screen (d.entity e kind) → v < level_count → EntityOk (d.entity e) → EntityOk (written (word maximum v) (d.entity e))
  maximum_ok e v t h o = search arith

  pub maximum_well_formed : (e v : ℕ) → Screen (d.entity e kind) → v < level_count → WellFormed (set_maximum e v d)
  maximum_well_formed e v t h = let n = each EntityOk (word maximum v) e d.entity w.entities (maximum_ok e v t h (w.entities e)) in search

  -- 19 release
  release_ok : (u e : ℕ) → d.entity e kind ≡ container_kind → (1 ≤ u) × (u ≤ user_count) → EntityOk (d.entity e)
      → EntityOk (written (word type released_type and word releaser u) (d.entity e))
  release_ok u e t h o = search arith

  pub release_well_formed : (u e : ℕ) → d.entity e kind ≡ container_kind → (1 ≤ u) × (u ≤ user_count) → WellFormed (release u e d)
  release_well_formed u e t h = let n = each EntityOk (word type released_type and word releaser u) e d.entity w.entities
      (release_ok u e t h (w.entities e)) in search

  -- 14 current roles
  current_ok : (u v : ℕ) → d.user u present ≢ 0 → v < role_sets → (d.user u device ≡ 0 → v ≡ 0) → UserOk (d.user u)
      → UserOk (written (user_word current v) (d.user u))
  current_ok u v p h off o = search arith

  pub current_well_formed : (u v : ℕ) → d.user u present ≢ 0 → v < role_sets → (d.user u device ≡ 0 → v ≡ 0) → WellFormed (set_current u v d)
  current_well_formed u v p h off = let n = each UserOk (user_word current v) u d.user w.users (current_ok u v p h off (w.users u)) in search

  -- 15 clearance: the new state is tested
  clearance_ok : (u v : ℕ) → d.user u present ≢ 0 → v < level_count → UserOk (d.user u) → UserOk (written (user_word clearance v) (d.user u))
  clearance_ok u v p h o = search arith

  pub clearance_well_formed : (u v : ℕ) → d.user u present ≢ 0 → v < level_count → WellFormed (set_clearance u v d)
  clearance_well_formed u v p h = let n = each UserOk (user_word clearance v) u d.user w.users (clearance_ok u v p h (w.users u)) in search

  -- 16 authorised roles
  authorised_ok : (u v : ℕ) → d.user u present ≢ 0 → v < role_sets → UserOk (d.user u) → UserOk (written (user_word authorised v) (d.user u))
  authorised_ok u v p h o = search arith

  pub authorised_well_formed : (u v : ℕ) → d.user u present ≢ 0 → v < role_sets → WellFormed (set_authorised u v d)
  authorised_well_formed u v p h = let n = each UserOk (user_word authorised v) u d.user w.users (authorised_ok u v p h (w.users u)) in search

  -- 20 acknowledge
  quiet_ok : (u : ℕ) → d.user u present ≢ 0 → UserOk (d.user u) → UserOk (written quieting (d.user u))
  quiet_ok u p o = search (arith, inl)

  pub acknowledge_well_formed : (u : ℕ) → d.user u present ≢ 0 → WellFormed (acknowledge u d)
  acknowledge_well_formed u p = let n = each UserOk quieting u d.user w.users (quiet_ok u p (w.users u)) in search

module _ (d : Tables) (s : Secure d) where
  pub edit_secure : (e v : ℕ) → Secure (edit e v d)
  edit_secure e v = search

  pub mark_secure : (e v : ℕ) → Secure (set_mark e v d)
  mark_secure e v = search

  pub maximum_secure : (e v : ℕ) → AtMost (d.entity e level) v → Secure (set_maximum e v d)
  maximum_secure e v h =
      let n : (x : ℕ) → Screen (d.entity x kind) → AtMost (d.entity x level) (pick (eqb x e) v (d.entity x maximum))
      = λ x k. case (λ (y : ℕ). AtMost (d.entity x level) y) x e v (d.entity x maximum) (λ q. rw q h) (λ q. s.ceiling x k) in
      search

  pub release_secure : (u e : ℕ) → Secure (release u e d)
  release_secure u e = search

  pub current_secure : (u v : ℕ) → Subset role_count v (d.user u authorised) → Secure (set_current u v d)
  current_secure u v h =
      let n : (x : ℕ) → Subset role_count (pick (eqb x u) v (d.user x current)) (d.user x authorised)
      = λ x. case (λ (y : ℕ). Subset role_count y (d.user x authorised)) x u v (d.user x current) (λ q. rw q h) (λ q. s.roles x) in
      search

  pub authorised_secure : (u v : ℕ) → Subset role_count (d.user u current) v → Secure (set_authorised u v d)
  authorised_secure u v h =
      let n : (x : ℕ) → Subset role_count (d.user x current) (pick (eqb x u) v (d.user x authorised))
      = λ x. case (λ (y : ℕ). Subset role_count (d.user x current) y) x u v (d.user x authorised) (λ q. rw q h) (λ q. s.roles x) in
      search

  pub acknowledge_secure : (u : ℕ) → Secure (acknowledge u d)
  acknowledge_secure u = search
