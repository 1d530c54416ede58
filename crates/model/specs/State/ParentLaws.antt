-- Well-formed tables have nothing outside their numbers, and an entity's container there is the one that holds it.
use Rattle.std.specs.Prelude.{◌≢◌, ◌⊎◌, ◌≡◌, ◌<◌, ◌≤◌, ℕ}
use Rattle.model.specs.State.Agree.{well_formed_bounded}
use Rattle.model.specs.State.AgreeLinks.{boxed, parent_holds, parent_top}
use Rattle.model.specs.State.Check.{parent}
use Rattle.model.specs.State.WellFormed.{InTables, WellFormed}
use Rattle.model.specs.Tables.Words.{Tables, device, devices, entity_count, kind, kinds, place_count, places, used, used_places}
use Rattle.model.specs.Tables.Words.{user_count}

module _ (d : Tables) (w : WellFormed d) where
  pub entity_out_lem : (e : ℕ) → (e ≡ 0) ⊎ (entity_count < e) → (kinds d e ≡ 0) × (used_places d e ≡ 0)
  entity_out_lem e q = let o = well_formed_bounded d w in (o.entity_out e q kind, o.entity_out e q used)

  pub user_out_lem : (u : ℕ) → (u ≡ 0) ⊎ (user_count < u) → devices d u ≡ 0
  user_out_lem u q = (well_formed_bounded d w).user_out u q device

  pub row_room : (e : ℕ) → used_places d e ≤ place_count
  row_room e = (w.entities e).filled.packed.room

  -- an entity without a container is held by none,
  pub parent_none : (a : ℕ) → parent (kinds d) (used_places d) (places d) a ≡ 0 → (x : ℕ) → InTables d x a → ⊥
  parent_none = parent_top (kinds d) (used_places d) (places d) (devices d) entity_out_lem user_out_lem row_room

  -- one with a container is held by it,
  pub parent_held : (a : ℕ) → parent (kinds d) (used_places d) (places d) a ≢ 0 → InTables d (parent (kinds d) (used_places d) (places d) a) a
  parent_held = parent_holds (kinds d) (used_places d) (places d) (devices d) entity_out_lem user_out_lem row_room

  -- and a container is one of the sixty-four.
  pub parent_range : (x a : ℕ) → InTables d x a → (1 ≤ x) × (x ≤ entity_count)
  parent_range = boxed (kinds d) (used_places d) (places d) (devices d) entity_out_lem user_out_lem row_room
