-- The list of holders: for each entity the container in which the pass has met it, or 0. A container's places are numbered through,
-- container c, place i as (c - 1) × place_count + i, so one number says how far the pass has come.
use Rattle.std.specs.Prelude.{Bool, ◌&&◌, false, true, List, ◌≡◌, ◌*◌, ◌+◌, ◌-◌, ◌<◌, ◌≤◌, suc, ℕ, get_or, length}
use Rattle.model.specs.Tables.Words.{Tables, container_kind, used_places, entity_count, kinds, place_count, places}
use Rattle.state.specs.Passes.{all_own, tree_test}

-- the numbers of entities, and 0
abbrev pub entity_numbers : ℕ
entity_numbers = suc entity_count

-- the places of all entities
abbrev pub slot_count : ℕ
slot_count = entity_count * place_count

-- x stands in place i of the container c
pub record Slot (d : Tables) (c i x : ℕ) : Type 0 where
  pub low : 1 ≤ c
  pub box : kinds d c ≡ container_kind
  pub used : i < used_places d c
  pub at : places d c i ≡ x

-- h tells the container of everything that stands in one of the slots before n, and of nothing else
pub record Filled (d : Tables) (n : ℕ) (h : List ℕ) : Type 0 where
  pub size : length h ≡ entity_numbers
  pub sound : (x : ℕ) → 1 ≤ get_or h x 0 → (i : ℕ) × Slot d (get_or h x 0) i x × ((get_or h x 0 - 1) * place_count + i < n)
  pub whole : (c i x : ℕ) → Slot d c i x → (c - 1) * place_count + i < n → get_or h x 0 ≡ c

-- h has a place for each number, and tells the containers of the slots before n, if every entity is in order by itself. Whether all are is known only when
-- the pass has come to its end.
abbrev pub Noted : Tables → ℕ → List ℕ → Type 0
Noted d n h = (length h ≡ entity_numbers) × (all_own d ≡ true → Filled d n h)

-- some entity is not in order by itself, or the containers are not
abbrev pub Amiss : Tables → Type 0
Amiss d = (all_own d && tree_test d) ≡ false

-- the pass has gone on to n, or the tables are amiss
pub record Noting (d : Tables) (n : ℕ) (r : Bool) (h : List ℕ) : Type 0 where
  pub noted : r ≡ true → Noted d n h
  pub refused : r ≡ false → Amiss d

-- what h tells are numbers of entities
abbrev pub Low : List ℕ → Type 0
Low h = (length h ≡ entity_numbers) × ((x : ℕ) → get_or h x 0 ≤ entity_count)
