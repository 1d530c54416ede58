-- A row of an entity by the name f of its words, how far stores into it have come, and what is asked of what stands in a place.
use Rattle.std.specs.Prelude.{Bool, ◌≡◌, ◌-◌, ℕ, ltb}
use Rattle.model.specs.Basics.Choice.{pick}
use Rattle.model.specs.Level.{at_most}
use Rattle.model.specs.Tables.Edits.{on_entity, row}
use Rattle.model.specs.Tables.Rows.{close}
use Rattle.model.specs.Tables.Words.{EntityWord, Tables, index, level, place_count, places, tag}

-- f names the words of one row, in their order
pub record RowName (f : ℕ → EntityWord) : Type 0 where
  pub one_tag : (k : ℕ) → tag (f k) ≡ tag (f 0)
  pub counted : (k : ℕ) → index (f k) ≡ k

-- the place of the last word of a row
abbrev pub last_place : ℕ
last_place = place_count - 1

-- the row f of entity e
abbrev pub row_in : (ℕ → EntityWord) → Tables → ℕ → ℕ → ℕ
row_in f d e i = d.entity e (f i)

-- a row of which the first i words are those of another row
abbrev pub up_to : ℕ → (ℕ → ℕ) → (ℕ → ℕ) → ℕ → ℕ
up_to i new old j = pick (ltb j i) (new j) (old j)

-- the row f of entity e, new as far as i
abbrev pub stored_to : (ℕ → EntityWord) → ℕ → (ℕ → ℕ) → Tables → ℕ → Tables
stored_to f e new d i = on_entity e (row f (up_to i new (row_in f d e))) d

-- the row f of entity e, its word k taken out, closed up as far as i
abbrev pub closed_to : (ℕ → EntityWord) → ℕ → ℕ → Tables → ℕ → Tables
closed_to f e k d i = stored_to f e (close k (row_in f d e)) d i

-- what stands in place i of entity v is at most level a
unfoldable pub place_at_most : Tables → (v a i : ℕ) → Bool
place_at_most d v a i = at_most (d.entity (places d v i) level) a
