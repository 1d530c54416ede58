-- Document 02, M-103; rules 16.1 and 16.2: the text of tables.
use Rattle.std.specs.Prelude.{List, [], ◌++◌, ◌∷◌, suc, zero, ℕ, eqb}
use Rattle.model.specs.Basics.Choice.{pick}
use Rattle.model.specs.Tables.Rows.{seek}
use Rattle.model.specs.Tables.WordAt.{entity_word_at, user_word_at}
use Rattle.model.specs.Tables.Words.{Tables, absent_kind, entity_count, kinds, place_count, places, present, sums, triples, used_places, user_count}
use Rattle.model.specs.Text.Wording.{user_key}
use Rattle.tables_text.specs.Keys.{Field, entity_fields, entity_key, triples_key, user_fields}
use Rattle.tables_text.specs.Values.{number_line, place_line, triple_line}

-- k texts one after another, from number i on
unfoldable pub series : ℕ → ℕ → (ℕ → List ℕ) → List ℕ
series zero i g = []
series (suc k) i g = g i ++ series k (suc i) g

-- a line for each field, from word j of a record on
unfoldable pub field_lines : List Field → ℕ → (ℕ → ℕ) → List ℕ
field_lines [] j w = []
field_lines (f ∷ fs) j w = number_line f.key (w j) ++ field_lines fs (suc j) w

-- the words of a record by their offsets in it
abbrev pub user_words : Tables → ℕ → ℕ → ℕ
user_words d u j = d.user u (user_word_at j)

abbrev pub entity_words : Tables → ℕ → ℕ → ℕ
entity_words d e j = d.entity e (entity_word_at j)

-- Rule 16.1: the text of a user who is present,
unfoldable pub user_lines : Tables → ℕ → List ℕ
user_lines d u = number_line user_key u ++ field_lines user_fields 1 (user_words d u)

-- and of any: of who is absent there is nothing.
unfoldable pub user_text : Tables → ℕ → List ℕ
user_text d u = pick (eqb (d.user u present) 0) [] (user_lines d u)

-- Rule 16.2: the line of place i, and that of triple i
abbrev pub place_at : Tables → ℕ → ℕ → List ℕ
place_at d e i = place_line (record { entity = places d e i; sum = sums d e i })

abbrev pub triple_at : Tables → ℕ → ℕ → List ℕ
triple_at d e i = triple_line (triples d e i)

-- how many triples there are: those before the first word that is 0
abbrev pub triple_count : Tables → ℕ → ℕ
triple_count d e = seek 0 (triples d e) place_count

-- Rule 16.2: the text of an entity that is present,
unfoldable pub entity_lines : Tables → ℕ → List ℕ
entity_lines d e =
    number_line entity_key e ++ (field_lines entity_fields 0 (entity_words d e) ++ (series (used_places d e) 0 (place_at d e)
    ++ (number_line triples_key (triple_count d e) ++ series (triple_count d e) 0 (triple_at d e))))

-- and of any: of what is absent there is nothing.
unfoldable pub entity_text : Tables → ℕ → List ℕ
entity_text d e = pick (eqb (kinds d e) absent_kind) [] (entity_lines d e)

-- Rules 16.1 and 16.2: users by number, then entities by number, and nothing between.
unfoldable pub tables_text : Tables → List ℕ
tables_text d = series user_count 1 (user_text d) ++ series entity_count 1 (entity_text d)
