-- Document 02, M-103; rule 16.5: a text is read from its front, line by line, into tables of which every word is 0 at first.
use Rattle.std.specs.Prelude.{List, [], ◌∷◌, suc, zero, ℕ}
use Rattle.model.specs.Tables.Edits.{on_entity, on_user, user_word, word}
use Rattle.model.specs.Tables.WordAt.{entity_word_at, user_word_at}
use Rattle.model.specs.Tables.Words.{Tables, entity_count, place, present, shown, triple, used_places, user_count}
use Rattle.model.specs.Text.Lines.{behind, read_line}
use Rattle.model.specs.Text.Numbers.{Read, bad, got}
use Rattle.model.specs.Text.Wording.{user_key}
use Rattle.tables_text.specs.Keys.{Field, content_key, entity_fields, entity_key, triple_key, triples_field, user_fields}
use Rattle.tables_text.specs.Values.{Place, number_line, read_field, read_place, read_triple}

-- How far a reading has come: past some lines, with the tables that they give and the bytes after them; or to bytes of which the first line is bad or
-- missing.
pub data Stage : Type 0 where
  past : Tables → List ℕ → Stage
  stuck : List ℕ → Stage

-- then the next lines
abbrev pub onward : Stage → (Tables → List ℕ → Stage) → Stage
onward (past d x) f = f d x
onward (stuck x) f = stuck x

-- a line at the front of the bytes s, which must be there
abbrev pub or_stuck : {A : Type 0} → List ℕ → Read A → (A → List ℕ → Stage) → Stage
or_stuck s (got a x) f = f a x
or_stuck s bad f = stuck s

-- or one that may be
abbrev pub either : {A : Type 0} → Read A → (A → List ℕ → Stage) → Stage → Stage
either (got a x) f t = f a x
either bad f t = t

-- tables with no record at all
abbrev pub no_tables : Tables
no_tables = record { user = λ u f. 0; entity = λ e f. 0 }

-- Rule 16.1: the lines of fields are stored in a user's words, from word j on,
unfoldable pub user_stage : ℕ → List Field → ℕ → Tables → List ℕ → Stage
user_stage u [] j d s = past d s
user_stage u (f ∷ fs) j d s = or_stuck s (read_field f s) (λ v x. user_stage u fs (suc j) (on_user u (user_word (user_word_at j) v) d) x)

-- and rule 16.2: in an entity's.
unfoldable pub entity_stage : ℕ → List Field → ℕ → Tables → List ℕ → Stage
entity_stage e [] j d s = past d s
entity_stage e (f ∷ fs) j d s = or_stuck s (read_field f s) (λ v x. entity_stage e fs (suc j) (on_entity e (word (entity_word_at j) v) d) x)

-- what a place has is stored in two words
abbrev pub put_place : ℕ → ℕ → Place → Tables → Tables
put_place e i p d = on_entity e (word (shown i) p.sum) (on_entity e (word (place i) p.entity) d)

-- Rule 16.2: k lines of places, from place i on,
unfoldable pub places_stage : ℕ → ℕ → ℕ → Tables → List ℕ → Stage
places_stage e zero i d s = past d s
places_stage e (suc k) i d s = or_stuck s (read_line content_key read_place s) (λ p x. places_stage e k (suc i) (put_place e i p d) x)

-- and k lines of triples.
unfoldable pub triples_stage : ℕ → ℕ → ℕ → Tables → List ℕ → Stage
triples_stage e zero i d s = past d s
triples_stage e (suc k) i d s = or_stuck s (read_line triple_key read_triple s) (λ t x. triples_stage e k (suc i) (on_entity e (word (triple i) t) d) x)

-- the lines of a user's record behind the one with its number
unfoldable pub user_record : ℕ → Tables → List ℕ → Stage
user_record u d s = user_stage u user_fields 1 (on_user u (user_word present 1) d) s

-- the same of an entity's
unfoldable pub entity_record : ℕ → Tables → List ℕ → Stage
entity_record e d s =
    onward (entity_stage e entity_fields 0 d s) λ d₁ s₁.
    onward (places_stage e (used_places d₁ e) 0 d₁ s₁) λ d₂ s₂.
    or_stuck s₂ (read_field triples_field s₂) λ n s₃.
    triples_stage e n 0 d₂ s₃

-- Rules 16.1 and 16.3: k users from number u on. Each is there if the line with its number comes next, and absent if not.
unfoldable pub users_stage : ℕ → ℕ → Tables → List ℕ → Stage
users_stage zero u d s = past d s
users_stage (suc k) u d s =
    either (behind (number_line user_key u) s) (λ _ x. onward (user_record u d x) (users_stage k (suc u))) (users_stage k (suc u) d s)

-- Rules 16.2 and 16.3: the same of entities.
unfoldable pub entities_stage : ℕ → ℕ → Tables → List ℕ → Stage
entities_stage zero e d s = past d s
entities_stage (suc k) e d s =
    either (behind (number_line entity_key e) s) (λ _ x. onward (entity_record e d x) (entities_stage k (suc e))) (entities_stage k (suc e) d s)

-- nothing may follow
abbrev pub at_end : Tables → List ℕ → Stage
at_end d [] = past d []
at_end d (b ∷ s) = stuck (b ∷ s)

-- Rule 16.5: a whole text.
unfoldable pub reading : List ℕ → Stage
reading s = onward (users_stage user_count 1 no_tables s) λ d x. onward (entities_stage entity_count 1 d x) at_end
