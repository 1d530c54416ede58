-- Document 02, M-103; rule 16.3: which line may follow which, and the first line of a text that is bad or missing, said of the bytes alone.
use Rattle.std.specs.Prelude.{List, [], ◌++◌, ◌∷◌, ◌≡◌, ◌<◌, ◌≤◌, suc, zero, ℕ}
use Rattle.model.specs.Tables.Words.{entity_count, operation_weight, place_count, user_count, who_weight}
use Rattle.model.specs.Text.Lines.{line}
use Rattle.model.specs.Text.Numbers.{most}
use Rattle.model.specs.Text.References.{joined}
use Rattle.model.specs.Text.Wording.{user_key}
use Rattle.tables_text.specs.Keys.{Field, entity_key, places_key, single_fields, triple_key, triples_key, user_fields}
use Rattle.tables_text.specs.Values.{Place, number_line, place_line}

-- What is due behind good lines.
pub data Due : Type 0 where
  -- the last user has this number, or is none: a user with a higher one, an entity, or the end
  users : ℕ → Due
  -- the last entity has this number, and its record is told: an entity with a higher one, or the end
  entities : ℕ → Due
  -- the line of a field, then those of the others, and then what is due behind them
  field : Field → List Field → Due → Due
  -- of entity e: the number of its places
  placed : (e : ℕ) → Due
  -- a place, and k further ones
  place : (k e : ℕ) → Due
  -- the number of its triples
  access : (e : ℕ) → Due
  -- a triple, and k further ones
  triple : (k e : ℕ) → Due

-- what is due where lines of these fields come before τ, where there are k places, and where there are k triples
abbrev pub fields_due : List Field → Due → Due
fields_due [] τ = τ
fields_due (f ∷ fs) τ = field f fs τ

abbrev pub places_due : ℕ → ℕ → Due
places_due zero e = access e
places_due (suc k) e = place k e

abbrev pub triples_due : ℕ → ℕ → Due
triples_due zero e = entities e
triples_due (suc k) e = triple k e

-- Rule 16.3: the line l may come where σ is due, and then τ is.
pub data Follows : Due → List ℕ → Due → Type 0 where
  -- users are told in rising order
  user : {u v : ℕ} → u < v → v ≤ user_count → Follows (users u) (number_line user_key v) (fields_due user_fields (users v))
  -- entities are told behind them, in rising order too
  first : {u e : ℕ} → 1 ≤ e → e ≤ entity_count → Follows (users u) (number_line entity_key e) (fields_due single_fields (placed e))
  later : {e v : ℕ} → e < v → v ≤ entity_count → Follows (entities e) (number_line entity_key v) (fields_due single_fields (placed v))
  -- a record's lines have its keys in their order, each with a number that the field may have; that numbers are of 32 bits is a rule of its own, and is
  -- said although no field of a record may have a greater one
  value : {f : Field} {fs : List Field} {τ : Due} {n : ℕ} → f.least ≤ n → n ≤ f.greatest → n ≤ most
      → Follows (field f fs τ) (number_line f.key n) (fields_due fs τ)
  -- so many places, at most eight, are followed by so many lines,
  places : {e n : ℕ} → n ≤ place_count → Follows (placed e) (number_line places_key n) (places_due n e)
  content : {k e : ℕ} {p : Place} → p.entity ≤ most → p.sum ≤ most → Follows (place k e) (place_line p) (places_due k e)
  -- and so many triples, at most eight, by so many: who is 65,535 at most, operation and position 255, and not all three are 0
  triples : {e n : ℕ} → n ≤ place_count → Follows (access e) (number_line triples_key n) (triples_due n e)
  parts : {k e w o p : ℕ} → w < who_weight → o < operation_weight → p < operation_weight → (w ≡ 0 → o ≡ 0 → p ≡ 0 → ⊥)
      → Follows (triple k e) (line triple_key (joined (w ∷ o ∷ p ∷ []))) (triples_due k e)

-- Rule 16.3: a text may end where no record is unfinished.
pub data MayEnd : Due → Type 0 where
  after_users : {u : ℕ} → MayEnd (users u)
  after_entities : {e : ℕ} → MayEnd (entities e)

-- Rule 16.3: the bytes s keep the line rules where σ is due.
pub data Whole : Due → List ℕ → Type 0 where
  end : {σ : Due} → MayEnd σ → Whole σ []
  onward : {σ τ : Due} {l x : List ℕ} → Follows σ l τ → Whole τ x → Whole σ (l ++ x)

-- Rule 16.3: where σ is due, the first line of s that is bad or missing is line n: the first of s, if s does not begin with a line that may come, and may
-- not end here either; or, behind a good line, the first of the rest, counted one further.
pub data FirstBad : Due → List ℕ → ℕ → Type 0 where
  here : {σ : Due} {s : List ℕ} → (s ≡ [] → MayEnd σ → ⊥) → ((l x : List ℕ) (τ : Due) → Follows σ l τ → s ≡ l ++ x → ⊥) → FirstBad σ s 1
  further : {σ τ : Due} {l x : List ℕ} {n : ℕ} → Follows σ l τ → FirstBad τ x n → FirstBad σ (l ++ x) (suc n)

-- at the front of a text no user has been told
abbrev pub at_first : Due
at_first = users 0
