-- Document 02, M-103; rules 16.1 to 16.3: which records lines can tell: those that some text gives, well-formed or not.
use Rattle.std.specs.Prelude.{List, [], ◌∷◌, ◌⊎◌, ◌≡◌, ◌<◌, ◌≤◌, suc, ℕ}
use Rattle.model.specs.Tables.Rows.{seek}
use Rattle.model.specs.Tables.WordAt.{entity_word_at, user_word_at}
use Rattle.model.specs.Tables.Words.{EntityWord, Tables, UserWord, entity_count, place, place_count, present, shown, spare, triple, used, user_count}
use Rattle.model.specs.Text.Numbers.{most}
use Rattle.tables_text.specs.Keys.{Field, entity_fields, user_fields}

-- Rule 16.3: each word, from word j on, is a number of 32 bits that its field may have.
abbrev pub FieldsOk : List Field → ℕ → (ℕ → ℕ) → Type 0
FieldsOk [] j w = Unit {0}
FieldsOk (f ∷ fs) j w = ((f.least ≤ w j) × (w j ≤ f.greatest) × (w j ≤ most)) × FieldsOk fs (suc j) w

-- Rule 16.1: a user who is present: each word but the first and the spare ones is told in a line.
pub record UserTold (w : UserWord → ℕ) : Type 0 where
  pub present : w present ≡ 1
  pub fields : FieldsOk user_fields 1 (λ j. w (user_word_at j))
  pub spares : (i : ℕ) → w (spare i) ≡ 0

-- Rule 16.2: an entity that is present: its single words, its used places and its triples are told, and what follows them is zero.
pub record EntityTold (w : EntityWord → ℕ) : Type 0 where
  pub fields : FieldsOk entity_fields 0 (λ j. w (entity_word_at j))
  pub places : (i : ℕ) → i < w used → (w (place i) ≤ most) × (w (shown i) ≤ most)
  pub places_rest : (i : ℕ) → w used ≤ i → (w (place i) ≡ 0) × (w (shown i) ≡ 0)
  pub triples : (i : ℕ) → i < seek 0 (λ j. w (triple j)) place_count → w (triple i) ≤ most
  pub triples_rest : (i : ℕ) → seek 0 (λ j. w (triple j)) place_count ≤ i → w (triple i) ≡ 0

-- a record of zeros, of which there is no line
abbrev pub Blank : {W : Type 0} → (W → ℕ) → Type 0
Blank {W} w = (f : W) → w f ≡ 0

-- Tables that can be told: each record is blank or told, and one outside the numbers is blank.
pub record TablesTold (d : Tables) : Type 0 where
  pub users : (u : ℕ) → Blank (d.user u) ⊎ UserTold (d.user u)
  pub entities : (e : ℕ) → Blank (d.entity e) ⊎ EntityTold (d.entity e)
  pub users_out : (u : ℕ) → (u ≡ 0) ⊎ (user_count < u) → Blank (d.user u)
  pub entities_out : (e : ℕ) → (e ≡ 0) ⊎ (entity_count < e) → Blank (d.entity e)

-- All words of the tables are of 32 bits.
pub record SmallTables (d : Tables) : Type 0 where
  pub users : (u : ℕ) (f : UserWord) → d.user u f ≤ most
  pub entities : (e : ℕ) (f : EntityWord) → d.entity e f ≤ most
