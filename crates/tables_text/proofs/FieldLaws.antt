-- The lines of an entity's single words, both ways (rules 16.2 and 16.6).
use mathlib.Core.List.{List, [], ◌++◌, ◌∷◌, append_assoc}
use Rattle.std.specs.Prelude.{◌⊎◌, ◌≡◌, ◌+◌, ◌<◌, ◌≤◌, suc, ℕ, eqb, length}
use Rattle.std.proofs.Common.{inl, inr, ◌∙◌, ap₂, subst, sym, eqb→eq}
use Rattle.std.proofs.Math.Path.{ap, fun_ext, refl}
use native.Mathlib.Omega.{arith}
use Rattle.model.specs.Basics.Agree.{every_at}
use Rattle.model.specs.Basics.Cases.{cases, lt_or_le}
use Rattle.model.specs.Basics.Tests.{every}
use Rattle.model.specs.Tables.Edits.{on_entity, word}
use Rattle.model.specs.Tables.WordAt.{entity_word_at, entity_word_of}
use Rattle.model.specs.Tables.WordAtLaws.{entity_word_same}
use Rattle.model.specs.Tables.Words.{EntityWord, Tables, index, kind, level, mark, maximum, place, releaser, shown, tag, triple, type, used, value}
use Rattle.model.specs.Text.Numbers.{most}
use Rattle.tables_text.specs.Keys.{Field, entity_fields}
use Rattle.tables_text.specs.OnlyLaws.{Only, only_at, only_back, only_there}
use Rattle.tables_text.specs.StageLaws.{lines_onto, or_stuck_back}
use Rattle.tables_text.specs.Stages.{entity_stage, past}
use Rattle.tables_text.specs.TextOf.{entity_words, field_lines}
use Rattle.tables_text.specs.Told.{FieldsOk}
use Rattle.tables_text.proofs.ValueLaws.{field_back, field_there}
use Rattle.tables_text.specs.Values.{number_line, read_field}

-- how many single words there are, all before the rows
abbrev pub singles : ℕ
singles = length entity_fields

-- k single words from word j on
abbrev pub At : ℕ → ℕ → EntityWord → Type 0
At j k g = (j ≤ tag g) × (tag g < j + k)

-- the tables d' differ from d in the words S of entity e only
pub record Changed (e : ℕ) (S : EntityWord → Type 0) (d d' : Tables) : Type 0 where
  pub users : d'.user ≡ d.user
  pub entities : Only e S d.entity d'.entity

-- in no word at all: they are the same
pub changed_none : (e : ℕ) (S : EntityWord → Type 0) (d d' : Tables) → ((g : EntityWord) → S g → ⊥) → Changed e S d d' → d ≡ d'
changed_none e S d d' n c =
    let p : d'.entity ≡ d.entity = fun_ext (λ y. fun_ext (λ g. c.entities y g (λ q a. n g a))) in
    λ i. record { user = sym c.users i; entity = sym p i }

pub changed_same : (e : ℕ) (S : EntityWord → Type 0) (d d' : Tables) → d ≡ d' → Changed e S d d'
changed_same e S d d' p = subst (λ (c : Tables). Changed e S d c) p (record { users = refl; entities = λ y g n. refl })

-- a single word stands in no row
single_index : (g : EntityWord) → tag g < singles → index g ≡ 0
single_index kind h = refl
single_index type h = refl
single_index level h = refl
single_index mark h = refl
single_index value h = refl
single_index releaser h = refl
single_index maximum h = refl
single_index used h = refl
single_index (place i) h = absurd (omega arith)
single_index (shown i) h = absurd (omega arith)
single_index (triple i) h = absurd (omega arith)

pub single_tag : (j : ℕ) → j < singles → tag (entity_word_at j) ≡ j
unfolding every entity_word_at entity_word_of
single_tag j h = eqb→eq (tag (entity_word_at j)) j (every_at singles (λ i. eqb (tag (entity_word_at i)) i) tt j h)

pub single_at : (g : EntityWord) (j : ℕ) → j < singles → tag g ≡ j → g ≡ entity_word_at j
single_at g j h q =
    let t : tag (entity_word_at j) ≡ j = single_tag j h in
    entity_word_same g (entity_word_at j) (q ∙ sym t) (single_index g (omega arith) ∙ sym (single_index (entity_word_at j) (omega arith)))

-- one of k + 1 words is the first, or one of the others
first_or : (j k : ℕ) → j < singles → (g : EntityWord) → At j (suc k) g → (g ≡ entity_word_at j) ⊎ At (suc j) k g
first_or j k h g a =
    cases (lt_or_le j (tag g))
    (λ l. inr (l, omega (arith, a.1)))
    (λ l. inl (single_at g j h (omega (arith, a.0))))

-- words that are the same have the same lines, and may have them
pub fields_same : (fs : List Field) (j : ℕ) (v w : ℕ → ℕ) → ((i : ℕ) → j ≤ i → i < j + length fs → v i ≡ w i) → field_lines fs j v ≡ field_lines fs j w
unfolding field_lines
fields_same [] j v w h = refl
fields_same (f ∷ fs) j v w h =
    ap₂ (λ (n : ℕ) (l : List ℕ). number_line f.key n ++ l) (h j (omega arith) (omega arith))
    (fields_same fs (suc j) v w (λ i a b. h i (omega arith) (omega arith)))

pub ok_same : (fs : List Field) (j : ℕ) (v w : ℕ → ℕ) → ((i : ℕ) → j ≤ i → i < j + length fs → v i ≡ w i) → FieldsOk fs j v → FieldsOk fs j w
ok_same [] j v w h ok = tt
ok_same (f ∷ fs) j v w h ok =
    let q : v j ≡ w j = h j (omega arith) (omega arith) in
    ((omega (arith, ok.0.0), omega (arith, ok.0.1), omega (arith, ok.0.2)), ok_same fs (suc j) v w (λ i a b. h i (omega arith) (omega arith)) ok.1)

module _ (e : ℕ) where
  -- Rule 16.2: what is read of the lines of fields has these lines,
  pub fields_back : (fs : List Field) (j : ℕ) (d : Tables) (s : List ℕ) (d' : Tables) (x : List ℕ) → j + length fs ≤ singles
      → entity_stage e fs j d s ≡ past d' x
      → Changed e (At j (length fs)) d d' × (s ≡ field_lines fs j (entity_words d' e) ++ x) × FieldsOk fs j (entity_words d' e)
  unfolding entity_stage field_lines
  fields_back [] j d s d' x h q =
      let p : d ≡ d' = cc in
      let r : s ≡ x = cc in
      (changed_same e (At j 0) d d' p, r, tt)
  fields_back (f ∷ fs) j d s d' x h q =
      or_stuck_back s (read_field f s) _ d' x q λ v t ev e₁.
      let b : (f.least ≤ v) × (v ≤ f.greatest) × (v ≤ most) × (s ≡ number_line f.key v ++ t) = field_back f s v t ev in
      let i : Changed e (At (suc j) (length fs)) (on_entity e (word (entity_word_at j) v) d) d' × (t ≡ field_lines fs (suc j) (entity_words d' e) ++ x)
      × FieldsOk fs (suc j) (entity_words d' e) = fields_back fs (suc j) (on_entity e (word (entity_word_at j) v) d) t d' x (omega arith) e₁ in
      let o : tag (entity_word_at j) ≡ j = single_tag j (omega arith) in
      let w : d'.entity e (entity_word_at j) ≡ v =
      only_at tag index entity_word_same e (entity_word_at j) v d.entity (At (suc j) (length fs)) d'.entity (λ q. omega (arith, q.0))
      i.0.entities in
      let c : Changed e (At j (suc (length fs))) d d' = record {
        users = i.0.users;
        entities = only_back tag index entity_word_same e (entity_word_at j) v d.entity (At j (suc (length fs))) (At (suc j) (length fs)) d'.entity
            (λ g q. (omega (arith, q.0), omega (arith, q.1))) (omega arith, omega arith) i.0.entities;
      } in
      let l : s ≡ number_line f.key (d'.entity e (entity_word_at j)) ++ t = b.3 ∙ ap (λ (n : ℕ). number_line f.key n ++ t) (sym w) in (
        c,
        lines_onto (number_line f.key (d'.entity e (entity_word_at j))) (field_lines fs (suc j) (entity_words d' e)) s t x l i.1,
        ((omega (arith, b.0), omega (arith, b.1), omega (arith, b.2)), i.2),
      )

  -- and the lines of fields are read as these words.
  pub fields_there : (fs : List Field) (j : ℕ) (d d' : Tables) (x : List ℕ) → j + length fs ≤ singles → Changed e (At j (length fs)) d d'
      → FieldsOk fs j (entity_words d' e) → entity_stage e fs j d (field_lines fs j (entity_words d' e) ++ x) ≡ past d' x
  unfolding entity_stage field_lines
  fields_there [] j d d' x h c ok =
      ap (λ (b : Tables). past b x) (changed_none e (At j 0) d d' (λ g a. omega (arith, a.0, a.1)) c)
  fields_there (f ∷ fs) j d d' x h c ok =
      let a : Changed e (At (suc j) (length fs)) (on_entity e (word (entity_word_at j) (d'.entity e (entity_word_at j))) d) d' = record {
        users = c.users;
        entities = only_there tag index entity_word_same e (entity_word_at j) (d'.entity e (entity_word_at j)) d.entity (At j (suc (length fs)))
            (At (suc j) (length fs)) d'.entity (first_or j (length fs) (omega arith)) refl c.entities;
      } in
      rw (
        append_assoc (number_line f.key (d'.entity e (entity_word_at j))) (field_lines fs (suc j) (entity_words d' e)) x,
        field_there f (d'.entity e (entity_word_at j)) (field_lines fs (suc j) (entity_words d' e) ++ x) ok.0.0 ok.0.1 ok.0.2,
      ) (fields_there fs (suc j) (on_entity e (word (entity_word_at j) (d'.entity e (entity_word_at j))) d) d' x (omega arith) a ok.1)
