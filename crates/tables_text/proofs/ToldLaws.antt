-- The text of records that can be told; and tables that can be told have nothing outside their records, and words of 32 bits.
use Rattle.std.specs.Prelude.{[], ◌++◌, ◌⊎◌, ◌≡◌, ◌≤◌, ℕ}
use Rattle.std.proofs.Common.{inl, inr, arith, eq-eqb, ne_eqb}
use Rattle.model.specs.Basics.Cases.{cases, lt_or_le}
use Rattle.model.specs.Tables.Layout.{Bounded}
use Rattle.model.specs.Tables.Rows.{seek}
use Rattle.model.specs.Tables.WordAt.{entity_word_at, entity_word_of, user_word_at, user_word_of}
use Rattle.model.specs.Tables.Words.{EntityWord, Tables, UserWord, absent_kind, authorised, clearance, current, device, held, held_op, kind, level}
use Rattle.model.specs.Tables.Words.{mark, maximum, missed, place, place_count, present, releaser, shown, spare, triple, type, used, value}
use Rattle.model.specs.Text.Numbers.{most}
use Rattle.model.specs.Text.Wording.{user_key}
use Rattle.tables_text.proofs.EntityLaws.{count_most, entity_rest}
use Rattle.tables_text.specs.Keys.{entity_key, user_fields}
use Rattle.tables_text.specs.TextOf.{entity_lines, entity_text, field_lines, user_lines, user_text, user_words}
use Rattle.tables_text.specs.Told.{EntityTold, SmallTables, TablesTold, UserTold}
use Rattle.tables_text.specs.Values.{number_line}

-- ---- texts of one record

-- Rule 16.1: of a user who is absent there is nothing, and any other has a first line and those of the fields.
pub user_absent_lem : (d : Tables) (u : ℕ) → d.user u present ≡ 0 → user_text d u ≡ []
unfolding user_text
user_absent_lem d u h = rw (eq-eqb (d.user u present) 0 h)

pub user_present : (d : Tables) (u : ℕ) → 1 ≤ d.user u present → user_text d u ≡ number_line user_key u ++ field_lines user_fields 1 (user_words d u)
unfolding user_text user_lines
user_present d u h = let n : d.user u present ≡ 0 → ⊥ = λ q. omega arith in rw (ne_eqb (d.user u present) 0 n)

pub user_either : (d : Tables) (u : ℕ) → (user_text d u ≡ []) ⊎ (user_text d u ≡ number_line user_key u ++ field_lines user_fields 1 (user_words d u))
user_either d u = cases (lt_or_le 0 (d.user u present)) (λ l. inr (user_present d u l)) (λ l. inl (user_absent_lem d u (omega arith)))

-- Rule 16.2: the same of entities.
pub entity_absent : (d : Tables) (e : ℕ) → d.entity e kind ≡ absent_kind → entity_text d e ≡ []
unfolding entity_text
entity_absent d e h = rw (eq-eqb (d.entity e kind) absent_kind h)

pub entity_present : (d : Tables) (e : ℕ) → 1 ≤ d.entity e kind → entity_text d e ≡ number_line entity_key e ++ entity_rest d e
unfolding entity_text entity_lines
entity_present d e h = let n : d.entity e kind ≡ absent_kind → ⊥ = λ q. omega arith in rw (ne_eqb (d.entity e kind) absent_kind n)

pub entity_either : (d : Tables) (e : ℕ) → (entity_text d e ≡ []) ⊎ (entity_text d e ≡ number_line entity_key e ++ entity_rest d e)
entity_either d e = cases (lt_or_le 0 (d.entity e kind)) (λ l. inr (entity_present d e l)) (λ l. inl (entity_absent d e (omega arith)))

-- Rule 16.3: what is told of an entity has a kind, and no more places in use than there are.
pub told_kind : (w : EntityWord → ℕ) → EntityTold w → 1 ≤ w kind
unfolding entity_word_at entity_word_of
told_kind w t = t.fields.0.0

told_used : (w : EntityWord → ℕ) → EntityTold w → w used ≤ place_count
unfolding entity_word_at entity_word_of
told_used w t = t.fields.1.1.1.1.1.1.1.0.1

-- ---- tables that can be told

user_small : (w : UserWord → ℕ) → UserTold w → (f : UserWord) → w f ≤ most
unfolding user_word_at user_word_of
user_small w t present = omega (arith, t.present)
user_small w t clearance = t.fields.0.2
user_small w t authorised = t.fields.1.0.2
user_small w t current = t.fields.1.1.0.2
user_small w t device = t.fields.1.1.1.0.2
user_small w t held = t.fields.1.1.1.1.0.2
user_small w t held_op = t.fields.1.1.1.1.1.0.2
user_small w t missed = t.fields.1.1.1.1.1.1.0.2
user_small w t (spare i) = omega (arith, t.spares i)

entity_small : (w : EntityWord → ℕ) → EntityTold w → (f : EntityWord) → w f ≤ most
unfolding entity_word_at entity_word_of
entity_small w t kind = t.fields.0.2
entity_small w t type = t.fields.1.0.2
entity_small w t level = t.fields.1.1.0.2
entity_small w t mark = t.fields.1.1.1.0.2
entity_small w t value = t.fields.1.1.1.1.0.2
entity_small w t releaser = t.fields.1.1.1.1.1.0.2
entity_small w t maximum = t.fields.1.1.1.1.1.1.0.2
entity_small w t used = t.fields.1.1.1.1.1.1.1.0.2
entity_small w t (place i) = cases (lt_or_le i (w used)) (λ l. (t.places i l).0) (λ l. omega (arith, (t.places_rest i l).0))
entity_small w t (shown i) = cases (lt_or_le i (w used)) (λ l. (t.places i l).1) (λ l. omega (arith, (t.places_rest i l).1))
entity_small w t (triple i) =
    cases (lt_or_le i (seek 0 (λ j. w (triple j)) place_count)) (λ l. t.triples i l) (λ l. omega (arith, t.triples_rest i l))

-- Their words are of 32 bits,
pub told_small : (d : Tables) → TablesTold d → SmallTables d
told_small d t = record {
  users = λ u f. cases (t.users u) (λ z. omega (arith, z f)) (λ k. user_small (d.user u) k f);
  entities = λ e f. cases (t.entities e) (λ z. omega (arith, z f)) (λ k. entity_small (d.entity e) k f);
}

-- and there is nothing outside the users, the entities and their rows.
pub told_bounded : (d : Tables) → TablesTold d → Bounded d
told_bounded d t = record {
  user_out = λ u q f. t.users_out u q f;
  entity_out = λ e q f. t.entities_out e q f;
  places_out = λ e i h. cases (t.entities e) (λ z. z (place i)) (λ k. (k.places_rest i (omega (arith, told_used (d.entity e) k))).0);
  shown_out = λ e i h. cases (t.entities e) (λ z. z (shown i)) (λ k. (k.places_rest i (omega (arith, told_used (d.entity e) k))).1);
  triples_out = λ e i h. cases (t.entities e) (λ z. z (triple i)) (λ k. k.triples_rest i (omega (arith, count_most (λ j. d.entity e (triple j)))));
  spares_out = λ u i h. cases (t.users u) (λ z. z (spare i)) (λ k. k.spares i);
}
