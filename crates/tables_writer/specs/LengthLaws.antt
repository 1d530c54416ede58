-- How many bytes the parts of a text take, and how many at most.
use Rattle.std.specs.Prelude.{List, [], ◌∷◌, ◌≡◌, ◌*◌, ◌+◌, ◌≤◌, suc, ℕ, length}
use native.Mathlib.Omega.{arith}
use Rattle.std.proofs.Math.ListN.{length-append}
use Rattle.model.specs.Basics.Cases.{cases, lt_or_le}
use Rattle.model.specs.Tables.Words.{Tables, absent_kind, kinds, operation_in, place_count, places, position_of, present, sums, triples, used_places, who_of}
use Rattle.model.specs.Text.NumberLaws.{length_most}
use Rattle.model.specs.Text.Numbers.{digit_count, digits}
use Rattle.model.specs.Text.Wording.{user_key}
use Rattle.tables.specs.Singles.{single_count}
use Rattle.tables_text.proofs.EntityLaws.{count_most}
use Rattle.tables_text.specs.Keys.{Field, content_key, entity_fields, entity_key, triple_key, triples_key, user_fields}
use Rattle.tables_text.proofs.LongestLineLaws.{fields_length, number_length, series_length}
use Rattle.tables_text.specs.TextOf.{entity_text, entity_words, field_lines, place_at, series, triple_at, triple_count, user_text, user_words}
use Rattle.tables_text.proofs.ToldLaws.{entity_absent, entity_present, user_absent_lem, user_present}
use Rattle.tables_text.specs.Total.{total}
use Rattle.tables_text.specs.Values.{number_line, triple_line}
use Rattle.record_writer.specs.FieldAt.{digits_at, user_field_count}
use Rattle.record_writer.specs.LineLaws.{place_length, triple_length}
use Rattle.record_writer.specs.SeriesLaws.{series_most}

-- ---- how long a record is

-- the bytes of the keys and line ends of some fields
abbrev marks : List Field → ℕ
marks [] = 0
marks (f ∷ fs) = length f.key + 1 + marks fs

-- the keys and line ends of a user and of an entity
abbrev pub user_marks : ℕ
user_marks = length user_key + 1 + marks user_fields

abbrev pub entity_marks : ℕ
entity_marks = length entity_key + 1 + marks entity_fields + length triples_key + 1

-- how long the text of a user and of an entity is that is there
module _ (d : Tables) where
  pub user_length : (u : ℕ) → (d.user u present ≡ 0 → ⊥)
      → length (user_text d u) ≡ user_marks + (length (digits u) + length (series user_field_count 1 (digits_at (user_words d u))))
  unfolding total
  user_length u n =
      rw (user_present d u (omega arith))
      (omega (
        arith,
        length-append (number_line user_key u) (field_lines user_fields 1 (user_words d u)),
        number_length user_key u,
        fields_length user_fields 1 (user_words d u),
        series_length user_field_count 1 (digits_at (user_words d u)),
      ))

  pub entity_length : (e : ℕ) → (kinds d e ≡ absent_kind → ⊥)
      → length (entity_text d e)
      ≡ entity_marks + ((length (digits e) + length (series single_count 0 (digits_at (entity_words d e))))
      + (length (series (used_places d e) 0 (place_at d e)) + (length (digits (triple_count d e)) + length (series (triple_count d e) 0 (triple_at d e)))))
  unfolding total
  entity_length e n =
      rw (entity_present d e (omega arith))
      (simp length-append
      (omega (
        arith,
        number_length entity_key e,
        number_length triples_key (triple_count d e),
        fields_length entity_fields 0 (entity_words d e),
        series_length single_count 0 (digits_at (entity_words d e)),
      )))

-- ---- how long all is at most

-- what is counted is small
pub digits_bound : {r : ℕ} (n : ℕ) → r ≡ length (digits n) → r ≤ digit_count
digits_bound {r} n e = omega (arith, length_most n)

-- a user with the number and seven words; the lines of a place and of a triple; and an entity with the number, eight words, eight places and eight triples,
-- where every number has ten digits
abbrev pub user_most : ℕ
user_most = user_marks + suc user_field_count * digit_count

abbrev pub place_most : ℕ
place_most = length content_key + (2 + 2 * digit_count)

abbrev pub triple_most : ℕ
triple_most = length triple_key + (3 + 3 * digit_count)

abbrev pub entity_most : ℕ
entity_most = entity_marks + ((2 + single_count) * digit_count + (place_count * place_most + place_count * triple_most))

pub values_most : (k i : ℕ) (w : ℕ → ℕ) → length (series k i (digits_at w)) ≤ k * digit_count
values_most k i w = series_most k i digit_count (digits_at w) (λ j. length_most (w j))

module _ (d : Tables) where
  pub user_most_lem : (u : ℕ) → length (user_text d u) ≤ user_most
  user_most_lem u =
      cases (lt_or_le 0 (d.user u present))
      (λ l. omega (arith, user_length d u (λ q. omega arith), length_most u, values_most user_field_count 1 (user_words d u)))
      (λ l. rw (user_absent_lem d u (omega arith)) (omega arith))

  pub place_most_lem : (e i : ℕ) → length (place_at d e i) ≤ place_most
  place_most_lem e i = omega (arith, place_length (places d e i) (sums d e i), length_most (places d e i), length_most (sums d e i))

  pub triple_most_lem : (x : ℕ) → length (triple_line x) ≤ triple_most
  triple_most_lem x = omega (arith, triple_length x, length_most (who_of x), length_most (operation_in x), length_most (position_of x))

  pub places_most : (e k : ℕ) → length (series k 0 (place_at d e)) ≤ k * place_most
  places_most e k = series_most k 0 place_most (place_at d e) (place_most_lem e)

  pub triples_most : (e k : ℕ) → length (series k 0 (triple_at d e)) ≤ k * triple_most
  triples_most e k = series_most k 0 triple_most (triple_at d e) (λ i. triple_most_lem (triples d e i))

  pub entity_most_lem : (e : ℕ) → used_places d e ≤ place_count → length (entity_text d e) ≤ entity_most
  entity_most_lem e h =
      cases (lt_or_le absent_kind (kinds d e))
      (λ l. omega (
        arith,
        entity_length d e (λ q. omega arith),
        length_most e,
        length_most (triple_count d e),
        values_most single_count 0 (entity_words d e),
        places_most e (used_places d e),
        triples_most e (triple_count d e),
        count_most (triples d e),
      ))
      (λ l. rw (entity_absent d e (omega arith)) (omega arith))

  pub users_most : (k : ℕ) → length (series k 1 (user_text d)) ≤ k * user_most
  users_most k = series_most k 1 user_most (user_text d) user_most_lem

  pub entities_most : (k : ℕ) → ((e : ℕ) → used_places d e ≤ place_count) → length (series k 1 (entity_text d)) ≤ k * entity_most
  entities_most k h = series_most k 1 entity_most (entity_text d) (λ e. entity_most_lem e (h e))
