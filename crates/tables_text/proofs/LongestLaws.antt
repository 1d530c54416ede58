-- Rule 16.7: no well-formed tables have a longer text.
use Rattle.std.proofs.Common.{◌∙◌, ap₂, length-append}
use Rattle.std.specs.Prelude.{◌≡◌, refl, ◌*◌, ◌+◌, ◌≤◌, ℕ, length}
use native.Mathlib.Omega.{arith}
use Rattle.model.specs.State.WellFormed.{WellFormed}
use Rattle.model.specs.Tables.Words.{Tables, entity_count, user_count}
use Rattle.tables_text.specs.Longest.{longest_text, place_size, second, thing_size, user_size}
use Rattle.tables_text.proofs.LongestChargeLaws.{contents_charged, on_few, users_charged}
use Rattle.tables_text.proofs.LongestLineLaws.{series_length}
use Rattle.tables_text.proofs.LongestRootLaws.{charged_most, some_spared}
use Rattle.tables_text.proofs.LongestShareLaws.{entity_share, user_share}
use Rattle.tables_text.specs.LongestShares.{charged, content_bytes, in_bytes, more_on, most_charged, on_bytes, own_bytes, times_held, user_on, users_on}
use Rattle.tables_text.specs.TextOf.{entity_text, series, tables_text, user_text}
use Rattle.tables_text.specs.Total.{total}
use Rattle.tables_text.specs.TotalLaws.{total_le, total_less, total_plus, total_scale}

-- what all users have, and all entities, but for being on
abbrev all_users : ℕ
all_users = total user_count 1 (λ u. user_size + second u)

abbrev all_entities : ℕ
all_entities = total entity_count 1 (λ e. thing_size + place_size + (second e + second e))

-- these, sixteen devices with a user, and a place less are the longest text
longest_is : all_users + all_entities + user_count * more_on ≡ longest_text + place_size
unfolding total
longest_is = refl

pub text_length : (d : Tables) → length (tables_text d) ≡ total user_count 1 (λ u. length (user_text d u)) + total entity_count 1
    (λ e. length (entity_text d e))
unfolding tables_text
text_length d =
    length-append (series user_count 1 (user_text d)) (series entity_count 1 (entity_text d))
    ∙ ap₂ ◌+◌ (series_length user_count 1 (user_text d)) (series_length entity_count 1 (entity_text d))

module _ (d : Tables) (w : WellFormed d) where
  users_length : total user_count 1 (λ u. length (user_text d u)) ≤ all_users + total entity_count 1 (λ e. users_on d e * on_bytes e)
  users_length =
      omega (
        arith,
        total_le user_count 1 (λ u. length (user_text d u)) (λ u. user_size + second u + user_on d u) (λ u a b. user_share d w u (omega arith)),
        total_plus user_count 1 (λ u. user_size + second u) (user_on d),
        users_charged d w,
      )

  entities_length : total entity_count 1 (λ e. length (entity_text d e))
      ≤ total entity_count 1 (own_bytes d) + total entity_count 1 (λ e. times_held d e * in_bytes e)
  entities_length =
      omega (
        arith,
        total_le entity_count 1 (λ e. length (entity_text d e)) (λ e. own_bytes d e + content_bytes d e) (λ e a b. entity_share d w e (omega arith)),
        total_plus entity_count 1 (own_bytes d) (content_bytes d),
        contents_charged d w,
      )

  -- all of it is charged to entities
  all_charged : total entity_count 1 (charged d)
      ≡ total entity_count 1 (own_bytes d) + (total entity_count 1 (λ e. times_held d e * in_bytes e) + total entity_count 1 (λ e. users_on d e * on_bytes e))
  unfolding charged
  all_charged =
      omega (
        arith,
        total_plus entity_count 1 (own_bytes d) (λ e. times_held d e * in_bytes e + users_on d e * on_bytes e),
        total_plus entity_count 1 (λ e. times_held d e * in_bytes e) (λ e. users_on d e * on_bytes e),
      )

  most_charged_lem : total entity_count 1 (most_charged d) ≤ all_entities + user_count * more_on
  unfolding most_charged
  most_charged_lem =
      omega (
        arith,
        total_plus entity_count 1 (λ e. thing_size + place_size + (second e + second e)) (λ e. users_on d e * more_on),
        total_scale entity_count 1 (users_on d) more_on,
        on_few d w,
      )

  -- Rule 16.7: the bound.
  pub text_longest : length (tables_text d) ≤ longest_text
  text_longest =
      omega (
        arith,
        text_length d,
        users_length,
        entities_length,
        all_charged,
        most_charged_lem,
        longest_is,
        total_less entity_count 1 (charged d) (most_charged d) place_size (λ e a b. charged_most d w e a) (some_spared d w),
      )
