-- The figures of rule 16, computed from the definitions: a name cannot drift from its number.
use Rattle.std.specs.Prelude.{◌≡◌, refl, length}
use Rattle.tables_text.specs.Keys.{entity_fields, places_field, triples_field, user_fields}
use Rattle.tables_text.specs.LineMost.{entity_line_most, line_most, user_line_count}
use Rattle.tables_text.specs.Longest.{longest_text}

-- Rules 16.1 to 16.3: the lines of a record, and the most places and triples.
pub lines_are : (user_line_count ≡ 8) × (entity_line_most ≡ 26) × (length user_fields ≡ 7) × (length entity_fields ≡ 8)
lines_are = (refl, refl, refl, refl)

pub rows_are : (places_field.greatest ≡ 8) × (triples_field.greatest ≡ 8)
rows_are = (refl, refl)

-- Rule 16.7: the bytes of the longest text, and the greatest line that is named.
pub longest_are : (longest_text ≡ 17721) × (line_most ≡ 1793)
longest_are = (refl, refl)
