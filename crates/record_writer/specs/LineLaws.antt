-- The lines of a record in the order and in the pieces in which code writes them.
use Rattle.std.specs.Prelude.{List, [], ◌++◌, ◌∷◌, ◌≡◌, refl, ◌+◌, ◌<◌, ◌≤◌, ℕ, length}
use Rattle.std.proofs.Common.{append_assoc, append-nil, arith, length-append}
use Rattle.model.specs.Tables.Words.{Tables, operation_in, position_of, who_of}
use Rattle.model.specs.Text.Lines.{line, line_end}
use Rattle.model.specs.Text.Numbers.{digits}
use Rattle.model.specs.Text.References.{dot_byte}
use Rattle.tables.specs.Singles.{single_count}
use Rattle.tables_text.specs.Keys.{content_key, entity_fields, triple_key, user_fields}
use Rattle.tables_text.specs.TextOf.{entity_words, field_lines, series, user_words}
use Rattle.tables_text.specs.Values.{place_line, triple_line}
use Rattle.record_writer.specs.FieldAt.{entity_line, entity_line_at, last_single, user_field_count, user_line, user_line_at}

-- ---- the lines of fields, word by word

pub user_fields_lem : (d : Tables) (u : ℕ) → field_lines user_fields 1 (user_words d u) ≡ series user_field_count 1 (user_line_at d u)
unfolding field_lines series user_line
user_fields_lem d u = refl

pub entity_fields_lem : (d : Tables) (e : ℕ) → field_lines entity_fields 0 (entity_words d e) ≡ series single_count 0 (entity_line_at d e)
unfolding field_lines series entity_line
entity_fields_lem d e = refl

-- the last of the single words, when it is none of the others
past_three : (j : ℕ) → (j ≡ 0 → ⊥) → (j ≡ 1 → ⊥) → (j ≡ 2 → ⊥) → (j ≡ 3 → ⊥) → 4 ≤ j
past_three j a b c d = omega arith

last_four : (j : ℕ) → 4 ≤ j → j < single_count → (j ≡ 4 → ⊥) → (j ≡ 5 → ⊥) → (j ≡ 6 → ⊥) → j ≡ last_single
last_four j h l a b c = omega arith

pub last_single_lem : (j : ℕ) → j < single_count
    → (j ≡ 0 → ⊥) → (j ≡ 1 → ⊥) → (j ≡ 2 → ⊥) → (j ≡ 3 → ⊥) → (j ≡ 4 → ⊥) → (j ≡ 5 → ⊥) → (j ≡ 6 → ⊥) → j ≡ last_single
last_single_lem j l a b c d e f g = last_four j (past_three j a b c d) l e f g

-- ---- a place and a triple, piece by piece

-- a dot and a number
abbrev pub part : ℕ → List ℕ
part n = dot_byte ∷ digits n

-- what follows the key of a place, and of a triple
abbrev pub place_rest : ℕ → List ℕ
place_rest s = part s ++ (line_end ∷ [])

abbrev pub triple_rest : ℕ → List ℕ
triple_rest x = part (operation_in x) ++ (part (position_of x) ++ (line_end ∷ []))

pub place_is : (e s : ℕ) → place_line (record { entity = e; sum = s }) ≡ content_key ++ (digits e ++ place_rest s)
unfolding line
place_is e s = simp (append_assoc, append-nil)

pub triple_is : (x : ℕ) → triple_line x ≡ triple_key ++ (digits (who_of x) ++ triple_rest x)
unfolding line
triple_is x = simp (append_assoc, append-nil)

-- how long they are
pub place_length : (e s : ℕ)
    → length (place_line (record { entity = e; sum = s })) ≡ length content_key + (length (digits e) + (length (digits s) + 2))
place_length e s = rw (place_is e s) (simp length-append (omega arith))

pub triple_length : (x : ℕ)
    → length (triple_line x) ≡ length triple_key + (length (digits (who_of x)) + (length (digits (operation_in x)) + (length (digits (position_of x)) + 3)))
triple_length x = rw (triple_is x) (simp length-append (omega arith))
