-- Document 02, M-103; rule 16.3: what stands behind the equals sign of a line: a number within bounds, a place, or a triple.
use Rattle.std.specs.Prelude.{Bool, ◌&&◌, not, List, [], ◌∷◌, ◌+◌, ℕ, eqb, leb, ltb}
use Rattle.model.specs.Basics.Choice.{pick}
use Rattle.model.specs.Tables.Words.{operation_in, operation_weight, position_of, triple_of, who_of, who_weight}
use Rattle.model.specs.Text.Lines.{behind, line, next, read_line}
use Rattle.model.specs.Text.Numbers.{Read, bad, digits, got, number}
use Rattle.model.specs.Text.References.{dot_byte, joined}
use Rattle.tables_text.specs.Keys.{Field, content_key, triple_key}

-- what was read, if it passes a test
abbrev pub passing : {A : Type 0} → (A → Bool) → Read A → Read A
passing test (got a x) = pick (test a) (got a x) bad
passing test bad = bad

-- whether a number is within the bounds of a field; that it is of 32 bits, its reading sees to
abbrev pub within : Field → ℕ → Bool
within f n = leb f.least n && leb n f.greatest

-- Rule 16.3: a line of a field, read.
unfoldable pub read_field : Field → List ℕ → Read ℕ
read_field f s = passing (within f) (read_line f.key number s)

-- the numbers of a place: the entity that stands there, and how much of it is shown
pub record Place : Type 0 where
  pub entity : ℕ
  pub sum : ℕ

-- Rule 16.2: both, joined by a dot.
abbrev pub place_text : Place → List ℕ
place_text p = joined (p.entity ∷ p.sum ∷ [])

-- a number after a dot
abbrev pub dot_number : List ℕ → Read ℕ
dot_number s = next (behind (dot_byte ∷ []) s) (λ _ t. number t)

abbrev pub read_place : List ℕ → Read Place
read_place s = next (number s) (λ e t. next (dot_number t) (λ n u. got (record { entity = e; sum = n }) u))

-- the three parts of a triple: who, operation and position
pub record Parts : Type 0 where
  pub who : ℕ
  pub operation : ℕ
  pub position : ℕ

abbrev pub read_parts : List ℕ → Read Parts
read_parts s = next (number s) (λ w t. next (dot_number t) (λ o u. next (dot_number u) (λ p v. got (record { who = w; operation = o; position = p }) v)))

-- Rule 16.3: who is 65,535 at most, operation and position 255, and not all three are 0. So each word but 0 is the triple of one text.
abbrev pub fitting : Parts → Bool
fitting p = ltb p.who who_weight && (ltb p.operation operation_weight && (ltb p.position operation_weight
    && not (eqb (p.who + p.operation + p.position) 0)))

-- Rule 16.2: the parts of the word t, joined by dots.
abbrev pub triple_text : ℕ → List ℕ
triple_text t = joined (who_of t ∷ operation_in t ∷ position_of t ∷ [])

-- the word that three parts are
abbrev pub word_of : Parts → ℕ
word_of p = triple_of p.who p.operation p.position

abbrev pub read_triple : List ℕ → Read ℕ
read_triple s = next (passing fitting (read_parts s)) (λ p x. got (word_of p) x)

-- Rule 16.2: the line of a place and of a triple, written,
abbrev pub place_line : Place → List ℕ
place_line p = line content_key (place_text p)

abbrev pub triple_line : ℕ → List ℕ
triple_line t = line triple_key (triple_text t)

-- and the line of a number.
abbrev pub number_line : List ℕ → ℕ → List ℕ
number_line key n = line key (digits n)
