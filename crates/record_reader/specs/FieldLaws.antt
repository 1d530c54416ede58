-- The ways in which reading the line of a field ends.
use Rattle.std.specs.Prelude.{List, ◌≡◌, refl, Some, None, Option, leb, drop}
use Rattle.std.proofs.Common.{◌∙◌, sym, arith}
use Prim.Native.Nat.{◌<◌, ◌≤◌, zero-le, ℕ}
use Rattle.laws.specs.Bools.{and_r}
use Rattle.lines.specs.LineAt.{LineAt}
use Rattle.lines.specs.declared.reading.Number.{Number}
use Rattle.model.specs.Basics.Cases.{cases, true_or_false}
use Rattle.model.specs.Text.LineLaws.{line_back, numbers}
use Rattle.model.specs.Text.Lines.{read_line}
use Rattle.model.specs.Text.Numbers.{Read, bad, got, most, number}
use Rattle.record_reader.specs.FieldAt.{FieldAt}
use Rattle.tables_text.specs.Keys.{Field, any_number}
use Rattle.tables_text.specs.Values.{passing, read_field, within}
use borrow.Author.Tests.{le-leb, leb-true, lt-leb}

-- a field that may have any number asks no more than a line does
any_read : (key s : List ℕ) → read_field (any_number key) s ≡ read_line key number s
unfolding read_field
any_read key s = go (read_line key number s) refl
  where
    go : (r : Read ℕ) → read_line key number s ≡ r → passing (within (any_number key)) r ≡ r
    go bad e = refl
    go (got v x) e = rw (le-leb 0 v zero-le, le-leb v most (line_back numbers key s v x e).0)

pub any_field : {s : List ℕ} {at : ℕ} {key : List ℕ} {r : Option Number} → LineAt s at key r → FieldAt s at (any_number key) r
any_field {s} {at} {key} l = record { is = l.is ∙ sym (any_read key (drop at s)); within = l.within }

module _ {s : List ℕ} {at : ℕ} (f : Field) where
  -- there is no such line
  pub field_bad : LineAt s at f.key None → FieldAt s at f None
  unfolding read_field
  field_bad l = record { is = rw (← l.is); within = zero-le }

  -- its number is too small, or too large,
  pub field_under : {x : Number} → LineAt s at f.key (Some x) → x.v < f.least → FieldAt s at f None
  unfolding read_field
  field_under {x} l h = record { is = rw (← l.is, lt-leb f.least x.v h); within = zero-le }

  pub field_over : {x : Number} → LineAt s at f.key (Some x) → f.least ≤ x.v → f.greatest < x.v → FieldAt s at f None
  unfolding read_field
  field_over {x} l h g = record { is = rw (← l.is, le-leb f.least x.v h, lt-leb x.v f.greatest g); within = zero-le }

  -- or one that the field may have
  pub field_value : {x : Number} → LineAt s at f.key (Some x) → f.least ≤ x.v → x.v ≤ f.greatest → FieldAt s at f (Some x)
  unfolding read_field
  field_value {x} l h g = record { is = rw (← l.is, le-leb f.least x.v h, le-leb x.v f.greatest g); within = l.within }

-- a number that was read has 32 bits
pub line_fits : {s : List ℕ} {at : ℕ} {key : List ℕ} {x : Number} → LineAt s at key (Some x) → x.v ≤ most
line_fits {s} {at} {key} {x} l = (line_back numbers key (drop at s) x.v (drop x.next s) (sym l.is)).0

-- a number that a field was read to have is one that it may have
pub field_fits : {s : List ℕ} {at : ℕ} {f : Field} {n : Number} → FieldAt s at f (Some n) → n.v ≤ f.greatest
unfolding read_field
field_fits {s} {at} {f} {n} l = go (read_line f.key number (drop at s)) l.is
  where
    go : (r : Read ℕ) → got n.v (drop n.next s) ≡ passing (within f) r → n.v ≤ f.greatest
    go bad e = let z : ◌≡◌ {A = ℕ} 0 1 = cc in absurd (omega arith)
    go (got w x) e =
        cases (true_or_false (within f w))
        (λ h. let y : got n.v (drop n.next s) ≡ got w x = rw h at e in let q : n.v ≡ w = cc in omega (arith, leb-true w f.greatest (and_r (leb f.least w) _ h)))
        (λ h. let y : got n.v (drop n.next s) ≡ bad = rw h at e in let z : ◌≡◌ {A = ℕ} 0 1 = cc in absurd (omega arith))
