-- The first line that is bad or missing is no further than one behind the most lines that a text can have (rules 16.3 and 16.5).
use Rattle.std.specs.Prelude.{Bool, false, true, List, [], ◌∷◌, ◌≡◌, refl, ◌*◌, ◌+◌, ◌-◌, ◌≤◌, suc, zero, ℕ, eqb, length}
use Rattle.std.proofs.Common.{zero-le, arith}
use Rattle.model.specs.Basics.Choice.{pick}
use Rattle.model.specs.Tables.Layout.{word_count}
use Rattle.model.specs.Tables.Words.{entity_count, place_count, user_count}
use Rattle.tables_text.specs.Calls.{line_in, line_of, read_number}
use Rattle.tables_text.specs.Due.{Due, FirstBad, Follows, access, at_first, content, entities, field, fields_due, first, further, here, later, parts, place}
use Rattle.tables_text.specs.Due.{placed, places, places_due, triple, triples, triples_due, user, users, value}
use Rattle.tables_text.proofs.DueLaws.{stuck_first}
use Rattle.tables_text.specs.Keys.{Field}
use Rattle.tables_text.specs.LineMost.{entity_line_most, line_most, user_line_count}
use Rattle.tables_text.specs.Stages.{Stage, past, reading, stuck}

-- how many lines may still come: of the entities with numbers above e,
abbrev entities_left : ℕ → ℕ
entities_left e = entity_line_most * (entity_count - e)

-- and where σ is due
abbrev left : Due → ℕ
left (users u) = user_line_count * (user_count - u) + entities_left 0
left (entities e) = entities_left e
left (field f fs τ) = suc (length fs) + left τ
left (placed e) = suc (place_count + suc (place_count + entities_left e))
left (place k e) = suc (k + suc (place_count + entities_left e))
left (access e) = suc (place_count + entities_left e)
left (triple k e) = suc (k + entities_left e)

fields_left : (fs : List Field) (τ : Due) → left (fields_due fs τ) ≡ length fs + left τ
fields_left [] τ = omega arith
fields_left (f ∷ fs) τ = refl

places_left : (k e : ℕ) → left (places_due k e) ≡ k + suc (place_count + entities_left e)
places_left zero e = omega arith
places_left (suc k) e = omega arith

triples_left : (k e : ℕ) → left (triples_due k e) ≡ k + entities_left e
triples_left zero e = omega arith
triples_left (suc k) e = omega arith

-- a line leaves one less
follows_left : {σ τ : Due} {l : List ℕ} → Follows σ l τ → suc (left τ) ≤ left σ
follows_left (user a b) = omega arith
follows_left (first a b) = omega arith
follows_left (later a b) = omega arith
follows_left (value {fs = fs} {τ = τ} a b c) = omega (arith, fields_left fs τ)
follows_left (places {e = e} {n = n} a) = omega (arith, places_left n e)
follows_left (content {k = k} {e = e} a b) = omega (arith, places_left k e)
follows_left (triples {e = e} {n = n} a) = omega (arith, triples_left n e)
follows_left (parts {k = k} {e = e} a b c n) = omega (arith, triples_left k e)

first_left : {σ : Due} {s : List ℕ} {n : ℕ} → FirstBad σ s n → n ≤ suc (left σ)
first_left (here a b) = omega arith
first_left (further h f) = omega (arith, follows_left h, first_left f)

-- Rule 16.3: no text has its first bad line further on.
pub first_most : {s : List ℕ} {n : ℕ} → FirstBad at_first s n → n ≤ line_most
first_most f = omega (arith, first_left f)

-- It is counted from 1.
pub first_some : {σ : Due} {s : List ℕ} {n : ℕ} → FirstBad σ s n → 1 ≤ n
first_some (here a b) = omega arith
first_some (further h f) = omega arith

-- Rule 16.5: nor does its reading stop there.
pub line_most_lem : (s x : List ℕ) → reading s ≡ stuck x → line_of s x ≤ line_most
line_most_lem s x e = first_most (stuck_first s x e)

-- So the reader's number is no greater.
pub read_number_most : (s t : List ℕ) → read_number s t ≤ line_most
unfolding read_number
read_number_most s t = go (eqb (length t) word_count) (reading s) refl
  where
    go : (b : Bool) (g : Stage) → reading s ≡ g → pick b (line_in s g) 0 ≤ line_most
    go true (past d x) e = zero-le
    go true (stuck x) e = line_most_lem s x e
    go false g e = zero-le
