-- One line inside a record (rule 16.3): what reads it, and which lines may come there, are the same; and what is due behind it.
use Rattle.std.specs.Prelude.{List, ◌++◌, ◌∷◌, [], ◌≡◌, refl, ◌+◌, ◌≤◌, ℕ}
use Rattle.std.proofs.Common.{◌∙◌, ap, sym, arith}
use Rattle.model.specs.Basics.Cases.{cases, lt_or_le}
use Rattle.model.specs.Tables.Words.{Tables, operation_in, place_count, position_of, who_of}
use Rattle.model.specs.Text.Lines.{line, read_line}
use Rattle.model.specs.Text.Numbers.{Read, bad, digits, got, most}
use Rattle.model.specs.Text.Unfinished.{ends}
use Rattle.tables_text.specs.Due.{Due, Follows, MayEnd, access, after_entities, after_users, content, entities, field, fields_due, parts, place}
use Rattle.tables_text.specs.Due.{placed, places, places_due, triple, triples, triples_due, users, value}
use Rattle.tables_text.specs.EndsLaws.{ends_digits, ends_joined, ends_line}
use Rattle.tables_text.specs.Keys.{Field, content_key, places_field, triple_key, triples_field}
use Rattle.tables_text.specs.PassedLaws.{Passed, Tells, line_passed, none_stopped, stops, tells_behind}
use Rattle.tables_text.specs.Stages.{Stage, or_stuck}
use Rattle.tables_text.proofs.ValueLaws.{Fits, field_back, field_there, parts_fit, parts_of, parts_text, place_back, place_there, triple_back, triple_same}
use Rattle.tables_text.proofs.ValueLaws.{triple_there, word_small}
use Rattle.tables_text.specs.Values.{Parts, Place, number_line, place_line, place_text, read_field, read_place, read_triple, triple_line, triple_text}
use Rattle.tables_text.specs.Values.{word_of}

-- ---- what reads a line

-- the line l, behind which ρ is due, is read by r as a value a, whatever follows; δ says what is due behind a value
pub record ReadAs {A : Type 0} (r : List ℕ → Read A) (δ : A → Due) (l : List ℕ) (ρ : Due) : Type 0 where
  pub given : A
  pub read : (x : List ℕ) → r (l ++ x) ≡ got given x
  pub due : ρ ≡ δ given

-- such a line is not bad,
not_bad : {A : Type 0} {r : List ℕ → Read A} {δ : A → Due} {s l : List ℕ} {ρ : Due} (x : List ℕ) → ReadAs r δ l ρ → r s ≡ bad → s ≡ l ++ x → ⊥
not_bad {r = r} x a e q = let z : bad ≡ got a.given x = sym e ∙ ap r q ∙ a.read x in let y : ◌≡◌ {A = ℕ} 0 1 = cc in omega arith

-- and of two at the front of the same bytes the same follows.
pub same_rest : {A : Type 0} {r : List ℕ → Read A} {δ : A → Due} {l m : List ℕ} {ρ π : Due} (x y : List ℕ) → ReadAs r δ l ρ → ReadAs r δ m π
    → l ++ x ≡ m ++ y → (ρ ≡ π) × (x ≡ y)
same_rest {r = r} {δ = δ} x y a b q =
    let z : got a.given x ≡ got b.given y = sym (a.read x) ∙ ap r q ∙ b.read y in
    let v : a.given ≡ b.given = cc in
    let w : x ≡ y = cc in
    (a.due ∙ ap δ v ∙ sym b.due, w)

-- The reader r is that of the lines which may come where σ is due: it reads each, what it reads is one, and one must come.
pub record Ruled {A : Type 0} (σ : Due) (r : List ℕ → Read A) (δ : A → Due) : Type 0 where
  pub inside : MayEnd σ → ⊥
  pub there : (l : List ℕ) (ρ : Due) → Follows σ l ρ → ReadAs r δ l ρ
  pub back : (s : List ℕ) (a : A) (x : List ℕ) → r s ≡ got a x → Passed σ (δ a) s x

-- Then a stage of this line and the next ones tells of the bytes what the next ones tell of the rest.
module _ {A : Type 0} {σ : Due} {r : List ℕ → Read A} {δ : A → Due} (u : Ruled σ r δ) where
  pub tells_line : {T : Tables → Due} (s : List ℕ) (f : A → List ℕ → Stage) → ((a : A) (x : List ℕ) → Tells (δ a) T x (f a x)) → Tells σ T s
      (or_stuck s (r s) f)
  tells_line {T} s f rest = go (r s) refl
    where
      go : (v : Read A) → r s ≡ v → Tells σ T s (or_stuck s v f)
      go (got a x) e = tells_behind (u.back s a x e) (rest a x)
      go bad e = stops (none_stopped (λ _ m. u.inside m) (λ l x ρ h q. not_bad x (u.there l ρ h) e q))

-- inside a record no text may end
abbrev Between : Due → Type 0
Between (users u) = Unit {0}
Between (entities e) = Unit {0}
Between (field f fs τ) = ⊥
Between (placed e) = ⊥
Between (place k e) = ⊥
Between (access e) = ⊥
Between (triple k e) = ⊥

between : {σ : Due} → MayEnd σ → Between σ
between after_users = tt
between after_entities = tt

-- ---- the line of a field

pub number_ends : (key : List ℕ) (n : ℕ) → ends key ≡ 0 → ends (number_line key n) ≡ 1
number_ends key n e = ends_line key (digits n) e (ends_digits n)

pub value_read : {f : Field} {fs : List Field} {τ ρ : Due} {l : List ℕ} → Follows (field f fs τ) l ρ → ReadAs (read_field f) (λ n. fields_due fs τ) l ρ
value_read {f} (value {n = n} a b c) = record { given = n; read = λ x. field_there f n x a b c; due = refl }

pub field_ruled : (f : Field) (fs : List Field) (τ : Due) → ends f.key ≡ 0 → Ruled (field f fs τ) (read_field f) (λ n. fields_due fs τ)
field_ruled f fs τ u = record { inside = λ m. between m; there = λ l ρ h. value_read h; back = back }
  where
    back : (s : List ℕ) (n : ℕ) (x : List ℕ) → read_field f s ≡ got n x → Passed (field f fs τ) (fields_due fs τ) s x
    back s n x e =
        let b : (f.least ≤ n) × (n ≤ f.greatest) × (n ≤ most) × (s ≡ number_line f.key n ++ x) = field_back f s n x e in
        line_passed (value b.0 b.1 b.2) (number_ends f.key n u) b.3

-- ---- how many places, and a place

pub places_read : {e : ℕ} {ρ : Due} {l : List ℕ} → Follows (placed e) l ρ → ReadAs (read_field places_field) (λ n. places_due n e) l ρ
places_read (places {n = n} h) = record { given = n; read = λ x. field_there places_field n x (omega arith) h (omega arith); due = refl }

pub placed_ruled : (e : ℕ) → Ruled (placed e) (read_field places_field) (λ n. places_due n e)
placed_ruled e = record { inside = λ m. between m; there = λ l ρ h. places_read h; back = back }
  where
    back : (s : List ℕ) (n : ℕ) (x : List ℕ) → read_field places_field s ≡ got n x → Passed (placed e) (places_due n e) s x
    back s n x q =
        let b : (0 ≤ n) × (n ≤ place_count) × (n ≤ most) × (s ≡ number_line places_field.key n ++ x) = field_back places_field s n x q in
        line_passed (places b.1) (number_ends places_field.key n refl) b.3

pub content_read : {k e : ℕ} {ρ : Due} {l : List ℕ} → Follows (place k e) l ρ → ReadAs (read_line content_key read_place) (λ p. places_due k e) l ρ
content_read (content {p = p} a b) = record { given = p; read = λ x. place_there p x a b; due = refl }

pub place_ruled : (k e : ℕ) → Ruled (place k e) (read_line content_key read_place) (λ p. places_due k e)
place_ruled k e = record { inside = λ m. between m; there = λ l ρ h. content_read h; back = back }
  where
    back : (s : List ℕ) (p : Place) (x : List ℕ) → read_line content_key read_place s ≡ got p x → Passed (place k e) (places_due k e) s x
    back s p x q =
        let b : (p.entity ≤ most) × (p.sum ≤ most) × (s ≡ place_line p ++ x) = place_back s p x q in
        line_passed (content b.0 b.1) (ends_line content_key (place_text p) refl (ends_joined (p.entity ∷ p.sum ∷ []))) b.2

-- ---- how many triples, and a triple

pub triples_read : {e : ℕ} {ρ : Due} {l : List ℕ} → Follows (access e) l ρ → ReadAs (read_field triples_field) (λ n. triples_due n e) l ρ
triples_read (triples {n = n} h) = record { given = n; read = λ x. field_there triples_field n x (omega arith) h (omega arith); due = refl }

pub access_ruled : (e : ℕ) → Ruled (access e) (read_field triples_field) (λ n. triples_due n e)
access_ruled e = record { inside = λ m. between m; there = λ l ρ h. triples_read h; back = back }
  where
    back : (s : List ℕ) (n : ℕ) (x : List ℕ) → read_field triples_field s ≡ got n x → Passed (access e) (triples_due n e) s x
    back s n x q =
        let b : (0 ≤ n) × (n ≤ place_count) × (n ≤ most) × (s ≡ number_line triples_field.key n ++ x) = field_back triples_field s n x q in
        line_passed (triples b.1) (number_ends triples_field.key n refl) b.3

parts_read : (p : Parts) → Fits p → (x : List ℕ) → read_line triple_key read_triple (line triple_key (parts_text p) ++ x) ≡ got (word_of p) x
parts_read p f x =
    let b : (1 ≤ word_of p) × (word_of p ≤ most) = word_small p f in
    ap (λ (v : List ℕ). read_line triple_key read_triple (line triple_key v ++ x)) (sym (triple_same p f)) ∙ triple_there (word_of p) x b.0 b.1

some_part : (w o p : ℕ) → (w ≡ 0 → o ≡ 0 → p ≡ 0 → ⊥) → 1 ≤ w + o + p
some_part w o p n =
    cases (lt_or_le 0 (w + o + p)) (λ h. omega arith) (λ h. absurd (n (omega arith) (omega arith) (omega arith)))

pub triple_read : {k e : ℕ} {ρ : Due} {l : List ℕ} → Follows (triple k e) l ρ → ReadAs (read_line triple_key read_triple) (λ t. triples_due k e) l ρ
triple_read (parts {w = w} {o = o} {p = p} a b c n) = record {
  given = word_of (record { who = w; operation = o; position = p });
  read = parts_read (record { who = w; operation = o; position = p }) (record { who = a; operation = b; position = c; some = some_part w o p n });
  due = refl;
}

pub triple_ruled : (k e : ℕ) → Ruled (triple k e) (read_line triple_key read_triple) (λ t. triples_due k e)
triple_ruled k e = record { inside = λ m. between m; there = λ l ρ h. triple_read h; back = back }
  where
    back : (s : List ℕ) (t : ℕ) (x : List ℕ) → read_line triple_key read_triple s ≡ got t x → Passed (triple k e) (triples_due k e) s x
    back s t x q =
        let b : (1 ≤ t) × (t ≤ most) × (s ≡ triple_line t ++ x) = triple_back s t x q in
        let f : Fits (parts_of t) = parts_fit t b.0 b.1 in
        let n : who_of t ≡ 0 → operation_in t ≡ 0 → position_of t ≡ 0 → ⊥ = λ i j k. omega (arith, f.some) in
        line_passed (parts f.who f.operation f.position n)
        (ends_line triple_key (triple_text t) refl (ends_joined (who_of t ∷ operation_in t ∷ position_of t ∷ []))) b.2
