-- The lines of the tables' text, both ways (rules 16.2, 16.3 and 16.6): a line that is written of a value is read as that value, and what is read is what is
-- written of the value it gave. The first lines of records with two numbers exclude one another.
use Rattle.std.specs.Prelude.{Bool, ◌&&◌, false, true, List, [], ◌++◌, ◌∷◌, ◌≡◌, refl, ◌+◌, ◌<◌, ◌≤◌, ℕ, eqb, leb, ltb}
use Rattle.std.proofs.Common.{append_assoc, ◌∙◌, ap, subst, sym, arith, le-leb, leb-true, lt-ltb, ltb-true, ne_eqb}
use Rattle.model.specs.Basics.Cases.{cases, true_or_false}
use Rattle.model.specs.Tables.Words.{operation_in, operation_weight, position_of, who_of, who_weight}
use Rattle.model.specs.Text.LineLaws.{Form, behind_back, line_back, line_there, next_back, numbers}
use Rattle.model.specs.Text.Lines.{behind, line, line_end, next, read_line}
use Rattle.model.specs.Text.NumberLaws.{Back, Stops, number_back, number_there}
use Rattle.model.specs.Text.Numbers.{Read, bad, digits, got, most, number}
use Rattle.model.specs.Text.References.{dot_byte, dotted, joined}
use Rattle.model.specs.Text.Wording.{user_key}
use Rattle.tables_text.specs.Keys.{Field, content_key, entity_key, triple_key}
use Rattle.tables_text.specs.Values.{Parts, Place, dot_number, fitting, number_line, passing, place_line, place_text, read_field, read_parts}
use Rattle.tables_text.specs.Values.{read_place, read_triple, triple_line, triple_text, within, word_of}
use Rattle.std.proofs.lemmas.Bool.{eqb-false, not-true}

-- a test and another both hold
both : (a b : Bool) → (a && b) ≡ true → (a ≡ true) × (b ≡ true)
both true b e = (refl, e)
both false b e = let z : ◌≡◌ {A = ℕ} 0 1 = cc in absurd (omega arith)

-- what passes a test was read, and passes it
pub passing_back : {A : Type 0} (test : A → Bool) (r : Read A) (a : A) (x : List ℕ) → passing test r ≡ got a x → (test a ≡ true) × (r ≡ got a x)
passing_back test (got b y) a x e =
    cases (true_or_false (test b))
    (λ h. let z : got b y ≡ got a x = rw h at e in let eb : b ≡ a = cc in (ap test (sym eb) ∙ h, z))
    (λ h. let z : bad ≡ got a x = rw h at e in let y : ◌≡◌ {A = ℕ} 0 1 = cc in absurd (omega arith))
passing_back test bad a x e = let z : ◌≡◌ {A = ℕ} 0 1 = cc in absurd (omega arith)

-- ---- a number

-- Rule 16.3: the line of a number that a field may have is read as that number,
pub field_there : (f : Field) (n : ℕ) (x : List ℕ) → f.least ≤ n → n ≤ f.greatest → n ≤ most → read_field f (number_line f.key n ++ x) ≡ got n x
unfolding read_field
field_there f n x a b c = rw (line_there numbers f.key n x c, le-leb f.least n a, le-leb n f.greatest b)

-- and what is read as one is that line.
pub field_back : (f : Field) (s : List ℕ) (n : ℕ) (x : List ℕ) → read_field f s ≡ got n x
    → (f.least ≤ n) × (n ≤ f.greatest) × (n ≤ most) × (s ≡ number_line f.key n ++ x)
unfolding read_field
field_back f s n x e =
    let p : (within f n ≡ true) × (read_line f.key number s ≡ got n x) = passing_back (within f) (read_line f.key number s) n x e in
    let q : (leb f.least n ≡ true) × (leb n f.greatest ≡ true) = both (leb f.least n) (leb n f.greatest) p.0 in
    let b : (n ≤ most) × (s ≡ line f.key (digits n) ++ x) = line_back numbers f.key s n x p.1 in
    (leb-true f.least n q.0, leb-true n f.greatest q.1, b.0, b.1)

-- ---- a number after a dot

dot_there : (n : ℕ) (x : List ℕ) → n ≤ most → Stops x → dot_number (dot_byte ∷ (digits n ++ x)) ≡ got n x
dot_there n x h t = number_there n x h t

dot_back : (s : List ℕ) (n : ℕ) (x : List ℕ) → dot_number s ≡ got n x → (n ≤ most) × (s ≡ dot_byte ∷ (digits n ++ x))
dot_back s n x e =
    next_back (behind (dot_byte ∷ []) s) _ n x e λ _ t et e₁.
    let w : Back t n x = number_back t n x e₁ in
    (w.fits, behind_back (dot_byte ∷ []) s t et ∙ ap (λ l. dot_byte ∷ l) w.same)

-- ---- a place

abbrev PlaceFits : Place → Type 0
PlaceFits p = (p.entity ≤ most) × (p.sum ≤ most)

place_onto : (p : Place) (x : List ℕ) → place_text p ++ x ≡ digits p.entity ++ (dot_byte ∷ (digits p.sum ++ x))
place_onto p x =
    append_assoc (digits p.entity) (dotted (p.sum ∷ [])) x
    ∙ ap (λ l. digits p.entity ++ (dot_byte ∷ l)) (append_assoc (digits p.sum) [] x)

read_place_there : (p : Place) (x : List ℕ) → PlaceFits p → read_place (place_text p ++ (line_end ∷ x)) ≡ got p (line_end ∷ x)
read_place_there p x ok =
    rw (
      place_onto p (line_end ∷ x),
      number_there p.entity (dot_byte ∷ (digits p.sum ++ (line_end ∷ x))) ok.0 refl,
      number_there p.sum (line_end ∷ x) ok.1 refl,
    )

read_place_back : (s : List ℕ) (p : Place) (x : List ℕ) → read_place s ≡ got p x → PlaceFits p × (s ≡ place_text p ++ x)
read_place_back s p x e =
    next_back (number s) _ p x e λ a t ea e₁.
    next_back (dot_number t) _ p x e₁ λ n u en e₂.
    let q : Place = record { entity = a; sum = n } in
    let ep : q ≡ p = cc in
    let eu : u ≡ x = cc in
    let v : Back s a t = number_back s a t ea in
    let w : (n ≤ most) × (t ≡ dot_byte ∷ (digits n ++ u)) = dot_back t n u en in
    let same : s ≡ place_text q ++ u = v.same ∙ ap (λ l. digits a ++ l) w.1 ∙ sym (place_onto q u) in
    let r : PlaceFits q × (s ≡ place_text q ++ x) = ((v.fits, w.0), same ∙ ap (λ l. place_text q ++ l) eu) in
    subst (λ (o : Place). PlaceFits o × (s ≡ place_text o ++ x)) ep r

abbrev place_form : Form Place
place_form = record { write = place_text; read = read_place; Ok = PlaceFits; there = read_place_there; back = read_place_back }

-- Rule 16.2: the line of a place with two numbers of 32 bits is read as that place,
pub place_there : (p : Place) (x : List ℕ) → p.entity ≤ most → p.sum ≤ most → read_line content_key read_place (place_line p ++ x) ≡ got p x
place_there p x a b = line_there place_form content_key p x (a, b)

-- and what is read as one is that line.
pub place_back : (s : List ℕ) (p : Place) (x : List ℕ) → read_line content_key read_place s ≡ got p x
    → (p.entity ≤ most) × (p.sum ≤ most) × (s ≡ place_line p ++ x)
place_back s p x e = let b : PlaceFits p × (s ≡ place_line p ++ x) = line_back place_form content_key s p x e in (b.0.0, b.0.1, b.1)

-- ---- a triple

-- what three parts say
pub record Fits (p : Parts) : Type 0 where
  pub who : p.who < who_weight
  pub operation : p.operation < operation_weight
  pub position : p.position < operation_weight
  pub some : 1 ≤ p.who + p.operation + p.position

pub fits_fitting : (p : Parts) → Fits p → fitting p ≡ true
fits_fitting p f =
    let n : p.who + p.operation + p.position ≡ 0 → ⊥ = λ q. omega (arith, f.some) in
    rw (
      lt-ltb p.who who_weight f.who,
      lt-ltb p.operation operation_weight f.operation,
      lt-ltb p.position operation_weight f.position,
      ne_eqb (p.who + p.operation + p.position) 0 n,
    )

pub fitting_fits : (p : Parts) → fitting p ≡ true → Fits p
fitting_fits p e =
    let a : (ltb p.who who_weight ≡ true) × _ = both (ltb p.who who_weight) _ e in
    let b : (ltb p.operation operation_weight ≡ true) × _ = both (ltb p.operation operation_weight) _ a.1 in
    let c : (ltb p.position operation_weight ≡ true) × _ = both (ltb p.position operation_weight) _ b.1 in
    let n : eqb (p.who + p.operation + p.position) 0 ≡ false = not-true (eqb (p.who + p.operation + p.position) 0) c.1 in
    let z : p.who + p.operation + p.position ≡ 0 → ⊥ = eqb-false (p.who + p.operation + p.position) 0 n in
    record {
      who = ltb-true p.who who_weight a.0;
      operation = ltb-true p.operation operation_weight b.0;
      position = ltb-true p.position operation_weight c.0;
      some = omega arith;
    }

-- the parts of a word
abbrev pub parts_of : ℕ → Parts
parts_of t = record { who = who_of t; operation = operation_in t; position = position_of t }

-- the parts of a word of 32 bits that is not 0 fit, and it is their word
pub parts_fit : (t : ℕ) → 1 ≤ t → t ≤ most → Fits (parts_of t)
parts_fit t a b = record { who = omega arith; operation = omega arith; position = omega arith; some = omega arith }

pub word_parts : (t : ℕ) → word_of (parts_of t) ≡ t
word_parts t = omega arith

-- parts that fit are those of their word, which is of 32 bits and not 0
pub word_small : (p : Parts) → Fits p → (1 ≤ word_of p) × (word_of p ≤ most)
word_small p f = (omega (arith, f.who, f.operation, f.position, f.some), omega (arith, f.who, f.operation, f.position))

pub parts_word : (p : Parts) → Fits p → (who_of (word_of p) ≡ p.who) × (operation_in (word_of p) ≡ p.operation) × (position_of (word_of p) ≡ p.position)
parts_word p f =
    (omega (arith, f.who, f.operation, f.position), omega (arith, f.who, f.operation, f.position), omega (arith, f.who, f.operation, f.position))

-- three numbers, joined by dots
abbrev pub parts_text : Parts → List ℕ
parts_text p = joined (p.who ∷ p.operation ∷ p.position ∷ [])

parts_onto : (p : Parts) (x : List ℕ)
    → parts_text p ++ x ≡ digits p.who ++ (dot_byte ∷ (digits p.operation ++ (dot_byte ∷ (digits p.position ++ x))))
parts_onto p x =
    append_assoc (digits p.who) (dotted (p.operation ∷ p.position ∷ [])) x
    ∙ ap (λ l. digits p.who ++ (dot_byte ∷ l)) (append_assoc (digits p.operation) (dotted (p.position ∷ [])) x
    ∙ ap (λ l. digits p.operation ++ (dot_byte ∷ l)) (append_assoc (digits p.position) [] x))

read_parts_there : (p : Parts) (x : List ℕ) → Fits p → read_parts (parts_text p ++ (line_end ∷ x)) ≡ got p (line_end ∷ x)
read_parts_there p x f =
    rw (
      parts_onto p (line_end ∷ x),
      number_there p.who (dot_byte ∷ (digits p.operation ++ (dot_byte ∷ (digits p.position ++ (line_end ∷ x))))) (omega (arith, f.who)) refl,
      number_there p.operation (dot_byte ∷ (digits p.position ++ (line_end ∷ x))) (omega (arith, f.operation)) refl,
      number_there p.position (line_end ∷ x) (omega (arith, f.position)) refl,
    )

read_parts_back : (s : List ℕ) (p : Parts) (x : List ℕ) → read_parts s ≡ got p x → s ≡ parts_text p ++ x
read_parts_back s p x e =
    next_back (number s) _ p x e λ a t ea e₁.
    next_back (dot_number t) _ p x e₁ λ b u eb e₂.
    next_back (dot_number u) _ p x e₂ λ c v ec e₃.
    let q : Parts = record { who = a; operation = b; position = c } in
    let ep : q ≡ p = cc in
    let ev : v ≡ x = cc in
    let i : Back s a t = number_back s a t ea in
    let j : (b ≤ most) × (t ≡ dot_byte ∷ (digits b ++ u)) = dot_back t b u eb in
    let k : (c ≤ most) × (u ≡ dot_byte ∷ (digits c ++ v)) = dot_back u c v ec in
    let same : s ≡ parts_text q ++ v =
    i.same ∙ ap (λ l. digits a ++ l) (j.1 ∙ ap (λ l. dot_byte ∷ (digits b ++ l)) k.1) ∙ sym (parts_onto q v) in
    let r : s ≡ parts_text q ++ x = same ∙ ap (λ l. parts_text q ++ l) ev in
    subst (λ (o : Parts). s ≡ parts_text o ++ x) ep r

abbrev TripleFits : ℕ → Type 0
TripleFits t = (1 ≤ t) × (t ≤ most)

read_triple_there : (t : ℕ) (x : List ℕ) → TripleFits t → read_triple (triple_text t ++ (line_end ∷ x)) ≡ got t (line_end ∷ x)
read_triple_there t x ok =
    let f : Fits (parts_of t) = parts_fit t ok.0 ok.1 in
    let e : read_parts (triple_text t ++ (line_end ∷ x)) ≡ got (parts_of t) (line_end ∷ x) = read_parts_there (parts_of t) x f in
    let g : passing fitting (got (parts_of t) (line_end ∷ x)) ≡ got (parts_of t) (line_end ∷ x) = rw (fits_fitting (parts_of t) f) in
    ap (λ (r : Read Parts). next (passing fitting r) (λ p y. got (word_of p) y)) e
    ∙ ap (λ (r : Read Parts). next r (λ p y. got (word_of p) y)) g
    ∙ ap (λ (n : ℕ). got n (line_end ∷ x)) (word_parts t)

-- the text of parts that fit is that of their word
pub triple_same : (p : Parts) → Fits p → triple_text (word_of p) ≡ parts_text p
triple_same p f =
    let e : (who_of (word_of p) ≡ p.who) × (operation_in (word_of p) ≡ p.operation) × (position_of (word_of p) ≡ p.position) = parts_word p f in
    ap (λ (n : ℕ). joined (n ∷ operation_in (word_of p) ∷ position_of (word_of p) ∷ [])) e.0
    ∙ ap (λ (n : ℕ). joined (p.who ∷ n ∷ position_of (word_of p) ∷ [])) e.1
    ∙ ap (λ (n : ℕ). joined (p.who ∷ p.operation ∷ n ∷ [])) e.2

read_triple_back : (s : List ℕ) (t : ℕ) (x : List ℕ) → read_triple s ≡ got t x → TripleFits t × (s ≡ triple_text t ++ x)
read_triple_back s t x e =
    next_back (passing fitting (read_parts s)) _ t x e λ p u ep e₁.
    let et : word_of p ≡ t = cc in
    let eu : u ≡ x = cc in
    let b : (fitting p ≡ true) × (read_parts s ≡ got p u) = passing_back fitting (read_parts s) p u ep in
    let f : Fits p = fitting_fits p b.0 in
    let same : s ≡ triple_text (word_of p) ++ x =
    read_parts_back s p u b.1 ∙ ap (λ l. parts_text p ++ l) eu ∙ ap (λ l. l ++ x) (sym (triple_same p f)) in
    let r : TripleFits (word_of p) × (s ≡ triple_text (word_of p) ++ x) = (word_small p f, same) in
    subst (λ (n : ℕ). TripleFits n × (s ≡ triple_text n ++ x)) et r

abbrev triple_form : Form ℕ
triple_form = record { write = triple_text; read = read_triple; Ok = TripleFits; there = read_triple_there; back = read_triple_back }

-- Rule 16.2: the line of a word that is a triple is read as that word,
pub triple_there : (t : ℕ) (x : List ℕ) → 1 ≤ t → t ≤ most → read_line triple_key read_triple (triple_line t ++ x) ≡ got t x
triple_there t x a b = line_there triple_form triple_key t x (a, b)

-- and what is read as one is that line.
pub triple_back : (s : List ℕ) (t : ℕ) (x : List ℕ) → read_line triple_key read_triple s ≡ got t x → (1 ≤ t) × (t ≤ most) × (s ≡ triple_line t ++ x)
triple_back s t x e = let b : TripleFits t × (s ≡ triple_line t ++ x) = line_back triple_form triple_key s t x e in (b.0.0, b.0.1, b.1)

-- ---- the first line of a record

-- a line that does not stand there is not found
head_none : (l s : List ℕ) → ((x : List ℕ) → s ≡ l ++ x → ⊥) → behind l s ≡ bad
head_none l s n = go (behind l s) refl
  where
    go : (r : Read (Unit {0})) → behind l s ≡ r → r ≡ bad
    go (got u x) e = absurd (n x (behind_back l s x e))
    go bad e = refl

-- Rule 16.3: the lines of one key with two numbers exclude one another,
pub heads_apart : (key : List ℕ) (u v : ℕ) (x : List ℕ) → u ≤ most → v ≤ most → (u ≡ v → ⊥) → behind (number_line key u) (number_line key v ++ x) ≡ bad
heads_apart key u v x a b n = head_none (number_line key u) (number_line key v ++ x) λ y e.
    let p : read_line key number (number_line key v ++ x) ≡ got v x = line_there numbers key v x b in
    let q : read_line key number (number_line key u ++ y) ≡ got u y = line_there numbers key u y a in
    let r : got v x ≡ got u y = sym p ∙ ap (read_line key number) e ∙ q in
    let z : u ≡ v = cc in
    n z

-- and so do a user's and an entity's; nor is either at the end of a text.
pub user_not_entity : (u e : ℕ) (x : List ℕ) → behind (number_line user_key u) (number_line entity_key e ++ x) ≡ bad
unfolding line
user_not_entity u e x = refl

pub user_not_end : (u : ℕ) → behind (number_line user_key u) [] ≡ bad
unfolding line
user_not_end u = refl

pub entity_not_end : (e : ℕ) → behind (number_line entity_key e) [] ≡ bad
unfolding line
entity_not_end e = refl
