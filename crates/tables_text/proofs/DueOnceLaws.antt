-- The line rules settle a text (rule 16.3): there is one first bad line at most, and none in a text that keeps the rules. So what reading says of the bytes
-- holds the other way round, too.
use Rattle.std.specs.Prelude.{List, [], ◌++◌, ◌≡◌, refl, ◌≤◌, suc, ℕ}
use Rattle.std.proofs.Common.{◌∙◌, ap, subst, sym, arith}
use Rattle.model.specs.Tables.Words.{Tables}
use Rattle.model.specs.Text.LineLaws.{line_there, numbers}
use Rattle.model.specs.Text.Lines.{read_line}
use Rattle.model.specs.Text.Numbers.{most, number}
use Rattle.model.specs.Text.Wording.{user_key}
use Rattle.tables_text.specs.Calls.{line_of}
use Rattle.tables_text.specs.Due.{Due, FirstBad, Follows, MayEnd, Whole, access, after_entities, after_users, at_first, end, entities, field}
use Rattle.tables_text.specs.Due.{fields_due, first, further, here, later, onward, place, placed, triple, user, users}
use Rattle.tables_text.proofs.DueLaws.{head_not, past_end, past_whole, stuck_first}
use Rattle.tables_text.specs.Keys.{entity_key, single_fields, user_fields}
use Rattle.tables_text.proofs.RuledLaws.{ReadAs, content_read, places_read, same_rest, triple_read, triples_read, value_read}
use Rattle.tables_text.specs.Stages.{Stage, past, reading, stuck}
use Rattle.tables_text.proofs.ValueLaws.{entity_not_end, user_not_end, user_not_entity}
use Rattle.tables_text.specs.Values.{number_line}

-- ---- one line

-- the first line of a record is read as its number
head_read : (key : List ℕ) (δ : ℕ → Due) (n : ℕ) → n ≤ most → ReadAs (read_line key number) δ (number_line key n) (δ n)
head_read key δ n h = record { given = n; read = λ x. line_there numbers key n x h; due = refl }

heads_same : (key : List ℕ) (δ : ℕ → Due) (n m : ℕ) (x y : List ℕ) → n ≤ most → m ≤ most → number_line key n ++ x ≡ number_line key m ++ y
    → (δ n ≡ δ m) × (x ≡ y)
heads_same key δ n m x y a b q = same_rest x y (head_read key δ n a) (head_read key δ m b) q

-- a user's is no entity's
heads_differ : {C : Type 0} (u e : ℕ) (x y : List ℕ) → number_line user_key u ++ x ≡ number_line entity_key e ++ y → C
heads_differ u e x y q = head_not (number_line user_key u) (number_line entity_key e ++ y) x (user_not_entity u e y) (sym q)

users_one : {u : ℕ} {ρ π : Due} {l m : List ℕ} (x y : List ℕ) → Follows (users u) l ρ → Follows (users u) m π → l ++ x ≡ m ++ y → (ρ ≡ π) × (x ≡ y)
users_one x y (user {v = v} a b) (user {v = w} c d) q =
    heads_same user_key (λ n. fields_due user_fields (users n)) v w x y (omega arith) (omega arith) q
users_one x y (user {v = v} a b) (first {e = e} c d) q = heads_differ v e x y q
users_one x y (first {e = e} a b) (user {v = v} c d) q = heads_differ v e y x (sym q)
users_one x y (first {e = e} a b) (first {e = f} c d) q =
    heads_same entity_key (λ n. fields_due single_fields (placed n)) e f x y (omega arith) (omega arith) q

entities_one : {e : ℕ} {ρ π : Due} {l m : List ℕ} (x y : List ℕ) → Follows (entities e) l ρ → Follows (entities e) m π → l ++ x ≡ m ++ y
    → (ρ ≡ π) × (x ≡ y)
entities_one x y (later {v = v} a b) (later {v = w} c d) q =
    heads_same entity_key (λ n. fields_due single_fields (placed n)) v w x y (omega arith) (omega arith) q

-- A good line is settled by the bytes: what follows it, and what is due there.
pub follows_one : {σ ρ π : Due} {l m : List ℕ} (x y : List ℕ) → Follows σ l ρ → Follows σ m π → l ++ x ≡ m ++ y → (ρ ≡ π) × (x ≡ y)
follows_one {σ = users u} x y h k q = users_one x y h k q
follows_one {σ = entities e} x y h k q = entities_one x y h k q
follows_one {σ = field f fs τ} x y h k q = same_rest x y (value_read h) (value_read k) q
follows_one {σ = placed e} x y h k q = same_rest x y (places_read h) (places_read k) q
follows_one {σ = place n e} x y h k q = same_rest x y (content_read h) (content_read k) q
follows_one {σ = access e} x y h k q = same_rest x y (triples_read h) (triples_read k) q
follows_one {σ = triple n e} x y h k q = same_rest x y (triple_read h) (triple_read k) q

-- where a text may end, a line that may come has a byte
follows_some : {σ ρ : Due} {l : List ℕ} (x : List ℕ) → MayEnd σ → Follows σ l ρ → [] ≡ l ++ x → ⊥
follows_some x after_users (user {v = v} a b) q = head_not (number_line user_key v) [] x (user_not_end v) q
follows_some x after_users (first {e = e} a b) q = head_not (number_line entity_key e) [] x (entity_not_end e) q
follows_some x after_entities (later {v = v} a b) q = head_not (number_line entity_key v) [] x (entity_not_end v) q

-- ---- the two are exclusive, and the line is one

-- There is one first bad line at most,
first_same : {σ : Due} {s t : List ℕ} {n m : ℕ} → FirstBad σ s n → FirstBad σ t m → s ≡ t → n ≡ m
first_same (here p out) (here p' out') q = refl
first_same (here p out) (further {τ = τ} {l = l} {x = x} h f) q = absurd (out l x τ h q)
first_same (further {τ = τ} {l = l} {x = x} h f) (here p out) q = absurd (out l x τ h (sym q))
first_same (further {x = x} h f) (further {x = y} {n = m} k g) q = let w = follows_one x y h k q in
    ap suc (first_same f (subst (λ τ. FirstBad τ y m) (sym w.0) g) w.1)

pub first_unique : {σ : Due} {s : List ℕ} {n m : ℕ} → FirstBad σ s n → FirstBad σ s m → n ≡ m
first_unique f g = first_same f g refl

-- and none where the bytes keep the rules.
not_both : {σ : Due} {s t : List ℕ} {n : ℕ} → Whole σ s → FirstBad σ t n → s ≡ t → ⊥
not_both (end m) (here p out) q = p (sym q) m
not_both (end m) (further {x = x} h f) q = follows_some x m h q
not_both (onward {τ = τ} {l = l} {x = x} h w) (here p out) q = out l x τ h (sym q)
not_both (onward {x = x} h w) (further {x = y} {n = n} k g) q = let r = follows_one x y h k q in
    not_both w (subst (λ τ. FirstBad τ y n) (sym r.0) g) r.1

pub whole_first : {σ : Due} {s : List ℕ} {n : ℕ} → Whole σ s → FirstBad σ s n → ⊥
whole_first w f = not_both w f refl

-- ---- reading

-- Rule 16.5: reading stops at the first line that is bad or missing,
pub first_stuck : (s : List ℕ) (n : ℕ) → FirstBad at_first s n → (x : List ℕ) × (reading s ≡ stuck x) × (line_of s x ≡ n)
first_stuck s n f = go (reading s) refl
  where
    go : (r : Stage) → reading s ≡ r → (x : List ℕ) × (reading s ≡ stuck x) × (line_of s x ≡ n)
    go (past d x) e = absurd (whole_first (past_whole s d x e) f)
    go (stuck x) e = (x, e, first_unique (stuck_first s x e) f)

-- and a text that keeps the rules is read to its end.
pub whole_past : (s : List ℕ) → Whole at_first s → (d : Tables) × (reading s ≡ past d [])
whole_past s w = go (reading s) refl
  where
    go : (r : Stage) → reading s ≡ r → (d : Tables) × (reading s ≡ past d [])
    go (past d x) e = (d, e ∙ ap (past d) (past_end s d x e))
    go (stuck x) e = absurd (whole_first w (stuck_first s x e))
