-- Reading a text and the line rules of its bytes say the same (rules 16.3 and 16.5): where the reading stops, the first line that is bad or missing begins,
-- and a text that is read to its end keeps the rules.
use Rattle.std.specs.Prelude.{List, [], ◌++◌, ◌∷◌, ◌≡◌, refl, ◌+◌, ◌-◌, suc, zero, ℕ, length, take}
use Rattle.std.proofs.Common.{◌∙◌, ap, subst, sym, arith, length-append, take_at, eq-eqb}
use Rattle.model.specs.Basics.Cases.{cases, lt_or_le}
use Rattle.model.specs.Tables.Edits.{on_entity, on_user, user_word, word}
use Rattle.model.specs.Tables.WordAt.{entity_word_at, entity_word_of, user_word_at}
use Rattle.model.specs.Tables.Words.{Tables, entity_count, present, used_places, user_count}
use Rattle.model.specs.Tables.Words as tables
use Rattle.model.specs.Text.LineLaws.{behind_back, behind_there}
use Rattle.model.specs.Text.Lines.{behind}
use Rattle.model.specs.Text.Numbers.{Read, bad, got}
use Rattle.model.specs.Text.Unfinished.{ends}
use Rattle.model.specs.Text.Wording.{user_key}
use Rattle.tables_text.specs.Calls.{line_of}
use Rattle.tables_text.specs.Due.{Due, FirstBad, Follows, Whole, access, after_entities, after_users, at_first, end, entities, fields_due, first}
use Rattle.tables_text.specs.Due.{later, placed, places_due, triples_due, user, users}
use Rattle.tables_text.specs.Keys.{Field, entity_key, places_field, single_fields, user_fields}
use Rattle.tables_text.specs.PassedLaws.{Passed, Stopped, Tells, line_passed, none_stopped, passed_none, passes, stops, tells_behind}
use Rattle.tables_text.specs.PassedLaws.{tells_onward, weaker_passed}
use Rattle.tables_text.proofs.RuledLaws.{access_ruled, field_ruled, number_ends, place_ruled, placed_ruled, tells_line, triple_ruled}
use Rattle.tables_text.specs.Stages.{Stage, at_end, either, entities_stage, entity_record, entity_stage, no_tables, onward, past, places_stage}
use Rattle.tables_text.specs.Stages.{put_place, reading, stuck, triples_stage, user_record, user_stage, users_stage}
use Rattle.tables_text.specs.Values.{number_line}

-- no line ends in a key of these fields
abbrev Unbroken : List Field → Type 0
Unbroken [] = Unit {0}
Unbroken (f ∷ fs) = (ends f.key ≡ 0) × Unbroken fs

-- ---- the lines of a user

user_fields_lem : (fs : List Field) → Unbroken fs → (u j : ℕ) (d : Tables) (s : List ℕ) (τ : Due) → Tells (fields_due fs τ) (λ _. τ) s (user_stage u fs j d s)
unfolding user_stage
user_fields_lem [] k u j d s τ = passes passed_none
user_fields_lem (f ∷ fs) k u j d s τ =
    tells_line (field_ruled f fs τ k.0) s _ λ n x. user_fields_lem fs k.1 u (suc j) (on_user u (user_word (user_word_at j) n) d) x τ

user_tells : (u : ℕ) (d : Tables) (s : List ℕ) → Tells (fields_due user_fields (users u)) (λ _. users u) s (user_record u d s)
unfolding user_record
user_tells u d s = user_fields_lem user_fields (refl, (refl, (refl, (refl, (refl, (refl, (refl, tt))))))) u 1 (on_user u (user_word present 1) d) s (users u)

-- ---- the lines of an entity

-- how many places are used stands in the word after the single ones
used_now : (e n : ℕ) (d : Tables) → used_places (on_entity e (word (entity_word_at (length single_fields)) n) d) e ≡ n
unfolding entity_word_at entity_word_of
used_now e n d = rw (eq-eqb e e refl)

entity_fields_lem : (fs : List Field) → Unbroken fs → (e j : ℕ) (d : Tables) (s : List ℕ) → length single_fields ≡ j + length fs
    → Tells (fields_due fs (placed e)) (λ d. places_due (used_places d e) e) s (entity_stage e (fs ++ (places_field ∷ [])) j d s)
unfolding entity_stage
entity_fields_lem [] k e j d s h = tells_line (placed_ruled e) s _ λ n x. passes
    (subst (λ m. Passed (places_due n e) (places_due m e) x x) (used n) passed_none)
  where
    used : (n : ℕ) → n ≡ used_places (on_entity e (word (entity_word_at j) n) d) e
    used n = let i : length single_fields ≡ j = omega arith in sym (used_now e n d) ∙ ap (λ m. used_places (on_entity e (word (entity_word_at m) n) d) e) i
entity_fields_lem (f ∷ fs) k e j d s h =
    tells_line (field_ruled f fs (placed e) k.0) s _ λ n x. entity_fields_lem fs k.1 e (suc j) (on_entity e (word (entity_word_at j) n) d) x (omega arith)

places_tells : (k e i : ℕ) (d : Tables) (s : List ℕ) → Tells (places_due k e) (λ _. access e) s (places_stage e k i d s)
unfolding places_stage
places_tells zero e i d s = passes passed_none
places_tells (suc k) e i d s = tells_line (place_ruled k e) s _ λ p x. places_tells k e (suc i) (put_place e i p d) x

triples_tells : (k e i : ℕ) (d : Tables) (s : List ℕ) → Tells (triples_due k e) (λ _. entities e) s (triples_stage e k i d s)
unfolding triples_stage
triples_tells zero e i d s = passes passed_none
triples_tells (suc k) e i d s = tells_line (triple_ruled k e) s _ λ t x. triples_tells k e (suc i) (on_entity e (word (tables.triple i) t) d) x

entity_tells : (e : ℕ) (d : Tables) (s : List ℕ) → Tells (fields_due single_fields (placed e)) (λ _. entities e) s (entity_record e d s)
unfolding entity_record
entity_tells e d s =
    tells_onward _ (entity_fields_lem single_fields (refl, (refl, (refl, (refl, (refl, (refl, (refl, tt))))))) e 0 d s refl) λ d₁ s₁.
    tells_onward _ (places_tells (used_places d₁ e) e 0 d₁ s₁) λ d₂ s₂.
    tells_line (access_ruled e) s₂ _ λ n s₃. triples_tells n e 0 d₂ s₃

-- ---- the first line of a record, which may be there

tells_either : {σ τ : Due} {T : Tables → Due} (l s : List ℕ) (f : List ℕ → Stage) (t : Stage) → Follows σ l τ → ends l ≡ 1
    → ((x : List ℕ) → Tells τ T x (f x)) → (behind l s ≡ bad → Tells σ T s t) → Tells σ T s (either (behind l s) (λ _ x. f x) t)
tells_either {σ} {τ} {T} l s f t h one rest none = go (behind l s) refl
  where
    go : (r : Read (Unit {0})) → behind l s ≡ r → Tells σ T s (either r (λ _ x. f x) t)
    go (got _ x) e = tells_behind (line_passed h one (behind_back l s x e)) (rest x)
    go bad e = none e

-- a line that is not found does not stand there
pub head_not : {C : Type 0} (l s x : List ℕ) → behind l s ≡ bad → s ≡ l ++ x → C
head_not l s x e q =
    let z : bad ≡ got tt x = sym e ∙ ap (behind l) q ∙ behind_there l x in let y : ◌≡◌ {A = ℕ} 0 1 = cc in absurd (omega arith)

-- Where the line of user u + 1 is not the next, that user may be passed over,
user_may_lem : {u : ℕ} {l : List ℕ} {ρ : Due} → Follows (users (suc u)) l ρ → Follows (users u) l ρ
user_may_lem {u} (user {v = v} a b) = user {u = u} {v = v} (omega arith) b
user_may_lem (first a b) = first a b

user_must : {u : ℕ} {l s : List ℕ} {ρ : Due} (x : List ℕ) → behind (number_line user_key (suc u)) s ≡ bad → Follows (users u) l ρ → s ≡ l ++ x
    → Follows (users (suc u)) l ρ
user_must {u} {s = s} x e (user {v = v} a b) q =
    cases (lt_or_le (suc u) v)
    (λ h. user {u = suc u} (omega arith) b)
    (λ h. let i : v ≡ suc u = omega arith in head_not (number_line user_key (suc u)) s x e (q ∙ ap (λ (n : ℕ). number_line user_key n ++ x) i))
user_must x e (first a b) q = first a b

user_over : (u : ℕ) (s : List ℕ) → behind (number_line user_key (suc u)) s ≡ bad → Passed (users u) (users (suc u)) s s
user_over u s e = weaker_passed (record {
  may = λ l ρ h. user_may_lem h;
  must = λ l x ρ h q. user_must x e h q;
  ends_may = λ m. after_users;
  ends_must = λ m. after_users;
})

-- and so may an entity.
entity_may_lem : {e : ℕ} {l : List ℕ} {ρ : Due} → Follows (entities (suc e)) l ρ → Follows (entities e) l ρ
entity_may_lem {e} (later {v = v} a b) = later {e = e} {v = v} (omega arith) b

entity_must : {e : ℕ} {l s : List ℕ} {ρ : Due} (x : List ℕ) → behind (number_line entity_key (suc e)) s ≡ bad → Follows (entities e) l ρ → s ≡ l ++ x
    → Follows (entities (suc e)) l ρ
entity_must {e} {s = s} x n (later {v = v} a b) q =
    cases (lt_or_le (suc e) v)
    (λ h. later h b)
    (λ h. let i : v ≡ suc e = omega arith in head_not (number_line entity_key (suc e)) s x n (q ∙ ap (λ (n : ℕ). number_line entity_key n ++ x) i))

entity_over : (e : ℕ) (s : List ℕ) → behind (number_line entity_key (suc e)) s ≡ bad → Passed (entities e) (entities (suc e)) s s
entity_over e s n = weaker_passed (record {
  may = λ l ρ h. entity_may_lem h;
  must = λ l x ρ h q. entity_must x n h q;
  ends_may = λ m. after_entities;
  ends_must = λ m. after_entities;
})

-- Behind the last user only entities may come.
last_may : {l : List ℕ} {ρ : Due} → Follows (entities 0) l ρ → Follows (users user_count) l ρ
last_may (later a b) = first a b

last_must : {l : List ℕ} {ρ : Due} → Follows (users user_count) l ρ → Follows (entities 0) l ρ
last_must (user a b) = absurd (omega arith)
last_must (first a b) = later a b

users_over : (s : List ℕ) → Passed (users user_count) (entities 0) s s
users_over s = weaker_passed (record {
  may = λ l ρ h. last_may h;
  must = λ l x ρ h q. last_must h;
  ends_may = λ m. after_users;
  ends_must = λ m. after_entities;
})

-- ---- a whole text

users_tell : (k u : ℕ) (d : Tables) (s : List ℕ) → u + k ≡ user_count → Tells (users u) (λ _. users user_count) s (users_stage k (suc u) d s)
unfolding users_stage
users_tell zero u d s h =
    let i : u ≡ user_count = omega arith in subst (λ (n : ℕ). Tells (users n) (λ _. users user_count) s (past d s)) (sym i) (passes passed_none)
users_tell (suc k) u d s h =
    tells_either (number_line user_key (suc u)) s _ _ (user {u = u} {v = suc u} (omega arith) (omega arith)) (number_ends user_key (suc u) refl)
    (λ x. tells_onward _ (user_tells (suc u) d x) λ d₁ y. users_tell k (suc u) d₁ y (omega arith))
    (λ e. tells_behind (user_over u s e) (users_tell k (suc u) d s (omega arith)))

entities_tell : (k e : ℕ) (d : Tables) (s : List ℕ) → e + k ≡ entity_count
    → Tells (entities e) (λ _. entities entity_count) s (entities_stage k (suc e) d s)
unfolding entities_stage
entities_tell zero e d s h =
    let i : e ≡ entity_count = omega arith in subst (λ (n : ℕ). Tells (entities n) (λ _. entities entity_count) s (past d s)) (sym i) (passes passed_none)
entities_tell (suc k) e d s h =
    tells_either (number_line entity_key (suc e)) s _ _ (later {e = e} {v = suc e} (omega arith) (omega arith)) (number_ends entity_key (suc e) refl)
    (λ x. tells_onward _ (entity_tells (suc e) d x) λ d₁ y. entities_tell k (suc e) d₁ y (omega arith))
    (λ n. tells_behind (entity_over e s n) (entities_tell k (suc e) d s (omega arith)))

-- behind the last entity nothing may come
none_last : {l : List ℕ} {ρ : Due} → Follows (entities entity_count) l ρ → ⊥
none_last (later a b) = omega arith

end_tells : (d : Tables) (s : List ℕ) → Tells (entities entity_count) (λ _. entities entity_count) s (at_end d s)
end_tells d [] = passes passed_none
end_tells d (b ∷ s) = stops (none_stopped (λ e m. let z : ◌≡◌ {A = ℕ} 0 1 = cc in omega arith) (λ l x ρ h q. none_last h))

text_tells : (s : List ℕ) → Tells at_first (λ _. entities entity_count) s (reading s)
unfolding reading
text_tells s =
    tells_onward _ (users_tell user_count 0 no_tables s refl) λ d x.
    tells_onward _ (tells_behind (users_over x) (entities_tell entity_count 0 d x refl)) λ d₁ y. end_tells d₁ y

-- what is read is read to its end
end_read : (r : Stage) (d : Tables) (x : List ℕ) → onward r at_end ≡ past d x → x ≡ []
end_read (past d₁ []) d x e = cc
end_read (past d₁ (b ∷ y)) d x e = let z : ◌≡◌ {A = ℕ} 0 1 = cc in absurd (omega arith)
end_read (stuck y) d x e = let z : ◌≡◌ {A = ℕ} 0 1 = cc in absurd (omega arith)

pub past_end : (s : List ℕ) (d : Tables) (x : List ℕ) → reading s ≡ past d x → x ≡ []
unfolding reading
past_end s d x = go (users_stage user_count 1 no_tables s)
  where
    go : (r : Stage) → onward r (λ d x. onward (entities_stage entity_count 1 d x) at_end) ≡ past d x → x ≡ []
    go (past d₁ y) e = end_read (entities_stage entity_count 1 d₁ y) d x e
    go (stuck y) e = let z : ◌≡◌ {A = ℕ} 0 1 = cc in absurd (omega arith)

-- Rule 16.5: a text that is read keeps the line rules,
pub past_whole : (s : List ℕ) (d : Tables) (x : List ℕ) → reading s ≡ past d x → Whole at_first s
past_whole s d x e = go (subst (Tells at_first (λ _. entities entity_count) s) e (text_tells s)) (past_end s d x e)
  where
    go : Tells at_first (λ _. entities entity_count) s (past d x) → x ≡ [] → Whole at_first s
    go (passes p) q = p.whole (subst (Whole (entities entity_count)) (sym q) (end after_entities))

stuck_stopped : (s x : List ℕ) → reading s ≡ stuck x → Stopped at_first s x
stuck_stopped s x e = go (subst (Tells at_first (λ _. entities entity_count) s) e (text_tells s))
  where
    go : Tells at_first (λ _. entities entity_count) s (stuck x) → Stopped at_first s x
    go (stops p) = p

line_of_lem : (s p x : List ℕ) → s ≡ p ++ x → line_of s x ≡ suc (ends p)
line_of_lem s p x e =
    let n : length p ≡ length s - length x = omega (arith, ap length e, length-append p x) in
    ap (λ (l : List ℕ). suc (ends l)) (ap (take (length s - length x)) e ∙ take_at p x (length s - length x) n)

-- and where a reading stops, the line there is the first that is bad or missing.
pub stuck_first : (s x : List ℕ) → reading s ≡ stuck x → FirstBad at_first s (line_of s x)
stuck_first s x e =
    let t : Stopped at_first s x = stuck_stopped s x e in
    subst (FirstBad at_first s) (sym (line_of_lem s t.lines x t.is)) t.first
