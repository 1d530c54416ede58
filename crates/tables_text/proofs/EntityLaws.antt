-- An entity's lines, one way (rules 16.2 and 16.6): what is read of them are tables whose entity has these lines.
use Rattle.std.specs.Prelude.{List, ◌++◌, ◌≢◌, ◌≡◌, ◌+◌, ◌<◌, ◌≤◌, ℕ}
use Rattle.std.proofs.Common.{inl, inr, ◌∙◌, ap, ap₂, sym, arith}
use Rattle.std.proofs.Math.Path.{fun_ext}
use Rattle.model.specs.Basics.Cases.{cases, lt_or_le}
use Rattle.model.specs.Tables.RowLaws.{before, sought}
use Rattle.model.specs.Tables.Rows.{Sought, seek}
use Rattle.model.specs.Tables.WordAt.{entity_word_at}
use Rattle.model.specs.Tables.Words.{EntityWord, Tables, place, place_count, places, shown, sums, tag, triple}
use Rattle.model.specs.Tables.Words.{triples, used, used_places}
use Rattle.model.specs.Text.Numbers.{most}
use Rattle.tables_text.proofs.FieldLaws.{At, Changed, fields_back, fields_same, ok_same, single_tag, singles}
use Rattle.tables_text.specs.Keys.{entity_fields, triples_field, triples_key}
use Rattle.tables_text.proofs.RowLaws.{InRow, PlaceSmall, Places, TripleSmall, places_back, triples_back}
use Rattle.tables_text.specs.StageLaws.{lines_onto, onward_back, or_stuck_back}
use Rattle.tables_text.specs.Stages.{entity_record, entity_stage, past, places_stage}
use Rattle.tables_text.specs.TextOf.{entity_words, field_lines, place_at, series, triple_at, triple_count}
use Rattle.tables_text.specs.Told.{EntityTold, FieldsOk}
use Rattle.tables_text.proofs.ValueLaws.{field_back}
use Rattle.tables_text.specs.Values.{number_line, place_line, read_field, triple_line}

-- the lines of an entity behind the one with its number
abbrev pub entity_rest : Tables → ℕ → List ℕ
entity_rest d e =
    field_lines entity_fields 0 (entity_words d e) ++ (series (used_places d e) 0 (place_at d e)
    ++ (number_line triples_key (triple_count d e) ++ series (triple_count d e) 0 (triple_at d e)))

-- its parts, one after another
parts_onto : (l m o p s s₁ s₂ s₃ x : List ℕ) → s ≡ l ++ s₁ → s₁ ≡ m ++ s₂ → s₂ ≡ o ++ s₃ → s₃ ≡ p ++ x → s ≡ (l ++ (m ++ (o ++ p))) ++ x
parts_onto l m o p s s₁ s₂ s₃ x a b c d = lines_onto l (m ++ (o ++ p)) s s₁ x a (lines_onto m (o ++ p) s₁ s₂ x b (lines_onto o p s₂ s₃ x c d))

-- the line of a place with these two words
abbrev pub line_of_place : ℕ → ℕ → List ℕ
line_of_place a b = place_line (record { entity = a; sum = b })

-- the lines of an entity behind its first are those of its words
pub rest_same : (c d : Tables) (e : ℕ) → c.entity e ≡ d.entity e → entity_rest c e ≡ entity_rest d e
rest_same c d e q =
    ap (λ (g : EntityWord → ℕ). field_lines entity_fields 0 (λ j. g (entity_word_at j)) ++ (series (g used) 0 (λ i. line_of_place (g (place i)) (g (shown i)))
    ++ (number_line triples_key (seek 0 (λ i. g (triple i)) place_count) ++ series (seek 0 (λ i. g (triple i)) place_count) 0
    (λ i. triple_line (g (triple i)))))) q

-- ---- how many triples there are

-- a row whose first n words are not zero, and the others are, has n before the first zero
pub count_is : (row : ℕ → ℕ) (n : ℕ) → n ≤ place_count → ((i : ℕ) → i < n → 1 ≤ row i) → ((i : ℕ) → n ≤ i → row i ≡ 0) → seek 0 row place_count ≡ n
count_is row n room some rest = go (seek 0 row place_count) (before 0 row place_count) (sought 0 row place_count)
  where
    ge : (k : ℕ) → ((i : ℕ) → i < k → row i ≢ 0) → k ≤ n
    ge k b = cases (lt_or_le n k) (λ l. absurd (b n l (rest n (omega arith)))) (λ l. l)

    go : (k : ℕ) → ((i : ℕ) → i < k → row i ≢ 0) → Sought 0 row place_count k → k ≡ n
    go k b (inl s) = let h : ¬ (k < n) = λ l. omega (arith, some k l, s.1) in omega (arith, ge k b)
    go k b (inr s) = omega (arith, ge k b, s.0)

-- there are no more than there is room for
pub count_most : (row : ℕ → ℕ) → seek 0 row place_count ≤ place_count
count_most row = go (seek 0 row place_count) (sought 0 row place_count)
  where
    go : (k : ℕ) → Sought 0 row place_count k → k ≤ place_count
    go k (inl s) = omega (arith, s.0)
    go k (inr s) = omega (arith, s.0)

pub count_some : (row : ℕ → ℕ) (i : ℕ) → i < seek 0 row place_count → 1 ≤ row i
count_some row i h = let n : row i ≢ 0 = before 0 row place_count i h in omega arith

-- what three steps of reading an entity left as it was
module _ (e n : ℕ) (d d₁ d₂ d' : Tables) (zero : (f : EntityWord) → d.entity e f ≡ 0)
    (c₁ : Changed e (At 0 singles) d d₁) (c₂ : Changed e (Places 0 (used_places d₁ e)) d₁ d₂) (c₃ : Changed e (InRow triple 0 n) d₂ d')
  where
    -- the single words are those of the first step,
    single_kept : (g : EntityWord) → tag g < singles → d₁.entity e g ≡ d'.entity e g
    single_kept g h = sym (c₃.entities e g (λ q a. omega (arith, a.0)) ∙ c₂.entities e g (λ q a. none a))
      where
        none : Places 0 (used_places d₁ e) g → ⊥
        none (inl a) = omega (arith, a.0)
        none (inr a) = omega (arith, a.0)

    used_kept : used_places d₁ e ≡ used_places d' e
    used_kept = single_kept used (omega arith)

    fields_kept : (i : ℕ) → 0 ≤ i → i < 0 + singles → entity_words d₁ e i ≡ entity_words d' e i
    fields_kept i a h = single_kept (entity_word_at i) (omega (arith, single_tag i (omega arith)))

    -- the places those of the second,
    place_kept : (i : ℕ) → places d₂ e i ≡ places d' e i
    place_kept i = sym (c₃.entities e (place i) (λ q a. omega (arith, a.0)))

    shown_kept : (i : ℕ) → sums d₂ e i ≡ sums d' e i
    shown_kept i = sym (c₃.entities e (shown i) (λ q a. omega (arith, a.0)))

    line_kept : place_at d₂ e ≡ place_at d' e
    line_kept = fun_ext (λ i. ap₂ line_of_place (place_kept i) (shown_kept i))

    -- and what is behind the places and triples is zero
    row_out : (g : EntityWord) → singles ≤ tag g → d₁.entity e g ≡ 0
    row_out g h = c₁.entities e g (λ q a. omega (arith, a.1)) ∙ zero g

    place_rest_lem : (i : ℕ) → used_places d' e ≤ i → (places d' e i ≡ 0) × (sums d' e i ≡ 0)
    place_rest_lem i h = (
      sym (place_kept i) ∙ c₂.entities e (place i) (λ q a. out_place a) ∙ row_out (place i) (omega arith),
      sym (shown_kept i) ∙ c₂.entities e (shown i) (λ q a. out_shown a) ∙ row_out (shown i) (omega arith),
    )
      where
        out_place : Places 0 (used_places d₁ e) (place i) → ⊥
        out_place (inl a) = omega (arith, a.2, used_kept)
        out_place (inr a) = omega (arith, a.0)

        out_shown : Places 0 (used_places d₁ e) (shown i) → ⊥
        out_shown (inl a) = omega (arith, a.0)
        out_shown (inr a) = omega (arith, a.2, used_kept)

    triple_rest_lem : (i : ℕ) → n ≤ i → triples d' e i ≡ 0
    triple_rest_lem i h = c₃.entities e (triple i) (λ q a. omega (arith, a.2)) ∙ c₂.entities e (triple i) (λ q a. none a) ∙ row_out (triple i) (omega arith)
      where
        none : Places 0 (used_places d₁ e) (triple i) → ⊥
        none (inl a) = omega (arith, a.0)
        none (inr a) = omega (arith, a.0)

    away : (x : ℕ) → x ≢ e → d'.entity x ≡ d.entity x
    away x ne = fun_ext (λ g. c₃.entities x g (λ q a. ne q) ∙ c₂.entities x g (λ q a. ne q) ∙ c₁.entities x g (λ q a. ne q))

    others : d'.user ≡ d.user
    others = c₃.users ∙ c₂.users ∙ c₁.users

-- Rule 16.2: what is read of an entity's lines has these lines.
pub entity_record_back : (e : ℕ) (d : Tables) (s : List ℕ) (d' : Tables) (x : List ℕ) → ((f : EntityWord) → d.entity e f ≡ 0) → entity_record e d s ≡ past d' x
    → (d'.user ≡ d.user) × ((y : ℕ) → y ≢ e → d'.entity y ≡ d.entity y) × EntityTold (d'.entity e) × (s ≡ entity_rest d' e ++ x)
unfolding entity_record
entity_record_back e d s d' x z q =
    onward_back (entity_stage e entity_fields 0 d s) _ d' x q λ d₁ s₁ p₁ q₁.
    onward_back (places_stage e (used_places d₁ e) 0 d₁ s₁) _ d' x q₁ λ d₂ s₂ p₂ q₂.
    or_stuck_back s₂ (read_field triples_field s₂) _ d' x q₂ λ n s₃ p₃ q₃.
    let f : Changed e (At 0 singles) d d₁ × (s ≡ field_lines entity_fields 0 (entity_words d₁ e) ++ s₁) × FieldsOk entity_fields 0 (entity_words d₁ e) =
    fields_back e entity_fields 0 d s d₁ s₁ (omega arith) p₁ in
    let p : Changed e (Places 0 (used_places d₁ e)) d₁ d₂ × (s₁ ≡ series (used_places d₁ e) 0 (place_at d₂ e) ++ s₂)
    × ((m : ℕ) → 0 ≤ m → m < 0 + used_places d₁ e → PlaceSmall d₂ e m) = places_back e (used_places d₁ e) 0 d₁ s₁ d₂ s₂ p₂ in
    let b : (0 ≤ n) × (n ≤ place_count) × (n ≤ most) × (s₂ ≡ number_line triples_key n ++ s₃) = field_back triples_field s₂ n s₃ p₃ in
    let t : Changed e (InRow triple 0 n) d₂ d' × (s₃ ≡ series n 0 (triple_at d' e) ++ x) × ((m : ℕ) → 0 ≤ m → m < 0 + n → TripleSmall d' e m) =
    triples_back e n 0 d₂ s₃ d' x q₃ in
    let u : used_places d₁ e ≡ used_places d' e = used_kept e n d d₁ d₂ d' z f.0 p.0 t.0 in
    let k : triple_count d' e ≡ n =
    count_is (triples d' e) n b.1 (λ i h. (t.2 i (omega arith) (omega arith)).0) (triple_rest_lem e n d d₁ d₂ d' z f.0 p.0 t.0) in
    let same : (i : ℕ) → 0 ≤ i → i < 0 + singles → entity_words d₁ e i ≡ entity_words d' e i = fields_kept e n d d₁ d₂ d' z f.0 p.0 t.0 in
    let l₁ : s ≡ field_lines entity_fields 0 (entity_words d' e) ++ s₁ =
    f.1 ∙ ap (λ l. l ++ s₁) (fields_same entity_fields 0 (entity_words d₁ e) (entity_words d' e) same) in
    let l₂ : s₁ ≡ series (used_places d' e) 0 (place_at d' e) ++ s₂ =
    p.1 ∙ ap₂ (λ (m : ℕ) (g : ℕ → List ℕ). series m 0 g ++ s₂) u (line_kept e n d d₁ d₂ d' z f.0 p.0 t.0) in
    let l₃ : s₂ ≡ number_line triples_key (triple_count d' e) ++ s₃ = b.3 ∙ ap (λ (m : ℕ). number_line triples_key m ++ s₃) (sym k) in
    let l₄ : s₃ ≡ series (triple_count d' e) 0 (triple_at d' e) ++ x = t.1 ∙ ap (λ (m : ℕ). series m 0 (triple_at d' e) ++ x) (sym k) in
    let told : EntityTold (d'.entity e) = record {
      fields = ok_same entity_fields 0 (entity_words d₁ e) (entity_words d' e) same f.2;
      places = λ i h. place_small d₂ i (p.2 i (omega arith) (omega arith)) (place_kept e n d d₁ d₂ d' z f.0 p.0 t.0 i)
          (shown_kept e n d d₁ d₂ d' z f.0 p.0 t.0 i);
      places_rest = place_rest_lem e n d d₁ d₂ d' z f.0 p.0 t.0;
      triples = λ i h. (t.2 i (omega arith) (omega arith)).1;
      triples_rest = λ i h. triple_rest_lem e n d d₁ d₂ d' z f.0 p.0 t.0 i (omega arith);
    } in (
      others e n d d₁ d₂ d' z f.0 p.0 t.0,
      away e n d d₁ d₂ d' z f.0 p.0 t.0,
      told,
      parts_onto (field_lines entity_fields 0 (entity_words d' e)) (series (used_places d' e) 0 (place_at d' e)) (number_line triples_key (triple_count d' e))
          (series (triple_count d' e) 0 (triple_at d' e)) s s₁ s₂ s₃ x l₁ l₂ l₃ l₄,
    )
  where
    place_small : (c : Tables) (i : ℕ) → PlaceSmall c e i → places c e i ≡ places d' e i → sums c e i ≡ sums d' e i
        → (d'.entity e (place i) ≤ most) × (d'.entity e (shown i) ≤ most)
    place_small c i h v w = (omega (arith, h.0), omega (arith, h.1))
