-- An entity's lines, the other way (rules 16.2 and 16.6): the lines of an entity that can be told are read as that entity.
use Rattle.std.specs.Prelude.{List, ◌++◌, ◌≢◌, ◌≡◌, ◌+◌, ◌<◌, ◌≤◌, ℕ, eqb, ltb}
use Rattle.std.proofs.Common.{append_assoc, inl, inr, ◌∙◌, ap₂, sym, arith}
use Rattle.std.proofs.Math.Path.{ap, fun_ext, refl}
use Rattle.model.specs.Basics.Cases.{cases, lt_or_le}
use Rattle.model.specs.Basics.Choice.{pick}
use Rattle.model.specs.Tables.WordAt.{entity_word_at}
use Rattle.model.specs.Tables.Words.{EntityWord, Tables, kind, level, mark, maximum, place, releaser, shown, tag, triple}
use Rattle.model.specs.Tables.Words.{triples, type, used, used_places, value}
use Rattle.model.specs.Text.Numbers.{most}
use Rattle.tables_text.proofs.EntityLaws.{count_most, count_some, entity_rest, line_of_place}
use Rattle.tables_text.proofs.FieldLaws.{At, Changed, fields_same, fields_there, ok_same, single_tag, singles}
use Rattle.tables_text.specs.Keys.{entity_fields, triples_field, triples_key}
use Rattle.tables_text.specs.OnlyLaws.{Only, eq_or_ne}
use Rattle.tables_text.proofs.RowLaws.{InRow, PlaceSmall, Places, TripleSmall, places_there, triples_there}
use Rattle.tables_text.specs.StageLaws.{onward_there, or_stuck_there}
use Rattle.tables_text.specs.Stages.{entity_record, entity_stage, past, places_stage}
use Rattle.tables_text.specs.TextOf.{entity_words, field_lines, place_at, series, triple_at, triple_count}
use Rattle.tables_text.specs.Told.{EntityTold}
use Rattle.tables_text.proofs.ValueLaws.{field_there}
use Rattle.tables_text.specs.Values.{number_line, read_field}
use borrow.Author.Tests.{eq-eqb, le-ltb, lt-ltb, ne_eqb}

-- the entity's words with a tag below b as in d', and the others as in d
unfoldable mix : ℕ → ℕ → Tables → Tables → Tables
mix b e d d' = record { user = d.user; entity = λ x g. pick (eqb x e) (pick (ltb (tag g) b) (d'.entity x g) (d.entity x g)) (d.entity x g) }

module _ (b e : ℕ) (d d' : Tables) where
  mix_low : (g : EntityWord) → tag g < b → (mix b e d d').entity e g ≡ d'.entity e g
  unfolding mix
  mix_low g h = rw (eq-eqb e e refl, lt-ltb (tag g) b h)

  mix_high : (g : EntityWord) → b ≤ tag g → (mix b e d d').entity e g ≡ d.entity e g
  unfolding mix
  mix_high g h = rw (eq-eqb e e refl, le-ltb (tag g) b h)

  mix_away : (x : ℕ) (g : EntityWord) → x ≢ e → (mix b e d d').entity x g ≡ d.entity x g
  unfolding mix
  mix_away x g n = rw (ne_eqb x e n)

  mix_users : (mix b e d d').user ≡ d.user
  unfolding mix
  mix_users = refl

module _ (e : ℕ) (d d' : Tables) (zero : (f : EntityWord) → d.entity e f ≡ 0) (users : d'.user ≡ d.user)
    (away : (y : ℕ) → y ≢ e → d'.entity y ≡ d.entity y) (told : EntityTold (d'.entity e))
  where
    -- the tables behind the single words, and behind the places
    abbrev one : Tables
    one = mix singles e d d'

    abbrev two : Tables
    two = mix (tag (triple 0)) e d d'

    -- at the entity's own number, or another
    here_or : (S : EntityWord → Type 0) (r r' : ℕ → EntityWord → ℕ) → ((g : EntityWord) → (S g → ⊥) → r' e g ≡ r e g)
        → ((y : ℕ) (g : EntityWord) → y ≢ e → r' y g ≡ r y g) → Only e S r r'
    here_or S r r' h a y g n =
        cases (eq_or_ne y e)
        (λ q. ap (λ (k : ℕ). r' k g) q ∙ h g (λ z. n q z) ∙ sym (ap (λ (k : ℕ). r k g) q))
        (λ q. a y g q)

    step_one : Changed e (At 0 singles) d one
    step_one = record { users = mix_users singles e d d'; entities = here_or (At 0 singles) d.entity one.entity at (mix_away singles e d d') }
      where
        at : (g : EntityWord) → (At 0 singles g → ⊥) → one.entity e g ≡ d.entity e g
        at g n = cases (lt_or_le (tag g) singles) (λ l. absurd (n (omega arith, omega arith))) (λ l. mix_high singles e d d' g l)

    used_one : used_places one e ≡ used_places d' e
    used_one = mix_low singles e d d' used (omega arith)

    step_two : Changed e (Places 0 (used_places one e)) one two
    step_two = record {
      users = mix_users (tag (triple 0)) e d d' ∙ sym (mix_users singles e d d');
      entities = here_or (Places 0 (used_places one e)) one.entity two.entity at
          (λ y g n. mix_away (tag (triple 0)) e d d' y g n ∙ sym (mix_away singles e d d' y g n));
    }
      where
        low : (g : EntityWord) → tag g < singles → two.entity e g ≡ one.entity e g
        low g h = mix_low (tag (triple 0)) e d d' g (omega arith) ∙ sym (mix_low singles e d d' g h)

        empty : (g : EntityWord) → singles ≤ tag g → one.entity e g ≡ 0
        empty g h = mix_high singles e d d' g h ∙ zero g

        at : (g : EntityWord) → (Places 0 (used_places one e) g → ⊥) → two.entity e g ≡ one.entity e g
        at kind n = low kind (omega arith)
        at type n = low type (omega arith)
        at level n = low level (omega arith)
        at mark n = low mark (omega arith)
        at value n = low value (omega arith)
        at releaser n = low releaser (omega arith)
        at maximum n = low maximum (omega arith)
        at used n = low used (omega arith)
        at (place i) n =
            cases (lt_or_le i (used_places one e))
            (λ l. absurd (n (inl (refl, omega arith, omega arith))))
            (λ l. mix_low (tag (triple 0)) e d d' (place i) (omega arith) ∙ (told.places_rest i (omega (arith, used_one))).0
            ∙ sym (empty (place i) (omega arith)))
        at (shown i) n =
            cases (lt_or_le i (used_places one e))
            (λ l. absurd (n (inr (refl, omega arith, omega arith))))
            (λ l. mix_low (tag (triple 0)) e d d' (shown i) (omega arith) ∙ (told.places_rest i (omega (arith, used_one))).1
            ∙ sym (empty (shown i) (omega arith)))
        at (triple i) n = mix_high (tag (triple 0)) e d d' (triple i) (omega arith) ∙ sym (mix_high singles e d d' (triple i) (omega arith))

    step_three : Changed e (InRow triple 0 (triple_count d' e)) two d'
    step_three = record {
      users = users ∙ sym (mix_users (tag (triple 0)) e d d');
      entities = here_or (InRow triple 0 (triple_count d' e)) two.entity d'.entity at
          (λ y g n. ap (λ (w : EntityWord → ℕ). w g) (away y n) ∙ sym (mix_away (tag (triple 0)) e d d' y g n));
    }
      where
        low : (g : EntityWord) → tag g < tag (triple 0) → d'.entity e g ≡ two.entity e g
        low g h = sym (mix_low (tag (triple 0)) e d d' g h)

        at : (g : EntityWord) → (InRow triple 0 (triple_count d' e) g → ⊥) → d'.entity e g ≡ two.entity e g
        at kind n = low kind (omega arith)
        at type n = low type (omega arith)
        at level n = low level (omega arith)
        at mark n = low mark (omega arith)
        at value n = low value (omega arith)
        at releaser n = low releaser (omega arith)
        at maximum n = low maximum (omega arith)
        at used n = low used (omega arith)
        at (place i) n = low (place i) (omega arith)
        at (shown i) n = low (shown i) (omega arith)
        at (triple i) n =
            cases (lt_or_le i (triple_count d' e))
            (λ l. absurd (n (refl, omega arith, omega arith)))
            (λ l. told.triples_rest i l ∙ sym (mix_high (tag (triple 0)) e d d' (triple i) (omega arith) ∙ zero (triple i)))

    -- the words that lines tell are those of d' by then
    fields_one : (i : ℕ) → 0 ≤ i → i < 0 + singles → entity_words d' e i ≡ entity_words one e i
    fields_one i a h = sym (mix_low singles e d d' (entity_word_at i) (omega (arith, single_tag i (omega arith))))

    line_two : place_at two e ≡ place_at d' e
    line_two =
        fun_ext (λ i. ap₂ line_of_place (mix_low (tag (triple 0)) e d d' (place i) (omega arith)) (mix_low (tag (triple 0)) e d d' (shown i) (omega arith)))

    place_two : (i : ℕ) → 0 ≤ i → i < 0 + used_places one e → PlaceSmall two e i
    place_two i a h =
        let t : (d'.entity e (place i) ≤ most) × (d'.entity e (shown i) ≤ most) = told.places i (omega (arith, used_one)) in (
          omega (arith, t.0, mix_low (tag (triple 0)) e d d' (place i) (omega arith)),
          omega (arith, t.1, mix_low (tag (triple 0)) e d d' (shown i) (omega arith)),
        )

    triple_three : (i : ℕ) → 0 ≤ i → i < 0 + triple_count d' e → TripleSmall d' e i
    triple_three i a h = (count_some (triples d' e) i (omega arith), told.triples i (omega arith))

    module _ (x : List ℕ) where
      -- what is left to read after each step
      abbrev after3 : List ℕ
      after3 = series (triple_count d' e) 0 (triple_at d' e) ++ x

      abbrev after2 : List ℕ
      after2 = number_line triples_key (triple_count d' e) ++ after3

      abbrev after1 : List ℕ
      after1 = series (used_places one e) 0 (place_at two e) ++ after2

      rest_onto : entity_rest d' e ++ x ≡ field_lines entity_fields 0 (entity_words one e) ++ after1
      rest_onto =
          append_assoc (field_lines entity_fields 0 (entity_words d' e)) _ x
          ∙ ap₂ (λ (l m : List ℕ). l ++ m) (fields_same entity_fields 0 (entity_words d' e) (entity_words one e) fields_one)
          (append_assoc (series (used_places d' e) 0 (place_at d' e)) _ x
          ∙ ap₂ (λ (l m : List ℕ). l ++ m) (ap₂ (λ (m : ℕ) (g : ℕ → List ℕ). series m 0 g) (sym used_one) (sym line_two))
          (append_assoc (number_line triples_key (triple_count d' e)) (series (triple_count d' e) 0 (triple_at d' e)) x))

      -- Rule 16.2: and the lines of an entity that can be told are read as that entity.
      pub entity_record_there : entity_record e d (entity_rest d' e ++ x) ≡ past d' x
      unfolding entity_record
      entity_record_there =
          ap (entity_record e d) rest_onto
          ∙ onward_there (entity_stage e entity_fields 0 d (field_lines entity_fields 0 (entity_words one e) ++ after1)) _ one after1 (past d' x)
          (fields_there e entity_fields 0 d one after1 (omega arith) step_one
          (ok_same entity_fields 0 (entity_words d' e) (entity_words one e) fields_one told.fields))
          (onward_there (places_stage e (used_places one e) 0 one after1) _ two after2 (past d' x)
          (places_there e (used_places one e) 0 one two after2 step_two place_two)
          (or_stuck_there after2 (read_field triples_field after2) _ (triple_count d' e) after3 (past d' x)
          (field_there triples_field (triple_count d' e) after3 (omega arith) (count_most (triples d' e)) (omega (arith, count_most (triples d' e))))
          (triples_there e (triple_count d' e) 0 two d' x step_three triple_three)))
