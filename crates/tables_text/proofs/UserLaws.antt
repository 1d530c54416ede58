-- A user's lines, both ways (rules 16.1 and 16.6): what is read of them are tables whose user has these lines, and the lines of a user are read as that user.
use mathlib.Core.List.{List, [], ◌++◌, ◌∷◌, append_assoc}
use Rattle.std.specs.Prelude.{◌≢◌, ◌⊎◌, ◌≡◌, ◌+◌, ◌<◌, ◌≤◌, suc, ℕ, length}
use Rattle.std.proofs.Common.{inl, inr, ◌∙◌, subst}
use Rattle.std.proofs.Math.Path.{ap, fun_ext, refl, sym}
use native.Mathlib.Omega.{arith}
use Rattle.model.specs.Basics.Cases.{cases, lt_or_le}
use Rattle.model.specs.Tables.Edits.{on_user, user_word}
use Rattle.model.specs.Tables.Layout.{user_offset, user_width}
use Rattle.model.specs.Tables.WordAt.{user_word_at}
use Rattle.model.specs.Tables.WordAtLaws.{user_offset_at, user_word_back, user_word_same}
use Rattle.model.specs.Tables.Words.{Tables, UserWord, authorised, clearance, current, device, held, held_op, missed, present, spare, user_index, user_tag}
use Rattle.model.specs.Text.Numbers.{most}
use Rattle.tables_text.specs.Keys.{Field, user_fields}
use Rattle.tables_text.specs.OnlyLaws.{Only, eq_or_ne, only_at, only_back, only_there}
use Rattle.tables_text.specs.StageLaws.{lines_onto, or_stuck_back}
use Rattle.tables_text.specs.Stages.{past, user_record, user_stage}
use Rattle.tables_text.specs.TextOf.{field_lines, user_words}
use Rattle.tables_text.specs.Told.{FieldsOk, UserTold}
use Rattle.tables_text.proofs.ValueLaws.{field_back, field_there}
use Rattle.tables_text.specs.Values.{number_line, read_field}

-- k words of a user from word j on
abbrev At : ℕ → ℕ → UserWord → Type 0
At j k g = (j ≤ user_offset g) × (user_offset g < j + k)

-- the tables d' differ from d in the words S of user u only
record Changed (u : ℕ) (S : UserWord → Type 0) (d d' : Tables) : Type 0 where
  entities : d'.entity ≡ d.entity
  users : Only u S d.user d'.user

-- one of k + 1 words is the first, or one of the others
first_or : (j k : ℕ) (g : UserWord) → At j (suc k) g → (g ≡ user_word_at j) ⊎ At (suc j) k g
first_or j k g a =
    cases (lt_or_le j (user_offset g))
    (λ l. inr (l, omega (arith, a.1)))
    (λ l. let q : user_offset g ≡ j = omega (arith, a.0) in inl (sym (user_word_back g) ∙ ap user_word_at q))

module _ (u : ℕ) where
  -- lines of fields that are read
  fields_back : (fs : List Field) (j : ℕ) (d : Tables) (s : List ℕ) (d' : Tables) (x : List ℕ) → j + length fs ≤ user_width → user_stage u fs j d s ≡ past d' x
      → Changed u (At j (length fs)) d d' × (s ≡ field_lines fs j (user_words d' u) ++ x) × FieldsOk fs j (user_words d' u)
  unfolding user_stage field_lines
  fields_back [] j d s d' x h e =
      let p : d ≡ d' = cc in
      let q : s ≡ x = cc in
      (subst (λ (c : Tables). Changed u (At j 0) d c) p (record { entities = refl; users = λ y g n. refl }), q, tt)
  fields_back (f ∷ fs) j d s d' x h e =
      or_stuck_back s (read_field f s) _ d' x e λ v t ev e₁.
      let b : (f.least ≤ v) × (v ≤ f.greatest) × (v ≤ most) × (s ≡ number_line f.key v ++ t) = field_back f s v t ev in
      let i : Changed u (At (suc j) (length fs)) (on_user u (user_word (user_word_at j) v) d) d' × (t ≡ field_lines fs (suc j) (user_words d' u) ++ x)
      × FieldsOk fs (suc j) (user_words d' u) = fields_back fs (suc j) (on_user u (user_word (user_word_at j) v) d) t d' x (omega arith) e₁ in
      let o : user_offset (user_word_at j) ≡ j = user_offset_at j (omega arith) in
      let w : d'.user u (user_word_at j) ≡ v =
      only_at user_tag user_index user_word_same u (user_word_at j) v d.user (At (suc j) (length fs)) d'.user (λ q. omega (arith, q.0)) i.0.users in
      let c : Changed u (At j (suc (length fs))) d d' = record {
        entities = i.0.entities;
        users = only_back user_tag user_index user_word_same u (user_word_at j) v d.user (At j (suc (length fs))) (At (suc j) (length fs)) d'.user
            (λ g q. (omega (arith, q.0), omega (arith, q.1))) (omega arith, omega arith) i.0.users;
      } in
      let l : s ≡ number_line f.key (d'.user u (user_word_at j)) ++ t = b.3 ∙ ap (λ (n : ℕ). number_line f.key n ++ t) (sym w) in (
        c,
        lines_onto (number_line f.key (d'.user u (user_word_at j))) (field_lines fs (suc j) (user_words d' u)) s t x l i.1,
        ((omega (arith, b.0), omega (arith, b.1), omega (arith, b.2)), i.2),
      )

  -- lines of fields that are written
  fields_there : (fs : List Field) (j : ℕ) (d d' : Tables) (x : List ℕ) → j + length fs ≤ user_width → Changed u (At j (length fs)) d d'
      → FieldsOk fs j (user_words d' u) → user_stage u fs j d (field_lines fs j (user_words d' u) ++ x) ≡ past d' x
  unfolding user_stage field_lines
  fields_there [] j d d' x h c ok =
      let p : d'.user ≡ d.user = fun_ext (λ y. fun_ext (λ g. c.users y g (λ q a. omega (arith, a.0, a.1)))) in
      λ i. past (record { user = sym p i; entity = sym c.entities i }) x
  fields_there (f ∷ fs) j d d' x h c ok =
      let a : Changed u (At (suc j) (length fs)) (on_user u (user_word (user_word_at j) (d'.user u (user_word_at j))) d) d' = record {
        entities = c.entities;
        users = only_there user_tag user_index user_word_same u (user_word_at j) (d'.user u (user_word_at j)) d.user (At j (suc (length fs)))
            (At (suc j) (length fs)) d'.user (first_or j (length fs)) refl c.users;
      } in
      rw (
        append_assoc (number_line f.key (d'.user u (user_word_at j))) (field_lines fs (suc j) (user_words d' u)) x,
        field_there f (d'.user u (user_word_at j)) (field_lines fs (suc j) (user_words d' u) ++ x) ok.0.0 ok.0.1 ok.0.2,
      ) (fields_there fs (suc j) (on_user u (user_word (user_word_at j) (d'.user u (user_word_at j))) d) d' x (omega arith) a ok.1)

-- all that a user's lines tell
abbrev Whole : UserWord → Type 0
Whole = At 0 (suc (length user_fields))

-- where another user's words are as they were, and the user's words are told, the words that no line tells are as they were too
told_changed : (u : ℕ) (d d' : Tables) → ((f : UserWord) → d.user u f ≡ 0) → d'.entity ≡ d.entity → ((v : ℕ) → v ≢ u → d'.user v ≡ d.user v)
    → UserTold (d'.user u) → Changed u Whole d d'
told_changed u d d' z e o t = record { entities = e; users = λ x g n. go x g n (lt_or_le (user_offset g) (suc (length user_fields))) }
  where
    rest : (g : UserWord) → suc (length user_fields) ≤ user_offset g → d'.user u g ≡ 0
    rest present h = absurd (omega arith)
    rest clearance h = absurd (omega arith)
    rest authorised h = absurd (omega arith)
    rest current h = absurd (omega arith)
    rest device h = absurd (omega arith)
    rest held h = absurd (omega arith)
    rest held_op h = absurd (omega arith)
    rest missed h = absurd (omega arith)
    rest (spare i) h = t.spares i

    go : (x : ℕ) (g : UserWord) → (x ≡ u → Whole g → ⊥) → (user_offset g < suc (length user_fields)) ⊎ (suc (length user_fields) ≤ user_offset g)
        → d'.user x g ≡ d.user x g
    go x g n (inl l) = ap (λ (w : UserWord → ℕ). w g) (o x (λ q. n q (omega arith, l)))
    go x g n (inr l) = cases (eq_or_ne x u)
        (λ q. ap (λ (y : ℕ). d'.user y g) q ∙ rest g l ∙ sym (ap (λ (y : ℕ). d.user y g) q ∙ z g))
        (λ q. ap (λ (w : UserWord → ℕ). w g) (o x q))

-- Rule 16.1: what is read of a user's lines has these lines,
pub user_record_back : (u : ℕ) (d : Tables) (s : List ℕ) (d' : Tables) (x : List ℕ) → ((f : UserWord) → d.user u f ≡ 0) → user_record u d s ≡ past d' x
    → (d'.entity ≡ d.entity) × ((v : ℕ) → v ≢ u → d'.user v ≡ d.user v) × UserTold (d'.user u) × (s ≡ field_lines user_fields 1 (user_words d' u) ++ x)
unfolding user_record
user_record_back u d s d' x z e =
    let c : Changed u (At 1 (length user_fields)) (on_user u (user_word present 1) d) d' × (s ≡ field_lines user_fields 1 (user_words d' u) ++ x)
    × FieldsOk user_fields 1 (user_words d' u) = fields_back u user_fields 1 (on_user u (user_word present 1) d) s d' x (omega arith) e in
    let here : d'.user u present ≡ 1 =
    only_at user_tag user_index user_word_same u present 1 d.user (At 1 (length user_fields)) d'.user (λ q. omega (arith, q.0)) c.0.users in
    let o : Only u Whole d.user d'.user =
    only_back user_tag user_index user_word_same u present 1 d.user Whole (At 1 (length user_fields)) d'.user
    (λ g q. (omega arith, omega (arith, q.1))) (omega arith, omega arith) c.0.users in (
      c.0.entities,
      λ v n. fun_ext (λ g. o v g (λ q a. n q)),
      record { present = here; fields = c.2; spares = λ i. o u (spare i) (λ q a. omega (arith, a.1)) ∙ z (spare i) },
      c.1,
    )

-- and the lines of a user who can be told are read as that user.
pub user_record_there : (u : ℕ) (d d' : Tables) (x : List ℕ) → ((f : UserWord) → d.user u f ≡ 0) → d'.entity ≡ d.entity
    → ((v : ℕ) → v ≢ u → d'.user v ≡ d.user v) → UserTold (d'.user u) → user_record u d (field_lines user_fields 1 (user_words d' u) ++ x) ≡ past d' x
unfolding user_record
user_record_there u d d' x z e o t =
    let c : Changed u Whole d d' = told_changed u d d' z e o t in
    let a : Changed u (At 1 (length user_fields)) (on_user u (user_word present 1) d) d' = record {
      entities = c.entities;
      users = only_there user_tag user_index user_word_same u present 1 d.user Whole (At 1 (length user_fields)) d'.user present_or t.present c.users;
    } in
    fields_there u user_fields 1 (on_user u (user_word present 1) d) d' x (omega arith) a t.fields
  where
    present_or : (g : UserWord) → Whole g → (g ≡ present) ⊎ At 1 (length user_fields) g
    present_or g a = cases (first_or 0 (length user_fields) g a) (λ q. inl (q ∙ user_word_back present)) inr
