-- One stage after another, as code meets them.
use Rattle.std.specs.Prelude.{List, [], ◌++◌, ◌∷◌, ◌≡◌, refl, Some, None, Result, Ok, Err, ◌+◌, suc, ℕ, drop, length}
use Rattle.std.proofs.Common.{◌∙◌, ap, sym, arith, eq-eqb}
use Rattle.lines.specs.declared.reading.Number.{Number}
use Rattle.model.specs.Tables.Edits.{on_entity, on_user, user_word, word}
use Rattle.model.specs.Tables.Layout.{tables_of}
use Rattle.model.specs.Tables.WordAt.{entity_word_at, entity_word_of, user_word_at, user_word_of}
use Rattle.model.specs.Tables.Words.{Tables, used, used_places}
use Rattle.model.specs.Text.Numbers.{Read, bad, got}
use Rattle.record_reader.specs.FieldAt.{FieldAt, last_single}
use Rattle.record_reader.specs.Rest.{access_rest, places_rest}
use Rattle.record_reader.specs.StageAt.{StageAt}
use Rattle.record_reader.specs.declared.records.Stuck.{Stuck}
use Rattle.tables_text.specs.Keys.{Field, places_field, single_fields, triples_field}
use Rattle.tables_text.specs.Stages.{Stage, entity_record, entity_stage, onward, or_stuck, past, places_stage, stuck, triples_stage, user_record, user_stage}
use Rattle.tables_text.specs.Keys.{user_fields}
use Rattle.tables_text.specs.Values.{read_field}

-- a reading that is another one has its answer
pub staged : {g h : Stage} {s t : List ℕ} {r : Result ℕ Stuck} → h ≡ g → StageAt s g t r → StageAt s h t r
staged e a = record { is = e ∙ a.is; within = a.within }

-- a first part is stuck, and so is the whole; or it is past, and the rest is the whole
pub onward_stuck : {g : Stage} {s t : List ℕ} {k : Stuck} (f : Tables → List ℕ → Stage) → StageAt s g t (Err k) → StageAt s (onward g f) t (Err k)
onward_stuck f a = record { is = ap (λ (x : Stage). onward x f) a.is; within = a.within }

pub onward_past : {g : Stage} {s t : List ℕ} {i : ℕ} (f : Tables → List ℕ → Stage) → StageAt s g t (Ok i) → onward g f ≡ f (tables_of t) (drop i s)
onward_past f a = ap (λ (x : Stage). onward x f) a.is

-- ---- a user's record is its fields, after the word that says that there is one

pub user_record_lem : (u : ℕ) (d : Tables) (w x : List ℕ) → tables_of w ≡ on_user u (user_word (user_word_at 0) 1) d
    → user_record u d x ≡ user_stage u user_fields 1 (tables_of w) x
unfolding user_record user_word_at user_word_of
user_record_lem u d w x e = ap (λ y. user_stage u user_fields 1 y x) (sym e)

-- ---- an entity's record is its single fields, and then its rows

onward_same : (g : Stage) (f h : Tables → List ℕ → Stage) → ((d : Tables) (x : List ℕ) → f d x ≡ h d x) → onward g f ≡ onward g h
onward_same (past d x) f h e = e d x
onward_same (stuck x) f h e = refl

onward_twice : (g : Stage) (f h : Tables → List ℕ → Stage) → onward (onward g f) h ≡ onward g (λ d x. onward (f d x) h)
onward_twice (past d x) f h = refl
onward_twice (stuck x) f h = refl

or_stuck_onward : (s : List ℕ) (r : Read ℕ) (f : ℕ → List ℕ → Stage) (h : Tables → List ℕ → Stage)
    → onward (or_stuck s r f) h ≡ or_stuck s r (λ v x. onward (f v x) h)
or_stuck_onward s (got v x) f h = refl
or_stuck_onward s bad f h = refl

or_stuck_same : (s : List ℕ) (r : Read ℕ) (f h : ℕ → List ℕ → Stage) → ((v : ℕ) (x : List ℕ) → f v x ≡ h v x) → or_stuck s r f ≡ or_stuck s r h
or_stuck_same s (got v x) f h e = e v x
or_stuck_same s bad f h e = refl

-- one field more comes last
last_field : ℕ → Field → ℕ → Tables → List ℕ → Stage
last_field e f j d s = or_stuck s (read_field f s) (λ v x. past (on_entity e (word (entity_word_at j) v) d) x)

fields_last : (e : ℕ) (fs : List Field) (f : Field) (j m : ℕ) (d : Tables) (s : List ℕ) → j + length fs ≡ m
    → entity_stage e (fs ++ (f ∷ [])) j d s ≡ onward (entity_stage e fs j d s) (last_field e f m)
unfolding entity_stage last_field
fields_last e [] f j m d s h =
    let q : j ≡ m = omega arith in
    rw q
fields_last e (a ∷ fs) f j m d s h = go (read_field a s) (λ v x. fields_last e fs f (suc j) m (on_entity e (word (entity_word_at j) v) d) x (omega arith))
  where
    go : (r : Read ℕ)
        → ((v : ℕ) (x : List ℕ)
        → entity_stage e (fs ++ (f ∷ [])) (suc j) (on_entity e (word (entity_word_at j) v) d) x
        ≡ onward (entity_stage e fs (suc j) (on_entity e (word (entity_word_at j) v) d) x) (last_field e f m))
        → or_stuck s r (λ v x. entity_stage e (fs ++ (f ∷ [])) (suc j) (on_entity e (word (entity_word_at j) v) d) x)
        ≡ onward (or_stuck s r (λ v x. entity_stage e fs (suc j) (on_entity e (word (entity_word_at j) v) d) x)) (last_field e f m)
    go (got v x) k = k v x
    go bad k = refl

-- what follows the fields
rows : ℕ → Tables → List ℕ → Stage
rows e d s = onward (places_stage e (used_places d e) 0 d s) (access_rest e)

places_last : (e : ℕ) (d : Tables) (s : List ℕ) → onward (last_field e places_field last_single d s) (rows e) ≡ places_rest e d s
unfolding last_field rows places_rest entity_word_at entity_word_of
places_last e d s =
    or_stuck_onward s (read_field places_field s) _ (rows e)
    ∙ or_stuck_same s (read_field places_field s) _ _ (λ v x. rw (eq-eqb e e refl))

whole : (e : ℕ) (d : Tables) (s : List ℕ) → entity_record e d s ≡ onward (entity_stage e (single_fields ++ (places_field ∷ [])) 0 d s) (rows e)
unfolding entity_record rows access_rest
whole e d s = refl

pub entity_record_lem : (e : ℕ) (d : Tables) (s : List ℕ) → entity_record e d s ≡ onward (entity_stage e single_fields 0 d s) (places_rest e)
entity_record_lem e d s =
    whole e d s
    ∙ ap (λ (g : Stage). onward g (rows e)) (fields_last e single_fields places_field 0 last_single d s refl)
    ∙ onward_twice (entity_stage e single_fields 0 d s) (last_field e places_field last_single) (rows e)
    ∙ onward_same (entity_stage e single_fields 0 d s) _ (places_rest e) (λ x y. places_last e x y)

-- ---- the rows of an entity

module _ {s : List ℕ} {i : ℕ} (e : ℕ) (d : Tables) where
  -- the number of triples is not there, or it is, and they follow
  pub access_none : FieldAt s i triples_field None → access_rest e d (drop i s) ≡ stuck (drop i s)
  unfolding access_rest
  access_none f = rw (← f.is)

  pub access_next : {n : Number} → FieldAt s i triples_field (Some n) → access_rest e d (drop i s) ≡ triples_stage e n.v 0 d (drop n.next s)
  unfolding access_rest
  access_next f = rw (← f.is)

  -- the number of places is not there, or it is, and they and the triples follow
  pub rows_none : FieldAt s i places_field None → places_rest e d (drop i s) ≡ stuck (drop i s)
  unfolding places_rest
  rows_none f = rw (← f.is)

  pub rows_next : {n : Number} (w : List ℕ) → FieldAt s i places_field (Some n) → tables_of w ≡ on_entity e (word used n.v) d
      → places_rest e d (drop i s) ≡ onward (places_stage e n.v 0 (tables_of w) (drop n.next s)) (access_rest e)
  unfolding places_rest
  rows_next w f q = rw (← f.is, q)
