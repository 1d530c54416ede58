-- Stores word by word as one edit: a record that is emptied.
use Rattle.std.specs.Prelude.{Bool, ◌&&◌, false, true, ◌≢◌, ◌⊎◌, ◌≡◌, refl, ◌+◌, ◌<◌, ◌≤◌, ℕ, eqb, ltb}
use Rattle.std.proofs.Common.{inl, inr, ◌∙◌, ap, sym, arith}
use Rattle.model.specs.Basics.Choice.{Below, Same, below, it, other, over, pick, same, under}
use Rattle.model.specs.Effect.Places.{erase}
use Rattle.model.specs.Tables.Edits.{◌and◌, blank, on_entity, word}
use Rattle.model.specs.Tables.Layout.{Bounded, entity_width, offset}
use Rattle.model.specs.Tables.StoreLaws.{alike, twice}
use Rattle.model.specs.Tables.WordAt.{entity_word_at}
use Rattle.model.specs.Tables.WordAtLaws.{entity_word_back, entity_word_same, offset_at, offset_below}
use Rattle.model.specs.Tables.Words.{EntityWord, Tables, used, index, kind, level, mark, maximum, place, place_count, releaser, shown}
use Rattle.model.specs.Tables.Words.{tag, triple, type, value}
use Rattle.op_places.specs.Stored.{blank_to}
use Rattle.rows.specs.EditLaws.{unedited}

module _ (e : ℕ) (d : Tables) where
  -- nothing is stored yet
  pub blank_none : d ≡ on_entity e (blank_to 0) d
  blank_none = sym (unedited e (blank_to 0) d (λ f. go f (ltb (offset f) 0) (below (offset f) 0)))
    where
      go : (f : EntityWord) (b : Bool) → Below (offset f) 0 b → pick b 0 (d.entity e f) ≡ d.entity e f
      go f true (under l) = absurd (omega arith)
      go f false s = refl

  -- what stands behind the rows is zero
  behind : Bounded d → (f : EntityWord) → place_count ≤ index f → d.entity e f ≡ 0
  behind o kind l = absurd (omega arith)
  behind o type l = absurd (omega arith)
  behind o level l = absurd (omega arith)
  behind o mark l = absurd (omega arith)
  behind o value l = absurd (omega arith)
  behind o releaser l = absurd (omega arith)
  behind o maximum l = absurd (omega arith)
  behind o used l = absurd (omega arith)
  behind o (place i) l = o.places_out e i l
  behind o (shown i) l = o.shown_out e i l
  behind o (triple i) l = o.triples_out e i l

  -- one more word is zero
  blank_more : Bounded d → (f : ℕ) → f < entity_width
      → on_entity e (word (entity_word_at f) 0) (on_entity e (blank_to f) d) ≡ on_entity e (blank_to (f + 1)) d
  blank_more o f h = twice e (word (entity_word_at f) 0) (blank_to f) d ∙ alike e (word (entity_word_at f) 0 and blank_to f) (blank_to (f + 1)) d
      (λ g. go g (eqb (tag g) (tag (entity_word_at f))) (eqb (index g) (index (entity_word_at f))) (ltb (offset g) f) (ltb (offset g) (f + 1))
      (same (tag g) (tag (entity_word_at f))) (same (index g) (index (entity_word_at f))) (below (offset g) f) (below (offset g) (f + 1)))
    where
      -- the word just before place f + 1 is the word at f, or stands behind the rows
      at_it : (g : EntityWord) → offset g ≡ f → (tag g ≢ tag (entity_word_at f)) ⊎ (index g ≢ index (entity_word_at f)) → d.entity e g ≡ 0
      at_it g q n = rows (ltb (index g) place_count) (below (index g) place_count)
        where
          it_is : index g < place_count → entity_word_at f ≡ g
          it_is l = ap entity_word_at (sym q) ∙ entity_word_back g l

          no : index g < place_count → (tag g ≢ tag (entity_word_at f)) ⊎ (index g ≢ index (entity_word_at f)) → ⊥
          no l (inl w) = w (ap tag (sym (it_is l)))
          no l (inr w) = w (ap index (sym (it_is l)))

          rows : (b : Bool) → Below (index g) place_count b → d.entity e g ≡ 0
          rows true (under l) = absurd (no l n)
          rows false (over l) = behind o g l

      whole : (g : EntityWord) → (tag g ≡ tag (entity_word_at f)) → (index g ≡ index (entity_word_at f)) → offset g ≡ f
      whole g p q = offset_same g (entity_word_at f) p q ∙ offset_at f h
        where
          offset_same : (g k : EntityWord) → tag g ≡ tag k → index g ≡ index k → offset g ≡ offset k
          offset_same g k p q = ap offset (entity_word_same g k p q)

      go : (g : EntityWord) (a b x y : Bool) → Same (tag g) (tag (entity_word_at f)) a → Same (index g) (index (entity_word_at f)) b
          → Below (offset g) f x → Below (offset g) (f + 1) y
          → pick (pick (a && b) true x) (pick (a && b) 0 0) (d.entity e g) ≡ pick y 0 (d.entity e g)
      go g true true x true s u l m = refl
      go g true true x false (it s) (it u) l (over m) = absurd (omega (arith, whole g s u))
      go g true false true true s u l m = refl
      go g true false true false s u (under l) (over m) = absurd (omega arith)
      go g true false false true s (other u) (over l) (under m) = at_it g (omega arith) (inr u)
      go g true false false false s u l m = refl
      go g false b true true s u l m = refl
      go g false b true false s u (under l) (over m) = absurd (omega arith)
      go g false b false true (other s) u (over l) (under m) = at_it g (omega arith) (inl s)
      go g false b false false s u l m = refl

  -- one turn of the loop
  pub blank_step : Bounded d → (f : ℕ) (s n : Tables) → f < entity_width → s ≡ on_entity e (blank_to f) d → n ≡ on_entity e (word (entity_word_at f) 0) s
      → n ≡ on_entity e (blank_to (f + 1)) d
  blank_step o f s n l q z = z ∙ ap (on_entity e (word (entity_word_at f) 0)) q ∙ blank_more o f l

  -- the whole record is zero
  pub blank_done : Bounded d → (f : ℕ) → entity_width ≤ f → on_entity e (blank_to f) d ≡ erase e d
  blank_done o f h = alike e (blank_to f) blank d (λ g. go g (ltb (offset g) f) (below (offset g) f))
    where
      go : (g : EntityWord) (b : Bool) → Below (offset g) f b → pick b 0 (d.entity e g) ≡ 0
      go g true s = refl
      go g false (over l) = behind o g (let n : ¬ (index g < place_count) = λ z. omega (arith, offset_below g z) in omega arith)
