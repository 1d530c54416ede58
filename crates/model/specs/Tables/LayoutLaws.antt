-- The tables of a list of words: zero outside their ranges, and a store of one word of the list is an edit of one word of them.
use Rattle.std.specs.Prelude.{Bool, ◌&&◌, false, true, List, ◌≢◌, ◌⊎◌, ◌≡◌, ◌<◌, ◌≤◌, ℕ, T, eqb, get_or, length, set}
use Rattle.std.proofs.Common.{inl, inr, ◌∙◌, ap, ap₂, sym, arith, get_or-set_other, get_or-set_same}
use Rattle.std.proofs.Math.Path.{fun_ext}
use Rattle.model.specs.Basics.Choice.{Same, it, other, pick, same}
use Rattle.model.specs.Tables.Edits.{Edit, edited, on_entity, on_user, user_word, word}
use Rattle.model.specs.Tables.Layout.{Bounded, entity_at, entity_in, offset, tables_of, user_at, user_in, user_offset, user_width, word_count}
use Rattle.model.specs.Tables.RangeLaws.{entity_in_lem, guard_in, guard_out, guard_same, in_entity, in_user, user_in_lem}
use Rattle.model.specs.Tables.WordAt.{entity_word_at, user_word_at}
use Rattle.model.specs.Tables.WordAtLaws.{entity_word_back, entity_word_same, offset_below, user_word_back, user_word_same}
use Rattle.model.specs.Tables.Words.{EntityWord, UserWord, entity_count, index, place, place_count, shown, spare, tag, triple}
use Rattle.model.specs.Tables.Words.{user_count, user_index, user_tag}

-- Words W of numbered records, as they stand in a list: which there are, and where.
abbrev told : {W : Type 0} → (ℕ → W → Bool) → (ℕ → W → ℕ) → List ℕ → ℕ → W → ℕ
told inside spot t x f = pick (inside x f) (get_or t (spot x f) 0) 0

-- one word, known by its tag and its place in a row, is set
abbrev one : {W : Type 0} → (W → ℕ) → (W → ℕ) → W → ℕ → Edit W
one tag_of place_of f v = record { touched = λ g. eqb (tag_of g) (tag_of f) && eqb (place_of g) (place_of f); value = λ g. v }

-- One tag and one place is one word, and one spot is of one word.
record Laid (W : Type 0) (tag_of place_of : W → ℕ) (inside : ℕ → W → Bool) (spot : ℕ → W → ℕ) : Type 0 where
  named : (g f : W) → tag_of g ≡ tag_of f → place_of g ≡ place_of f → g ≡ f
  apart : (x e : ℕ) (g f : W) → T (inside x g) → T (inside e f) → spot x g ≡ spot e f → (x ≡ e) × (g ≡ f)

-- the users' words lie so
user_laid : Laid UserWord user_tag user_index user_in user_at
user_laid = record { named = user_word_same; apart = apart }
  where
    apart : (x e : ℕ) (g f : UserWord) → T (user_in x g) → T (user_in e f) → user_at x g ≡ user_at e f → (x ≡ e) × (g ≡ f)
    apart x e g f i j q =
        let a = user_in_lem x g i in
        let b = user_in_lem e f j in
        let o : user_offset g ≡ user_offset f = omega arith in
        (omega arith, sym (user_word_back g) ∙ ap user_word_at o ∙ user_word_back f)

-- and the entities'
entity_laid : Laid EntityWord tag index entity_in entity_at
entity_laid = record { named = entity_word_same; apart = apart }
  where
    apart : (x e : ℕ) (g f : EntityWord) → T (entity_in x g) → T (entity_in e f) → entity_at x g ≡ entity_at e f → (x ≡ e) × (g ≡ f)
    apart x e g f i j q =
        let a = entity_in_lem x g i in
        let b = entity_in_lem e f j in
        let c = offset_below g a.2 in
        let d = offset_below f b.2 in
        let o : offset g ≡ offset f = omega arith in
        (omega arith, sym (entity_word_back g a.2) ∙ ap entity_word_at o ∙ entity_word_back f b.2)

-- a store at another spot leaves a word as it was
told_other : {W : Type 0} (inside : ℕ → W → Bool) (spot : ℕ → W → ℕ) (t : List ℕ) (k v x : ℕ) (g : W) → (T (inside x g) → spot x g ≢ k)
    → told inside spot (set t k v) x g ≡ told inside spot t x g
told_other inside spot t k v x g n =
    guard_same (inside x g) (get_or (set t k v) (spot x g) 0) (get_or t (spot x g) 0) (λ i. get_or-set_other t k (spot x g) v 0 (n i))

-- a store at the spot of word f of record e is an edit of that word
told_set : {W : Type 0} (tag_of place_of : W → ℕ) (inside : ℕ → W → Bool) (spot : ℕ → W → ℕ) → Laid W tag_of place_of inside spot
    → (t : List ℕ) (e : ℕ) (f : W) (v : ℕ) → T (inside e f) → spot e f < length t → (x : ℕ) (g : W)
    → told inside spot (set t (spot e f) v) x g ≡ edited (λ y. eqb y e) (λ y. one tag_of place_of f v) (told inside spot t) x g
told_set {W} tag_of place_of inside spot l t e f v i r x g =
    go (eqb (tag_of g) (tag_of f)) (eqb (place_of g) (place_of f)) (eqb x e) (same (tag_of g) (tag_of f)) (same (place_of g) (place_of f)) (same x e)
  where
    here : told inside spot (set t (spot e f) v) e f ≡ v
    here = guard_in (inside e f) (get_or (set t (spot e f) v) (spot e f) 0) i ∙ get_or-set_same t (spot e f) v 0 r

    away : ((x ≡ e) × (g ≡ f) → ⊥) → told inside spot (set t (spot e f) v) x g ≡ told inside spot t x g
    away n = told_other inside spot t (spot e f) v x g (λ j q. n (l.apart x e g f j i q))

    go : (a b c : Bool) → Same (tag_of g) (tag_of f) a → Same (place_of g) (place_of f) b → Same x e c
        → told inside spot (set t (spot e f) v) x g ≡ pick (a && b) (pick c v (told inside spot t x g)) (told inside spot t x g)
    go true true true (it p) (it q) (it s) = ap₂ (told inside spot (set t (spot e f) v)) s (l.named g f p q) ∙ here
    go true true false p q (other s) = away (λ z. s z.0)
    go true false c p (other q) s = away (λ z. q (ap place_of z.1))
    go false b c (other p) q s = away (λ z. p (ap tag_of z.1))

-- a store of a user's word is an edit of that word of the tables, and of nothing else
pub user_set : (t : List ℕ) → length t ≡ word_count → (u : ℕ) (f : UserWord) (v : ℕ) → 1 ≤ u → u ≤ user_count → user_offset f < user_width
    → tables_of (set t (user_at u f) v) ≡ on_user u (user_word f v) (tables_of t)
unfolding tables_of
user_set t size u f v a b h = λ i. record {
  user = fun_ext (λ x. fun_ext (told_set user_tag user_index user_in user_at user_laid t u f v (in_user u f h a b) (omega arith) x)) i;
  entity = fun_ext (λ x. fun_ext (λ g. told_other entity_in entity_at t (user_at u f) v x g (λ j. omega arith))) i;
}

-- a store of an entity's word is an edit of that word of the tables, and of nothing else
pub entity_set : (t : List ℕ) → length t ≡ word_count → (e : ℕ) (f : EntityWord) (v : ℕ) → 1 ≤ e → e ≤ entity_count → index f < place_count
    → tables_of (set t (entity_at e f) v) ≡ on_entity e (word f v) (tables_of t)
unfolding tables_of
entity_set t size e f v a b h = λ i. record {
  user = fun_ext (λ x. fun_ext (λ g. told_other user_in user_at t (entity_at e f) v x g (λ j. omega (arith, user_in_lem x g j)))) i;
  entity = fun_ext (λ x. fun_ext (told_set tag index entity_in entity_at entity_laid t e f v (in_entity e f a b h) (omega (arith, offset_below f h)) x)) i;
}

-- no number is both out of its range and in it
outside : (x n : ℕ) → (x ≡ 0) ⊎ (n < x) → 1 ≤ x → ¬ (x ≤ n)
outside x n (inl q) a b = omega arith
outside x n (inr q) a b = omega arith

-- the tables of any list are zero outside sixteen users, sixty-four entities and rows of eight
pub bounded : (t : List ℕ) → Bounded (tables_of t)
unfolding tables_of
bounded t = record {
  user_out = λ u q f. guard_out (user_in u f) (get_or t (user_at u f) 0) (λ i. let r = user_in_lem u f i in outside u user_count q r.1 r.2);
  entity_out = λ e q f. guard_out (entity_in e f) (get_or t (entity_at e f) 0) (λ i. let r = entity_in_lem e f i in outside e entity_count q r.0 r.1);
  places_out = λ e i h. guard_out (entity_in e (place i)) (get_or t (entity_at e (place i)) 0) (λ k. omega (arith, entity_in_lem e (place i) k));
  shown_out = λ e i h. guard_out (entity_in e (shown i)) (get_or t (entity_at e (shown i)) 0) (λ k. omega (arith, entity_in_lem e (shown i) k));
  triples_out = λ e i h. guard_out (entity_in e (triple i)) (get_or t (entity_at e (triple i)) 0) (λ k. omega (arith, entity_in_lem e (triple i) k));
  spares_out = λ u i h. guard_out (user_in u (spare i)) (get_or t (user_at u (spare i)) 0) (λ k. omega (arith, user_in_lem u (spare i) k));
}
