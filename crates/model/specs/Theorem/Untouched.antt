-- What an edit leaves as it was: every record that it is not made on, and of the others every word that it does not touch.
use Rattle.std.specs.Prelude.{Bool, ◌&&◌, ◌||◌, false, not, true, ◌≡◌, refl, ℕ, T, eqb}
use Rattle.model.specs.Basics.Choice.{pick}
use Rattle.model.specs.Basics.TestLaws.{T-l}
use Rattle.model.specs.Tables.Edits.{Edit, ◌and◌, edited, on_entity, on_user, row, user_word, word, written}
use Rattle.model.specs.Tables.Words.{EntityWord, Tables, UserWord, index, tag, user_index, user_tag}
use Rattle.model.specs.Theorem.MayChange.{user_word_is, word_or_row}

-- A word is as it was after an edit, if it is as it was in case its record is one of those edited.
pub word_left : {W : Type 0} (test : ℕ → Bool) (E : ℕ → Edit W) (r : ℕ → W → ℕ) (x : ℕ) (f : W) → (T (test x) → written (E x) (r x) f ≡ r x f)
    → edited test E r x f ≡ r x f
word_left test E r x f = go (test x) ((E x).touched f)
  where
    go : (b t : Bool) → (T b → pick t ((E x).value f) (r x f) ≡ r x f) → pick t (pick b ((E x).value f) (r x f)) (r x f) ≡ r x f
    go true true h = h tt
    go true false h = refl
    go false true h = refl
    go false false h = refl

-- The words that an edit touches are all among those given.
pub record TouchesOnly {W : Type 0} (E : Edit W) (words : W → Bool) : Type 0 where
  pub only : (f : W) → T (E.touched f) → T (words f)

-- One word of an entity is all that an edit of that word touches.
pub word_only : (g : EntityWord) {v : ℕ} → TouchesOnly (word g v) (word_or_row g)
word_only g = record { only = λ f. T-l (eqb (tag f) (tag g)) (eqb (index f) (index g)) }

-- A row of an entity is all that an edit of that row touches.
pub row_only : (g : ℕ → EntityWord) (r : ℕ → ℕ) → TouchesOnly (row g r) (word_or_row (g 0))
row_only g r = record { only = λ f t. t }

-- One word of a user is all that an edit of that word touches.
pub user_word_only : (g : UserWord) {v : ℕ} → TouchesOnly (user_word g v) (user_word_is g)
user_word_only g = record { only = λ f. T-l (eqb (user_tag f) (user_tag g)) (eqb (user_index f) (user_index g)) }

-- Two edits together touch what the one touches and what the other touches.
pub both_only : {W : Type 0} {A B : Edit W} {a b : W → Bool} → TouchesOnly A a → TouchesOnly B b → TouchesOnly (A and B) (λ f. a f || b f)
both_only {W} {A} {B} {a} {b} p q = record { only = λ f. go (A.touched f) (B.touched f) (a f) (b f) (p.only f) (q.only f) }
  where
    go : (s t m n : Bool) → (T s → T m) → (T t → T n) → T (pick s true t) → T (m || n)
    go s t true n f g h = tt
    go true t false n f g h = absurd (f tt)
    go false t false n f g h = g h

-- An edit of one record changes only words of that record, and of those only words that it touches.
pub others_left : {W : Type 0} {E : Edit W} {words : W → Bool} → TouchesOnly E words → (e : ℕ) (r : ℕ → W → ℕ) (x : ℕ) (f : W)
    → T (not (eqb x e && words f)) → edited (λ x. eqb x e) (λ x. E) r x f ≡ r x f
others_left {W} {E} {words} p e r x f = go (eqb x e) (E.touched f) (words f) (p.only f)
  where
    go : (b t m : Bool) → (T t → T m) → T (not (b && m)) → pick t (pick b (E.value f) (r x f)) (r x f) ≡ r x f
    go true true true i n = absurd n
    go true true false i n = absurd (i tt)
    go true false m i n = refl
    go false true m i n = refl
    go false false m i n = refl

-- So an edit of the entity e leaves all other entities, and of e all words that it does not touch.
pub entity_left : {E : Edit EntityWord} {words : EntityWord → Bool} → TouchesOnly E words → (e : ℕ) (d : Tables) (x : ℕ) (f : EntityWord)
    → T (not (eqb x e && words f)) → (on_entity e E d).entity x f ≡ d.entity x f
entity_left p e d = others_left p e d.entity

-- The same of an edit of the user u.
pub user_left : {E : Edit UserWord} {words : UserWord → Bool} → TouchesOnly E words → (u : ℕ) (d : Tables) (x : ℕ) (f : UserWord)
    → T (not (eqb x u && words f)) → (on_user u E d).user x f ≡ d.user x f
user_left p u d = others_left p u d.user
