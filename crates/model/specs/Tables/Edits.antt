-- An edit says which words of which records it touches, and their new values. The touch is asked first, and every effect is one edit: so a word
-- that it does not touch stays as it was by computation.
use Rattle.std.specs.Prelude.{Bool, ◌&&◌, true, ℕ, eqb}
use Rattle.model.specs.Basics.Choice.{pick}
use Rattle.model.specs.Tables.Words.{EntityWord, Tables, UserWord, index, tag, user_index, user_tag}

-- an edit of a record of words W
pub record Edit (W : Type 0) : Type 0 where
  pub touched : W → Bool
  pub value : W → ℕ

-- the record afterwards
abbrev pub written : {W : Type 0} → Edit W → (W → ℕ) → W → ℕ
written E w f = pick (E.touched f) (E.value f) (w f)

-- both edits; where both touch a word, the first one's value
infixr 40 ◌and◌
abbrev pub ◌and◌ : {W : Type 0} → Edit W → Edit W → Edit W
◌and◌ a b = record { touched = λ f. pick (a.touched f) true (b.touched f); value = λ f. pick (a.touched f) (a.value f) (b.value f) }

-- one word of an entity
abbrev pub word : EntityWord → ℕ → Edit EntityWord
word f v = record { touched = λ g. eqb (tag g) (tag f) && eqb (index g) (index f); value = λ g. v }

-- all words of a row of an entity
abbrev pub row : (ℕ → EntityWord) → (ℕ → ℕ) → Edit EntityWord
row f r = record { touched = λ g. eqb (tag g) (tag (f 0)); value = λ g. r (index g) }

-- one word of a user
abbrev pub user_word : UserWord → ℕ → Edit UserWord
user_word f v = record { touched = λ g. eqb (user_tag g) (user_tag f) && eqb (user_index g) (user_index f); value = λ g. v }

-- every word set to zero
abbrev pub blank : {W : Type 0} → Edit W
blank = record { touched = λ f. true; value = λ f. 0 }

-- the records of the numbers that pass a test are edited
abbrev pub edited : {W : Type 0} → (ℕ → Bool) → (ℕ → Edit W) → (ℕ → W → ℕ) → ℕ → W → ℕ
edited test E r x f = pick ((E x).touched f) (pick (test x) ((E x).value f) (r x f)) (r x f)

abbrev pub on_entities : (ℕ → Bool) → (ℕ → Edit EntityWord) → Tables → Tables
on_entities test E d = record { user = d.user; entity = edited test E d.entity }

abbrev pub on_entity : ℕ → Edit EntityWord → Tables → Tables
on_entity e E = on_entities (λ x. eqb x e) (λ x. E)

abbrev pub on_user : ℕ → Edit UserWord → Tables → Tables
on_user u E d = record { user = edited (λ x. eqb x u) (λ x. E) d.user; entity = d.entity }
