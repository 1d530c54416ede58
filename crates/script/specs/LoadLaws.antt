-- The tables of a state file, filled word by word.
use Rattle.std.specs.Prelude.{List, [], ◌≡◌, refl, ◌+◌, ◌<◌, ℕ, length, set, take}
use Rattle.std.proofs.Common.{◌∙◌, subst, sym, add-one, eq-eqb, ne_eqb}
use Rattle.model.specs.Script.State.{file_bytes, state_of, word_in}
use Rattle.model.specs.Tables.Layout.{word_count}
use Rattle.model.specs.Tables.WordsOf.{first_values}
use Rattle.model.specs.Tables.WordsOfLaws.{values_next}
use Rattle.script.specs.MoveLaws.{store_next}

-- nothing is filled yet
pub filled_none : (g : ℕ → ℕ) → [] ≡ first_values 0 g
unfolding first_values
filled_none g = refl

-- the first i words are filled, and now word i is
pub filled_more : (r : List ℕ) (g : ℕ → ℕ) (i v : ℕ) → i < length r → take i r ≡ first_values i g → v ≡ g i
    → take (i + 1) (set r i v) ≡ first_values (i + 1) g
filled_more r g i v h e q = store_next r i v h ∙ rw (e, q, add-one i) (sym (values_next i g))

-- all words are filled
pub filled_all : (s r : List ℕ) (i : ℕ) → length s ≡ file_bytes → i ≡ word_count → take i r ≡ first_values i (word_in s) → take word_count r ≡ state_of s
unfolding state_of
filled_all s r i h n e = rw (eq-eqb (length s) file_bytes h) (subst (λ (k : ℕ). take k r ≡ first_values k (word_in s)) n e)

-- a file of another size has no words
pub filled_other : (s : List ℕ) → (length s ≡ file_bytes → ⊥) → [] ≡ state_of s
unfolding state_of
filled_other s h = rw (ne_eqb (length s) file_bytes h) refl
