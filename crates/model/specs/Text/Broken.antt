-- Document 01, "Request text"; rule 11.4: the first line that is bad or missing, said of the bytes alone.
use Rattle.std.specs.Prelude.{List, [], ◌++◌, ◌∷◌, ◌≡◌, ◌≤◌, suc, ℕ, length}
use Rattle.model.specs.Request.Words.{name_count}
use Rattle.model.specs.Text.Given.{Small}
use Rattle.model.specs.Text.Lines.{line}
use Rattle.model.specs.Text.Numbers.{digits, most}
use Rattle.model.specs.Text.References.{joined}
use Rattle.model.specs.Text.Wording.{a_key, b_key, c_key, op_key, ref2_key, ref_key, user_key}

-- Rule 11.2: the bytes v are a number,
pub record IsNumber (v : List ℕ) : Type 0 where
  pub value : ℕ
  pub fits : value ≤ most
  pub is : v ≡ digits value

-- or a reference of at most four names.
pub record IsReference (v : List ℕ) : Type 0 where
  pub names : List ℕ
  pub few : length names ≤ name_count
  pub fit : Small names
  pub is : v ≡ joined names

-- A sort of line: its key, and whether its value is a number or a reference.
pub data Sort : Type 0 where
  numbered : List ℕ → Sort
  referring : List ℕ → Sort

-- Rule 11.1: the seven, in their order.
abbrev pub sorts : List Sort
sorts =
    numbered user_key ∷ numbered op_key ∷ referring ref_key ∷ referring ref2_key ∷ numbered a_key ∷ numbered b_key ∷ numbered c_key ∷ []

-- the key of a sort, and what its values are
abbrev pub key_of : Sort → List ℕ
key_of (numbered key) = key
key_of (referring key) = key

abbrev pub ValueOf : Sort → List ℕ → Type 0
ValueOf (numbered key) v = IsNumber v
ValueOf (referring key) v = IsReference v

-- Rule 11.1: the bytes s are a good line of the sort k and then x.
pub record Begins (k : Sort) (s x : List ℕ) : Type 0 where
  pub value : List ℕ
  pub good : ValueOf k value
  pub is : s ≡ line (key_of k) value ++ x

-- Rule 11.4: the bytes s are good lines of the sorts ks, one for each, and nothing more.
pub data Whole : List Sort → List ℕ → Type 0 where
  end : Whole [] []
  onward : {k : Sort} {ks : List Sort} {s x : List ℕ} → Begins k s x → Whole ks x → Whole (k ∷ ks) s

-- Rule 11.4: where the bytes s are to be lines of the sorts ks, the first that is bad or missing is line n: the first line of s, if s begins with no
-- good line of the first sort; or, after a good line, the first of the rest, counted one further; or whatever follows the last.
pub data FirstBad : List Sort → List ℕ → ℕ → Type 0 where
  here : {k : Sort} {ks : List Sort} {s : List ℕ} → ((x : List ℕ) → ¬ Begins k s x) → FirstBad (k ∷ ks) s 1
  later : {k : Sort} {ks : List Sort} {s x : List ℕ} {n : ℕ} → Begins k s x → FirstBad ks x n → FirstBad (k ∷ ks) s (suc n)
  extra : {b : ℕ} {s : List ℕ} → FirstBad [] (b ∷ s) 1
