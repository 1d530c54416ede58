-- Rules 5.4 and 11.3: whether the words past a reference's names are zero, asked from the last one on.
use Rattle.std.specs.Prelude.{Bool, ◌&&◌, false, true, List, ◌≡◌, eqb, leb, get_or}
use Rattle.std.proofs.Math.Bool.{and-true}
use Rattle.std.proofs.Math.Path.{refl}
use Rattle.std.proofs.Common.{sym, arith, eq-eqb, le-leb, ne_eqb}
use Prim.Native.Nat.{◌+◌, ◌≤◌, suc, zero, ℕ}
use Rattle.std.proofs.lemmas.Bool.{lt-leb}
use Rattle.model.specs.Basics.Tests.{every, imp}
use Rattle.model.specs.Request.Ladder.{names_fit}
use Rattle.model.specs.Request.Words.{name_count, reference_at}

-- the tests of the name words before index i, of the reference whose length is word k
abbrev pub before : List ℕ → ℕ → ℕ → Bool
before w k i = every i (λ j. imp (leb (get_or w k 0) j) (eqb (get_or w (k + suc j) 0) 0))

module _ (w : List ℕ) (k : ℕ) where
  -- all of them
  pub fit_start : names_fit (reference_at w k) ≡ before w k name_count
  unfolding names_fit reference_at
  fit_start = refl

  -- a word past the names is asked for
  before_next : (i : ℕ) → get_or w k 0 ≤ i → before w k (suc i) ≡ (eqb (get_or w (k + suc i) 0) 0 && before w k i)
  unfolding every imp
  before_next i h = rw (le-leb (get_or w k 0) i h)

  -- the words of names are not
  before_names : (i : ℕ) → i ≤ get_or w k 0 → before w k i ≡ true
  unfolding every imp
  before_names zero h = refl
  before_names (suc i) h = rw (lt-leb (get_or w k 0) i (omega arith), before_names i (omega arith))

  -- a word is zero, and those before it are left
  pub fit_zero : (i : ℕ) → get_or w k 0 ≤ i → get_or w (k + suc i) 0 ≡ 0
      → names_fit (reference_at w k) ≡ before w k (suc i) → names_fit (reference_at w k) ≡ before w k i
  fit_zero i h z e = rw (before_next i h, eq-eqb (get_or w (k + suc i) 0) 0 z) at e

  -- a word is not zero
  pub fit_other : (i : ℕ) → get_or w k 0 ≤ i → (get_or w (k + suc i) 0 ≡ 0 → ⊥)
      → names_fit (reference_at w k) ≡ before w k (suc i) → false ≡ names_fit (reference_at w k)
  fit_other i h z e = sym (rw (before_next i h, ne_eqb (get_or w (k + suc i) 0) 0 z) at e)

  -- only names are left
  pub fit_names : (i : ℕ) → i ≤ get_or w k 0 → names_fit (reference_at w k) ≡ before w k i → true ≡ names_fit (reference_at w k)
  fit_names i h e = sym (rw (before_names i h) at e)

  -- the first word is left, and is no name
  pub fit_first : get_or w k 0 ≤ 0 → names_fit (reference_at w k) ≡ before w k 1 → eqb (get_or w (k + 1) 0) 0 ≡ names_fit (reference_at w k)
  fit_first h e = sym (rw (before_next 0 h, before_names 0 (omega arith), and-true) at e)
