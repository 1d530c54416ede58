-- How long the walk's lists are: at most 1, 9, 73 and 585 continuations by none to three further names, where an entity has at most eight places.
use Rattle.std.specs.Prelude.{Bool, false, true, List, ◌++◌, ◌∷◌, map, ◌≡◌, refl, length}
use Rattle.std.proofs.Common.{⊎_elim, ap, eq-or-lt_of_le, le_of_suc-le-suc, suc-mul}
use Prim.Native.Nat.{◌*◌, ◌≤◌, pred, suc, zero, ℕ}
use native.Mathlib.Omega.{arith}
use Rattle.std.proofs.Math.ListN.{length-append}
use Rattle.std.proofs.lemmas.List.{length-map}
use Rattle.model.specs.List.Reach.{reach}
use Rattle.model.specs.List.Walk.{here, through, visit, walk}
use Rattle.model.specs.Request.Words.{name_count}
use Rattle.model.specs.Tables.Words.{place_count}

-- One name more finds what one name fewer did, and then what that name leads to.
pub through_more : (n : ℕ) (f : ℕ → List (List ℕ)) → through (suc n) f ≡ through n f ++ map (λ r. suc n ∷ r) (f (suc n))
unfolding through
through_more n f = refl

-- More names find no less.
pub through_grows : (m n : ℕ) (f : ℕ → List (List ℕ)) → m ≤ n → length (through m f) ≤ length (through n f)
unfolding through
through_grows m zero f h = let z : m ≡ 0 = omega arith in omega (arith, ap (λ (k : ℕ). length (through k f)) z)
through_grows m (suc n) f h =
    ⊎_elim {A = m ≡ suc n} (λ e. omega (arith, ap (λ (k : ℕ). length (through k f)) e))
    (λ l. omega (arith, through_grows m n f (le_of_suc-le-suc l), length-append (through n f) (map (λ r. suc n ∷ r) (f (suc n))))) (eq-or-lt_of_le h)

-- The names 1 to n find n times what each of them does, at most.
through_bound : (n b : ℕ) (f : ℕ → List (List ℕ)) → ((p : ℕ) → length (f p) ≤ b) → length (through n f) ≤ n * b
unfolding through
through_bound zero b f h = omega arith
through_bound (suc n) b f h = simp (length-append, length-map) (omega (arith, through_bound n b f h, h (suc n), suc-mul n b))

here_bound : (b : Bool) → length (here b) ≤ 1
here_bound true = omega arith
here_bound false = omega arith

module _ (ways : ℕ → ℕ) (next : ℕ → ℕ → ℕ) (good : ℕ → Bool) (few : (e : ℕ) → ways e ≤ place_count) where
  -- A visit with k names left finds no more than k names reach,
  visit_reach : (k e : ℕ) → length (visit ways next good k e) ≤ reach k
  unfolding visit
  visit_reach zero e = here_bound (good e)
  visit_reach (suc k) e = omega (
    arith,
    length-append (here (good e)) (through (ways e) (λ p. visit ways next good k (next e p))),
    here_bound (good e),
    through_grows (ways e) place_count (λ p. visit ways next good k (next e p)) (few e),
    through_bound place_count (reach k) (λ p. visit ways next good k (next e p)) (λ p. visit_reach k (next e p)),
  )

  -- so at most 585 with three left,
  pub visit_bound : (e : ℕ) → length (visit ways next good (pred name_count) e) ≤ reach (pred name_count)
  visit_bound e = visit_reach (pred name_count) e

  -- and the walk from n entities n times as many.
  pub walk_bound : (n : ℕ) → length (walk ways next good (pred name_count) n) ≤ n * reach (pred name_count)
  unfolding walk
  walk_bound n = through_bound n (reach (pred name_count)) (visit ways next good (pred name_count)) visit_bound
