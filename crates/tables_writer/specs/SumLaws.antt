-- How long texts one after another are, as the sum over a range of numbers in which code counts them.
use Rattle.std.specs.Prelude.{List, ⊤, ◌≡◌, ◌<◌, refl, suc, zero, ℕ, length, map, sum_by}
use Rattle.std.specs.List.{fold, range_with_len}
use Rattle.std.specs.Iterator.{Drains}
use Rattle.std.specs.Iterator.Runs.{EachRunFrom}
use Rattle.std.proofs.Common.{Option, add-one, ap, arith, length-append, sym, ◌++◌, ◌∙◌, ◌+◌}
use Rattle.std.proofs.lemmas.Iterator.{YieldsList}
use Rattle.std.proofs.lemmas.Iterator.Consumers.{fits_by_from_yields_list, sum_by_from_yields_List}
use Rattle.std.proofs.lemmas.List.Sums.{sum_by-cons}
use Rattle.tables_text.specs.TextOf.{series}

series_sum : (k i : ℕ) (g : ℕ → List ℕ) → sum_by (λ j. length (g j)) (range_with_len i k) ≡ length (series k i g)
unfolding series
series_sum zero i g = refl
series_sum (suc k) i g =
    let next : sum_by (λ j. length (g j)) (range_with_len (i + 1) k) ≡ length (series k (suc i) g) = rw (add-one i) (series_sum k (suc i) g) in
    sum_by-cons (λ j. length (g j)) i (range_with_len (i + 1) k) ∙ ap (λ n. length (g i) + n) next ∙ sym (length-append (g i) (series k (suc i) g))

-- the texts of the numbers after those of a range
pub series_after : (k i : ℕ) (g : ℕ → List ℕ) → series k i (λ j. g (j + 1)) ≡ series k (i + 1) g
unfolding series
series_after zero i g = refl
series_after (suc k) i g =
    let e : suc i + 1 ≡ suc (i + 1) = omega arith in
    ap (λ (x : List ℕ). g (i + 1) ++ x) (rw e at (series_after k (suc i) g))

-- a chain gives the lengths of k texts, and what their sum then is
module _ {S : Type 0} {steps : S → Option ℕ → S → Type 0} (k i : ℕ) (g : ℕ → List ℕ) (s : S)
    (road : YieldsList steps (λ x. x) s (map (λ j. length (g j)) (range_with_len i k))) where
  pub sum_is : {r : ℕ} → ((xs : List ℕ) × (⊤ → Drains steps s xs) × (r ≡ fold (λ a x. a + x) 0 xs)) → r ≡ length (series k i g)
  sum_is {r} ran = sum_by_from_yields_List (λ j. length (g j)) (range_with_len i k) s r ran road ∙ series_sum k i g

  pub sum_fits : {top : ℕ} → length (series k i g) < top → EachRunFrom steps s (λ p. fold (λ a x. a + x) 0 p.items < top)
  sum_fits {top} h = fits_by_from_yields_list (λ j. length (g j)) (range_with_len i k) s top road (rw (series_sum k i g) h)
