-- The search for an absent number.
use Rattle.std.specs.Prelude.{◌≢◌, ◌≡◌, ◌+◌, ◌<◌, ◌≤◌, suc, ℕ}
use Rattle.std.proofs.Common.{◌∙◌, ap, add-one, arith}
use Rattle.laws.specs.Loops.{none_more, seek_here, seek_none}
use Rattle.model.specs.Effect.Places.{vacant}
use Rattle.model.specs.Tables.Words.{Tables, entity_count, kinds}

module _ (d : Tables) where
  -- the next number is not absent
  pub present_more : (i : ℕ) → ((j : ℕ) → j < i → kinds d (suc j) ≢ 0) → kinds d (i + 1) ≢ 0 → (j : ℕ) → j < i + 1 → kinds d (suc j) ≢ 0
  present_more i f n = none_more 0 (λ j. kinds d (suc j)) i f (rw (add-one i) at n)

  -- the next number is absent
  pub vacant_here : (i : ℕ) → i < entity_count → ((j : ℕ) → j < i → kinds d (suc j) ≢ 0) → kinds d (i + 1) ≡ 0 → i + 1 ≡ vacant d
  vacant_here i h f e = add-one i ∙ ap suc (seek_here 0 (λ j. kinds d (suc j)) entity_count i h (rw (add-one i) at e) f)

  -- no number is absent
  pub vacant_none : (i : ℕ) → entity_count ≤ i → ((j : ℕ) → j < i → kinds d (suc j) ≢ 0) → suc entity_count ≡ vacant d
  vacant_none i h f = ap suc (seek_none 0 (λ j. kinds d (suc j)) entity_count (λ j l. f j (omega arith)))
