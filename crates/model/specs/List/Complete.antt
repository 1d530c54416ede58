-- Document 01, "The refusal ladder" and "What a reader can rely on"; rules 10.3 to 10.5: what makes a list of references the list for a test of
-- references. It names no walk and no tables.
use Rattle.std.specs.Prelude.{Bool, true, ◌≡◌, ◌≤◌, ℕ, length}
use mathlib.Core.List.{List, Memᴰ}
use Rattle.model.specs.List.Order.{Sorted}
use Rattle.model.specs.Request.Words.{name_count}

pub record Complete (test : List ℕ → Bool) (l : List (List ℕ)) : Type 0 where
  -- each reference of one to four names that passes is in it,
  pub every : (r : List ℕ) → 1 ≤ length r → length r ≤ name_count → test r ≡ true → Memᴰ r l
  -- nothing else is,
  pub only : (r : List ℕ) → Memᴰ r l → (1 ≤ length r) × (length r ≤ name_count) × (test r ≡ true)
  -- and it is in order, so that nothing stands in it twice
  pub sorted : Sorted l
