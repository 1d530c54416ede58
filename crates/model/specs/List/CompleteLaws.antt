-- A complete list is the only one, holds nothing twice, and is empty where no reference passes.
use Rattle.std.specs.Prelude.{Bool, false, List, [], ◌≡◌, ◌<◌, ◌≤◌, ℕ, T, get_or, length}
use mathlib.Core.List.Memᴰ
use Rattle.std.proofs.Common.{subst}
use Rattle.model.specs.Basics.TestLaws.{is_true}
use Rattle.model.specs.List.Complete.{Complete}
use Rattle.model.specs.List.OrderLaws.{sorted_once, sorted_unique}
use Rattle.model.specs.Request.Words.{name_count}

-- No second list is complete for a test,
pub complete_unique : (test : List ℕ → Bool) (a b : List (List ℕ)) → Complete test a → Complete test b → a ≡ b
complete_unique test a b x y = sorted_unique a b x.sorted y.sorted
    (λ r m. let h = x.only r m in y.every r h.0 h.1 h.2) (λ r m. let h = y.only r m in x.every r h.0 h.1 h.2)

-- no reference stands twice in one,
pub complete_once : {test : List ℕ → Bool} {l : List (List ℕ)} → Complete test l
    → (i j : ℕ) → i < j → j < length l → get_or l i [] ≡ get_or l j [] → ⊥
complete_once {test} {l} c = sorted_once l c.sorted

-- and where no reference of one to four names passes it is empty.
pub complete_none : (test : List ℕ → Bool) → ((r : List ℕ) → 1 ≤ length r → length r ≤ name_count → test r ≡ false) → Complete test []
complete_none test none = record {
  every = λ r a b h. absurd (subst T (none r a b) (is_true (test r) h));
  only = λ r m. absurd (Memᴰ.not-nil m);
  sorted = tt;
}
