-- The way up from all entities at once, by lists: one tells what each stands in, and two of them joined tell what is further up.
use Rattle.std.specs.Prelude.{Bool, List, ◌≡◌, ◌<◌, ◌≤◌, suc, zero, ℕ, eqb, get_or, length}
use Rattle.model.specs.Basics.Tests.{every}
use Rattle.model.specs.State.Climb.{up}
use Rattle.model.specs.Tables.Words.{entity_count}
use Rattle.state.specs.Holders.{entity_numbers}

-- n steps up from x, where par x is what x stands in, or 0
unfoldable pub steps : (ℕ → ℕ) → ℕ → ℕ → ℕ
steps par zero x = x
steps par (suc n) x = steps par n (par x)

-- for each number below n, d tells what b tells of what a tells, and r is whether that is nothing for all of them
pub record Jumped (a b : List ℕ) (n : ℕ) (r : Bool) (d : List ℕ) : Type 0 where
  pub size : length d ≡ entity_numbers
  pub at : (x : ℕ) → x < n → get_or d x 0 ≡ get_or b (get_or a x 0) 0
  pub none : r ≡ every n (λ x. eqb (get_or b (get_or a x 0) 0) 0)

-- d tells what is n steps up by h
pub record Climbed (h : List ℕ) (n : ℕ) (d : List ℕ) : Type 0 where
  pub size : length d ≡ entity_numbers
  pub at : (x : ℕ) → x ≤ entity_count → get_or d x 0 ≡ steps (λ y. get_or h y 0) n x

-- the way up by h ends that begins at the entity after e
abbrev pub ends_after : List ℕ → ℕ → Bool
ends_after h e = up (λ x. get_or h x 0) (suc entity_count) (suc e)

-- and so does that from every entity
abbrev pub all_end : List ℕ → Bool
all_end h = every entity_count (ends_after h)
