-- Copying a list into a room of the same length, one element after another.
use Rattle.std.specs.Prelude.{List, ◌++◌, ◌≡◌, ◌+◌, ◌<◌, ◌≤◌, ℕ, drop, get_or, length, set, take}
use Rattle.std.proofs.Common.{append-nil, ◌∙◌, ap, sym, arith, drop_of_length-le, length-take-le, take_all}
use Rattle.lines.specs.Onto.{onto}
use Rattle.lines.specs.OntoLaws.{onto_turn}

-- the room d with the first i elements of src in front
abbrev pub copied : List ℕ → List ℕ → ℕ → List ℕ
copied src d i = take i src ++ drop i d

-- that is what a writer leaves that puts them at the front
copied_is : (src d : List ℕ) (i : ℕ) → i ≤ length src → onto (take i src) d ≡ copied src d i
copied_is src d i h = ap (λ (n : ℕ). take i src ++ drop n d) (length-take-le i src h)

-- one more
pub copied_turn : (src d : List ℕ) (i : ℕ) → length d ≡ length src → i < length src → set (copied src d i) i (get_or src i 0) ≡ copied src d (i + 1)
copied_turn src d i l h =
    ap (λ (r : List ℕ). set r i (get_or src i 0)) (sym (copied_is src d i (omega arith)))
    ∙ onto_turn src d i h (omega arith)
    ∙ copied_is src d (i + 1) (omega arith)

-- all of them
pub copied_all : (src d : List ℕ) (i : ℕ) → length d ≡ length src → length src ≤ i → copied src d i ≡ src
copied_all src d i l h = rw (take_all i src h, drop_of_length-le d {i = i} (omega arith)) (append-nil src)
