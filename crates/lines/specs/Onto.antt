-- Rule 11.3: bytes written into a room. What they cover is replaced, and what stands before and after them stays.
use Rattle.std.specs.Prelude.{List, ◌++◌, ◌≡◌, ◌+◌, ℕ, drop, length, take}

-- the room d with s at its front
abbrev pub onto : List ℕ → List ℕ → List ℕ
onto s d = s ++ drop (length s) d

-- s was written at the front of the room d, which is now e, and r is how many bytes that was
pub record Wrote (s d e : List ℕ) (r : ℕ) : Type 0 where
  pub many : r ≡ length s
  pub now_is : e ≡ onto s d

-- s was written at an index of the room d, which is now e, and r is the index after it
pub record Puts (s d : List ℕ) (at : ℕ) (e : List ℕ) (r : ℕ) : Type 0 where
  pub many : r ≡ at + length s
  pub now_is : e ≡ take at d ++ onto s (drop at d)
