-- Document 01, "Request text"; rule 11.1: a line is its key, an equals sign, its value and LF. The keys here have their equals sign with them.
use Rattle.std.specs.Prelude.{List, [], ◌++◌, ◌∷◌, ℕ, eqb}
use Rattle.model.specs.Basics.Choice.{pick}
use Rattle.model.specs.Text.Numbers.{Read, bad, got}

-- the byte that ends a line
abbrev pub line_end : ℕ
line_end = 10

-- Rule 11.1: a line, written.
unfoldable pub line : List ℕ → List ℕ → List ℕ
line key value = key ++ (value ++ (line_end ∷ []))

-- what was read, and then the next
abbrev pub next : {A B : Type 0} → Read A → (A → List ℕ → Read B) → Read B
next (got a s) f = f a s
next bad f = bad

-- the bytes after a key
abbrev pub behind : List ℕ → List ℕ → Read (Unit {0})
behind [] s = got tt s
behind (k ∷ ks) [] = bad
behind (k ∷ ks) (b ∷ s) = pick (eqb b k) (behind ks s) bad

-- Rule 11.1: a line, read: its key, then a value as `value` reads it, then LF.
unfoldable pub read_line : {A : Type 0} → List ℕ → (List ℕ → Read A) → List ℕ → Read A
read_line key value s = next (behind key s) (λ _ t. next (value t) (λ v u. next (behind (line_end ∷ []) u) (λ _ w. got v w)))
