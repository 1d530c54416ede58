-- Document 01, "Request text"; rules 12.2 and 12.4: how long the program waits for the rest of a request.
use Rattle.std.specs.Prelude.{Bool, ◌&&◌, List, [], ◌∷◌, ◌+◌, ℕ, eqb, ltb, length}
use Rattle.model.specs.Basics.Choice.{pick}
use Rattle.model.specs.Text.Lines.{line_end}

-- Rule 11.2: the longest request has 166 bytes. Rule 11.1: it has seven lines.
abbrev pub longest : ℕ
longest = 166

abbrev pub line_total : ℕ
line_total = 7

-- how many lines end in some bytes
abbrev pub ends : List ℕ → ℕ
ends [] = 0
ends (b ∷ s) = pick (eqb b line_end) 1 0 + ends s

-- Rule 12.4: bytes that are no request are waited on while they are fewer than the longest has, and fewer than seven lines end in them. Past that
-- nothing that may follow makes a request of them (`read_near`).
unfoldable pub unfinished : List ℕ → Bool
unfinished s = ltb (length s) longest && ltb (ends s) line_total
