-- Document 01, "Request text"; rule 11.2: a reference as text, none to four names with a dot between two.
use Rattle.std.specs.Prelude.{List, [], ◌++◌, ◌∷◌, pred, suc, zero, ℕ, eqb}
use Rattle.model.specs.Basics.Choice.{pick}
use Rattle.model.specs.Request.Words.{name_count}
use Rattle.model.specs.Text.Lines.{next}
use Rattle.model.specs.Text.Numbers.{Read, digits, got, is_digit, number}

-- the dot
abbrev pub dot_byte : ℕ
dot_byte = 46

-- further names, a dot before each
abbrev pub dotted : List ℕ → List ℕ
dotted [] = []
dotted (n ∷ ns) = dot_byte ∷ (digits n ++ dotted ns)

-- Rule 11.2: names, joined by dots.
abbrev pub joined : List ℕ → List ℕ
joined [] = []
joined (n ∷ ns) = digits n ++ dotted ns

-- at most k further names, each after a dot
abbrev pub further : ℕ → List ℕ → Read (List ℕ)
further zero s = got [] s
further (suc k) [] = got [] []
further (suc k) (b ∷ s) =
    pick (eqb b dot_byte)
    (next (number s) (λ n t. next (further k t) (λ ns u. got (n ∷ ns) u)))
    (got [] (b ∷ s))

-- a name, and at most k further ones
abbrev pub name_and : ℕ → List ℕ → Read (List ℕ)
name_and k s = next (number s) (λ n t. next (further k t) (λ ns u. got (n ∷ ns) u))

-- Rule 11.2: a reference at the front of some bytes: no name where the first byte is no digit, and else one to four.
abbrev pub reference : List ℕ → Read (List ℕ)
reference [] = got [] []
reference (b ∷ s) = pick (is_digit b) (name_and (pred name_count) (b ∷ s)) (got [] (b ∷ s))
