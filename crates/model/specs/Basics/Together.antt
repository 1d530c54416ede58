-- Lists one after another, as one list.
use Rattle.std.specs.Prelude.{List, [], ◌++◌, ◌∷◌}

abbrev pub together : {A : Type 0} → List (List A) → List A
together [] = []
together (x ∷ xs) = x ++ together xs
