-- Rule 5.4: the form of a request but for its arguments, by how many operands it takes; and what is said of the whole form.
use Rattle.std.specs.Prelude.{Bool, ◌&&◌, None, Option, Some, false, true, ◌≡◌, eqb, leb}
use Rattle.model.specs.Request.Ladder.{fits, names_fit, of_op}
use Rattle.model.specs.Request.Operations.{number_of}
use Rattle.model.specs.Request.Words.{Request, name_count}
use Rattle.names.specs.Operations.{meant}
use Rattle.names.specs.declared.op.Op.{Op}

-- the name words past both references, and the spare word, are zero
unfoldable pub spare_form : Request → Bool
spare_form q = names_fit q.first && (names_fit q.second && eqb q.last 0)

unfoldable pub none_form : Request → Bool
none_form q = eqb q.first.length 0 && (eqb q.second.length 0 && spare_form q)

unfoldable pub one_form : Request → Bool
one_form q = (leb 1 q.first.length && leb q.first.length name_count) && (eqb q.second.length 0 && spare_form q)

unfoldable pub two_form : Request → Bool
two_form q = (leb 1 q.first.length && leb q.first.length name_count)
    && ((leb 1 q.second.length && leb q.second.length name_count) && spare_form q)

-- Rule 7.5: the operation of a request that has its form; none where no operation has its number and its form
abbrev pub Made : Request → Option Op → Type 0
Made q (Some o) = (q.operation ≡ number_of (meant o)) × (fits (meant o) q ≡ true)
Made q None = of_op q (λ p. fits p q) ≡ false
