-- Rules 7.7 to 7.9: the answer of the rungs that read references.
use Rattle.std.specs.Prelude.{[], ◌∷◌, ℕ}
use Rattle.std.proofs.Math.Option.{none, some}
use Rattle.model.specs.Request.Form.{taken}
use Rattle.model.specs.Request.Ladder.{leads_nowhere, lowest, no_access, not_cleared}
use Rattle.model.specs.Request.Operations.{op_of}
use Rattle.model.specs.Request.Refusals as refusal
use Rattle.model.specs.Request.Words.{Request}
use Rattle.model.specs.Tables.Words.{Tables}

-- how many operands the request's operation takes
unfoldable pub arity_of : Request → ℕ
arity_of q = elim (op_of q.operation) [ none ↦ 0 | some o ↦ taken o ]

-- the lowest of rungs 7, 8 and 9 that applies, or 0
unfoldable pub path_answer : Tables → Request → ℕ
path_answer d q = lowest refusal.no_such_name (leads_nowhere ∷ no_access ∷ not_cleared ∷ []) d q
