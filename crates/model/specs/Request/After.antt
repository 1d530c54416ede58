-- Document 01, "The refusal ladder"; rule 8: what a request leaves, by its answer.
use Rattle.std.specs.Prelude.{false, true, ℕ, eqb, ltb}
use Rattle.std.proofs.Math.Option.{none, some}
use Rattle.model.specs.Effect.Notice.{notice}
use Rattle.model.specs.Request.Asked.{asked}
use Rattle.model.specs.Request.Ladder.{answer}
use Rattle.model.specs.Request.Operations.{number_of, op_of, row_of}
use Rattle.model.specs.Request.Words.{Request}
use Rattle.model.specs.Tables.Words.{Tables, first_noticed}
use Rattle.model.specs.Request.Refusals as refusal

-- Rule 8.4: the effect of an accepted request.
unfoldable pub effect : Tables → Request → Tables
effect d q = elim (op_of q.operation) [ none ↦ d | some o ↦ (row_of o).effect (asked d q) d ]

-- Rule 8.2: the operation that a notice keeps; 0 where the request names none.
unfoldable pub noticed_op : Request → ℕ
noticed_op q = elim (op_of q.operation) [ none ↦ 0 | some o ↦ number_of o ]

-- Rules 8.1, 8.2 and 8.4: what an answer n leaves.
unfoldable pub leaves : ℕ → Tables → Request → Tables
leaves n d q = elim (eqb n refusal.accepted) [ true ↦ effect d q | false ↦ elim (ltb n first_noticed) [ true ↦ d | false ↦ notice q.user n (noticed_op q) d ] ]

-- the tables after a request
unfoldable pub after : Tables → Request → Tables
after d q = leaves (answer d q) d q
