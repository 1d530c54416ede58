-- Rule 5.4: a request that is taken has its operation's arguments in their ranges.
use Rattle.std.specs.Prelude.{List, ℕ}
use Rattle.std.proofs.Common.{◌∙◌, sym, arith}
use Rattle.ladder.specs.Contract.{Taking}
use Rattle.laws.specs.Bools.{not_no}
use Rattle.model.specs.Basics.TestLaws.{is_true}
use Rattle.model.proofs.Request.FitLaws.{fits_agrees}
use Rattle.model.specs.Request.Form.{InRange}
use Rattle.model.specs.Request.Ladder.{applies, fits, ladder, never, not_understood, of_op, rung_at}
use Rattle.model.specs.Request.LadderLaws.{of_op_some}
use Rattle.model.specs.Request.Operations.{Op}
use Rattle.model.specs.Request.Refusals as refusal
use Rattle.model.specs.Request.Words.{request_of}

-- it has passed rung 5
pub arguments_in : (o : Op) (t q : List ℕ) (u : ℕ) → Taking o t q u → InRange o (request_of q).a (request_of q).b (request_of q).c
unfolding applies rung_at never ladder not_understood
arguments_in o t q u k = ((fits_agrees o (request_of q)).to (is_true (fits o (request_of q))
    (sym (of_op_some (request_of q) o k.named (λ p. fits p (request_of q)))
    ∙ not_no (of_op (request_of q) (λ p. fits p (request_of q))) (k.climbed.passed refusal.bad_request (omega arith))))).arguments
