use Rattle.names.specs.Refusals.{answer_number}
use Rattle.run.specs.Contract.{Going}
use Rattle.run.proofs.answer_all.Given as goal

abbrev pub invariant-loop-i : goal.invariant-loop-i
invariant-loop-i l = Going l.initial.t l.requests l.initial.answers (answer_number l.c) l.i l.t l.answers
