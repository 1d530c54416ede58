use Rattle.std.proofs.Common.{sym, ◌∙◌}
use Rattle.step.specs.DispatchLaws.{arity, read_two}
use Rattle.step.proofs.operands.Goals as goal

pub two_operands-requires : goal.two_operands-requires
two_operands-requires c =
    (c.requires.0, c.requires.1 ∙ sym c.from.ensures, arity c.args.o c.requires.0 c.requires.1 ∙ c.requires.2)

pub returns : goal.returns
returns c =
    read_two _ c.requires.0 c.requires.1 _ c.requires.2 c.two_operands.ensures.answer c.two_operands.ensures.first c.two_operands.ensures.second
