use Rattle.std.proofs.Common.{sym, ◌∙◌}
use Rattle.step.specs.DispatchLaws.{arity, read_one}
use Rattle.step.proofs.operand.Goals as goal

pub one_operand-requires : goal.one_operand-requires
one_operand-requires c =
    (c.requires.0, c.requires.1 ∙ sym c.from.ensures, arity c.args.o c.requires.0 c.requires.1 ∙ c.requires.2)

pub returns : goal.returns
returns c = read_one _ c.requires.0 c.requires.1 _ c.requires.2 c.one_operand.ensures.answer c.one_operand.ensures.operand
