use Rattle.std.proofs.Common.{arith, sym}
use Rattle.request_writer.specs.NameLaws.{dotted_turn, taken_all, taken_most}
use Rattle.request_writer.specs.NeedLaws.{digits_bound}
use Rattle.request_writer.proofs.names_len.Goals as goal

pub loop-name-preserved : goal.loop-name-preserved
loop-name-preserved c =
    rw (c.number_len.ensures, c.loop-name.invariant) (sym (dotted_turn c.args.names.now c.loop-name.name-index (omega arith)))

pub overflow_add-n : goal.overflow_add-n
overflow_add-n c = omega (arith, digits_bound _ c.number_len.ensures)

pub overflow_add-n-in-loop-name : goal.overflow_add-n-in-loop-name
overflow_add-n-in-loop-name c =
    omega (arith, digits_bound _ c.number_len.ensures, c.loop-name.invariant, taken_most c.args.names.now c.loop-name.name-index c.requires)

pub returns : goal.returns
returns c = rw c.saturating_sub.ensures (taken_all _ _ _ c.loop-name-test.false c.loop-name.invariant)
