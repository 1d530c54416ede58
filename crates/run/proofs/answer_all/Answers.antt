use Rattle.std.proofs.Common.{arith, refl}
use Rattle.run.specs.GoingLaws.{going_checked, going_end, going_length, going_on, going_start}
use Rattle.run.proofs.answer_all.Goals as goal

pub loop-i-init : goal.loop-i-init
loop-i-init c = going_start _ _ _ _ c.requires

pub on_checked-requires : goal.on_checked-requires
on_checked-requires c = going_checked c.requires c.loop-i.invariant (omega arith) _ _ refl (omega arith) _ refl

pub bounds-answers-i : goal.bounds-answers-i
bounds-answers-i c = omega (arith, going_length c.requires c.loop-i.invariant, c.requires.places)

pub loop-i-preserved : goal.loop-i-preserved
loop-i-preserved c =
    rw c.number.ensures (going_on c.requires c.loop-i.invariant (omega arith) _ _ refl (omega arith) _ refl _ _ c.on_checked.ensures)

pub returns : goal.returns
returns c = going_end c.requires c.loop-i.invariant (omega arith)
