use Rattle.std.proofs.Common.{arith, sym, ◌∙◌}
use Rattle.model.specs.Tables.Layout.{tables_of}
use Rattle.op_places.specs.VacantLaws.{vacant_here, vacant_none}
use Rattle.op_places.proofs.filling.vacant.Goals as goal

pub returns-then-kind-eq-ABSENT : goal.returns-then-kind-eq-ABSENT
returns-then-kind-eq-ABSENT c =
    vacant_here (tables_of c.args.t.now) _ c.loop-i-test.true c.loop-i.invariant
    (sym c.kind.ensures ∙ c.if-kind-eq-ABSENT.true)

pub returns : goal.returns
returns c = vacant_none (tables_of c.args.t.now) c.loop-i.i (omega arith) c.loop-i.invariant
