use Rattle.std.proofs.Common.{arith, eqb, not}
use Rattle.laws.specs.Loops.{each_fails, each_more, every_done, every_none}
use Rattle.model.specs.Tables.Layout.{tables_of}
use Rattle.model.specs.Tables.Words.{devices}
use Rattle.tables.proofs.users.nobody_on.Goals as goal

pub loop-i-init : goal.loop-i-init
loop-i-init c = every_none _

pub returns-then-eq : goal.returns-then-eq
returns-then-eq c =
    each_fails _ (λ v. not (eqb (devices (tables_of c.args.t.now) v) c.args.e.0)) _ c.loop-i-test.true
    (rw (← c.device.ensures, ← c.eq.ensures, c.if-eq.true))

pub loop-i-preserved : goal.loop-i-preserved
loop-i-preserved c =
    each_more _ (λ v. not (eqb (devices (tables_of c.args.t.now) v) c.args.e.0))
    c.loop-i.invariant (rw (← c.device.ensures, ← c.eq.ensures, c.if-eq.false))

pub returns : goal.returns
returns c = every_done _ _ _ c.loop-i.invariant c.loop-i.auto.i-end (omega arith)
