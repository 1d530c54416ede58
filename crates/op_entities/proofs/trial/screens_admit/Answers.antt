use Rattle.std.proofs.Common.{arith, sym, ◌∙◌}
use Rattle.laws.specs.Loops.{each_fails, each_more, every_done, every_none}
use Rattle.model.specs.Tables.Layout.{tables_of}
use Rattle.model.specs.Tables.Words.{user_count}
use Rattle.op_entities.specs.Held.{screen_admits, screens_admit}
use Rattle.op_entities.proofs.trial.screens_admit.Goals as goal

pub loop-i-init : goal.loop-i-init
loop-i-init c = every_none _

pub returns-then-not-screen_admits : goal.returns-then-not-screen_admits
unfolding screens_admit
returns-then-not-screen_admits c =
    each_fails user_count (screen_admits (tables_of c.args.t.now) c.args.e.0 c.args.a.0) _ c.loop-i-test.true
    (sym c.screen_admits.ensures ∙ c.if-not-screen_admits.true)

pub loop-i-preserved : goal.loop-i-preserved
loop-i-preserved c =
    each_more _ (screen_admits (tables_of c.args.t.now) c.args.e.0 c.args.a.0)
    c.loop-i.invariant (sym c.screen_admits.ensures ∙ c.if-not-screen_admits.false)

pub returns : goal.returns
unfolding screens_admit
returns c = every_done _ user_count _ c.loop-i.invariant (omega arith) (omega arith)
