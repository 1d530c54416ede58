use Rattle.std.proofs.Common.{add-one, le-ltb, lt-ltb}
use Rattle.model.specs.Tables.Words.{missed_most}
use Rattle.step.proofs.notice.one_more.Goals as goal

pub returns-then-m-lt-MISSED_MOST : goal.returns-then-m-lt-MISSED_MOST
returns-then-m-lt-MISSED_MOST c = rw (lt-ltb c.args.m missed_most c.if-m-lt-MISSED_MOST.true) (add-one c.args.m)

pub returns : goal.returns
returns c = rw (le-ltb c.args.m missed_most c.if-m-lt-MISSED_MOST.false)
