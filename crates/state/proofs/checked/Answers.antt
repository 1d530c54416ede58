use Rattle.std.proofs.Common.{eq-eqb, length, ne_eqb}
use Rattle.model.specs.State.Check.{check}
use Rattle.model.specs.Tables.Layout.{word_count}
use Rattle.state.proofs.checked.Goals as goal

pub returns-then-t-ne-TABLE_WORDS : goal.returns-then-t-ne-TABLE_WORDS
unfolding check
returns-then-t-ne-TABLE_WORDS c = rw (ne_eqb (length c.args.t.now) word_count c.if-t-ne-TABLE_WORDS.true)

pub returns : goal.returns
unfolding check
returns c = rw (eq-eqb (length c.args.t.now) word_count c.if-t-ne-TABLE_WORDS.false) c.judged.ensures
