use Rattle.std.proofs.Common.{arith, sym, ◌∙◌}
use Rattle.laws.specs.Loops.{none_more, seek_here, seek_none}
use Rattle.rows.proofs.sought.Goals as goal

pub returns-then-row_word-x : goal.returns-then-row_word-x
returns-then-row_word-x c =
    seek_here _ _ _ _ c.loop-i-test.true (sym c.row_word.ensures ∙ c.if-row_word-x.true) c.loop-i.invariant

pub loop-i-preserved : goal.loop-i-preserved
loop-i-preserved c = none_more _ _ _ c.loop-i.invariant (λ z. c.if-row_word-x.false (c.row_word.ensures ∙ z))

pub returns : goal.returns
returns c = seek_none _ _ _ (λ j h. c.loop-i.invariant j (omega arith))
