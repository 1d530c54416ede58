use Rattle.std.proofs.Common.{◌*◌, arith}
use Rattle.disclosure.specs.Tallied.{row_words, tally_words}
use Rattle.disclosure.specs.TallyLaws.{tallied_less}
use Rattle.disclosure.proofs.tally.tally_rows.Goals as goal

pub loop-k-preserved : goal.loop-k-preserved
loop-k-preserved c = (omega arith, c.tally_row.ensures)

pub returns : goal.returns
returns c = tallied_less _ _ _ tally_words (c.loop-k.k * row_words) (omega arith) c.loop-k.invariant.1
