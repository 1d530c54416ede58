use Rattle.lines.proofs.writing.+number_len.Given as goal

abbrev pub decreases-number_len : goal.decreases-number_len
decreases-number_len l = l.v
