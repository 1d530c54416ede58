use Rattle.std.proofs.lemmas.Result.{err_from_is_err_and}
use Rattle.request_reader.specs.ReadLaws.{read_bad, read_behind, read_other_size, read_whole}
use Rattle.request_reader.proofs.read.Goals as goal

pub returns-then-request-ne-REQUEST_WORDS : goal.returns-then-request-ne-REQUEST_WORDS
returns-then-request-ne-REQUEST_WORDS c = rw c.from.ensures (read_other_size _ _ c.if-request-ne-REQUEST_WORDS.true)

pub returns-in_err-i : goal.returns-in_err-i
returns-in_err-i c =
    let p = err_from_is_err_and c.from_residual.result c.from_residual.ensures.1 in
    rw (p.1, p.2) (read_bad _ _ _ _ c.if-request-ne-REQUEST_WORDS.false c.in_err-i.ensures)

pub returns-then-i-text : goal.returns-then-i-text
returns-then-i-text c =
    rw c.from-then-i-text.ensures (read_behind _ _ _ _ c.if-request-ne-REQUEST_WORDS.false c.in_ok-i.ensures c.if-i-text.true)

pub returns : goal.returns
returns c =
    rw c.copy_words.ensures (read_whole _ _ _ _ c.if-request-ne-REQUEST_WORDS.false c.in_ok-i.ensures c.if-i-text.false)
