use Rattle.std.proofs.lemmas.Result.{err_from_is_err_and}
use Rattle.request_reader.specs.SevenLaws.{seven_copied, seven_stays}
use Rattle.request_reader.proofs.read_seven.Goals as goal

pub returns-in_err-next : goal.returns-in_err-next
returns-in_err-next c =
    let p = err_from_is_err_and c.from_residual.result c.from_residual.ensures.1 in
    rw (p.1, p.2) (seven_stays c.in_err-next.ensures)

pub returns : goal.returns
returns c = seven_copied c.in_ok-next.ensures c.copy_words.ensures
