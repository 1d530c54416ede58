use Rattle.request_reader.specs.FillLaws.{bad1, bad2, bad3, bad4, bad5, bad6, bad7, read7, stored_is}
use Rattle.request_reader.specs.SevenLaws.{seven_bad, seven_next}
use Rattle.request_reader.proofs.fill.Goals as goal

pub returns-in_default : goal.returns-in_default
returns-in_default c =
    seven_bad (bad1 c.in_default.ensures)

pub returns-in_default-read_line : goal.returns-in_default-read_line
returns-in_default-read_line c =
    seven_bad (bad2 c.in-Some.ensures c.in_default-read_line.ensures)

pub returns-in_default-first_ref : goal.returns-in_default-first_ref
returns-in_default-first_ref c =
    seven_bad (bad3 c.in-Some.ensures c.in-Some-read_line.ensures c.in_default-first_ref.ensures)

pub returns-in_default-second_ref : goal.returns-in_default-second_ref
returns-in_default-second_ref c =
    seven_bad (bad4 c.in-Some.ensures c.in-Some-read_line.ensures c.in-Some-first_ref.ensures c.in_default-second_ref.ensures)

pub returns-in_default-read_line-2 : goal.returns-in_default-read_line-2
returns-in_default-read_line-2 c =
    seven_bad (bad5 c.in-Some.ensures c.in-Some-read_line.ensures c.in-Some-first_ref.ensures c.in-Some-second_ref.ensures
    c.in_default-read_line-2.ensures)

pub returns-in_default-read_line-3 : goal.returns-in_default-read_line-3
returns-in_default-read_line-3 c =
    seven_bad (bad6 c.in-Some.ensures c.in-Some-read_line.ensures c.in-Some-first_ref.ensures c.in-Some-second_ref.ensures c.in-Some-read_line-2.ensures
    c.in_default-read_line-3.ensures)

pub returns-in_default-last_line : goal.returns-in_default-last_line
returns-in_default-last_line c =
    seven_bad (bad7 c.in-Some.ensures c.in-Some-read_line.ensures c.in-Some-first_ref.ensures c.in-Some-second_ref.ensures c.in-Some-read_line-2.ensures
    c.in-Some-read_line-3.ensures c.in_default-last_line.ensures)

pub returns : goal.returns
returns c =
    let e3 = c.in-Some-first_ref.ensures in
    let e4 = c.in-Some-second_ref.ensures in
    let e7 = c.in-Some-last_line.ensures in
    seven_next e7.within (read7 c.in-Some.ensures c.in-Some-read_line.ensures e3 e4 c.in-Some-read_line-2.ensures c.in-Some-read_line-3.ensures e7)
    (stored_is c.args.w.now _ _ _ _ _ _ _ _ _ c.requires.1 c.first_ref.auto.out e3.few e3.kept c.second_ref.auto.out e4.few e4.kept)
