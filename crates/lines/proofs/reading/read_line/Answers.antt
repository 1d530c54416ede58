use Rattle.std.proofs.Common.{arith, length, ◌<◌}
use Rattle.lines.specs.LineAtLaws.{key_room, line_behind, line_no_key, line_no_number, line_one, line_short}
use Rattle.lines.specs.NumberAtLaws.{number_bad, number_other, other}
use Rattle.lines.proofs.reading.read_line.Goals as goal

pub returns-then-s-at : goal.returns-then-s-at
returns-then-s-at c = line_short c.if-s-at.true

pub returns-in_err-i : goal.returns-in_err-i
returns-in_err-i c = rw c.from_residual.ensures (line_no_key c.in_err-i.ensures)

pub bounds-s-i : goal.bounds-s-i
bounds-s-i c =
    let room = key_room c.requires c.if-s-at.false c.in_ok-i.ensures in
    omega arith

pub returns-then-not-is_ascii_digit : goal.returns-then-not-is_ascii_digit
returns-then-not-is_ascii_digit c =
    let room = key_room c.requires c.if-s-at.false c.in_ok-i.ensures in
    let l : c.in_ok-i.i < length c.args.s.now = omega arith in
    line_no_number c.in_ok-i.ensures (number_bad (number_other _ _ l (other _ c.if-not-is_ascii_digit.ensures.cases)))

pub bounds-s-i-2 : goal.bounds-s-i-2
bounds-s-i-2 c = key_room c.requires c.if-s-at.false c.in_ok-i.ensures

pub returns-then-s-i-ne-LINE_END : goal.returns-then-s-i-ne-LINE_END
returns-then-s-i-ne-LINE_END c = line_behind c.in_ok-i.ensures c.read_rest.ensures

pub returns : goal.returns
returns c =
    let room = key_room c.requires c.if-s-at.false c.in_ok-i.ensures in
    let d = c.if-not-is_ascii_digit.ensures.cases in
    rw (c.fitting.ensures, c.digit.ensures) (line_one c.in_ok-i.ensures room d.0 d.1 c.if-s-i-ne-LINE_END.false)
