use Rattle.std.proofs.Common.{arith, ◌∙◌}
use Rattle.lines.specs.NumberAtLaws.{number_bad, number_first, number_got}
use Rattle.lines.proofs.reading.read_number.Goals as goal

pub returns-then-v-gt-NUMBER_MOST : goal.returns-then-v-gt-NUMBER_MOST
returns-then-v-gt-NUMBER_MOST c =
    let d = c.if-not-is_ascii_digit.ensures.cases in
    let h = c.in_ok-first.ensures.lookup.3 in
    number_bad (number_first _ _ h.0 (h.1 0) d.0 d.1 c.if-first-eq-DIGIT_0.false
    ∙ rw c.digit.ensures at (c.read_digits-v.ensures.over c.if-v-gt-NUMBER_MOST.true))

pub returns : goal.returns
returns c =
    let d = c.if-not-is_ascii_digit.ensures.cases in
    let h = c.in_ok-first.ensures.lookup.3 in
    let r = c.read_digits-v.ensures.fits (omega (arith, c.if-v-gt-NUMBER_MOST.false)) in
    number_got c.fitting-2.ensures r.1 (number_first _ _ h.0 (h.1 0) d.0 d.1 c.if-first-eq-DIGIT_0.false ∙ rw c.digit.ensures at r.0)
