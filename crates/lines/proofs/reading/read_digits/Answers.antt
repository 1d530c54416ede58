use Rattle.std.proofs.Common.{arith, length, refl, ◌≡◌, ◌∙◌}
use Rattle.lines.specs.NumberAtLaws.{more_end, more_other, more_over, more_turn, other}
use Rattle.lines.proofs.reading.read_digits.Goals as goal

pub loop-i-init : goal.loop-i-init
loop-i-init c = record { fits = c.requires.1; so_far = refl }

pub returns-then-not-is_ascii_digit : goal.returns-then-not-is_ascii_digit
returns-then-not-is_ascii_digit c = record {
  fits = λ h. (c.loop-i.invariant.so_far ∙ more_other _ _ _ c.loop-i-test.true (other _ c.if-not-is_ascii_digit.ensures.cases), omega arith);
  over = λ h. absurd (omega (arith, c.loop-i.invariant.fits, h));
}

pub returns-then-v-gt-NUMBER_MOST : goal.returns-then-v-gt-NUMBER_MOST
returns-then-v-gt-NUMBER_MOST c =
    let d = c.if-not-is_ascii_digit.ensures.cases in
    record {
      fits = λ h. absurd (omega (arith, c.if-v-gt-NUMBER_MOST.true, h));
      over = λ h. c.loop-i.invariant.so_far ∙ more_over _ _ _ c.loop-i-test.true d.0 d.1 (rw c.digit.ensures at c.if-v-gt-NUMBER_MOST.true);
    }

pub loop-i-preserved : goal.loop-i-preserved
loop-i-preserved c =
    let d = c.if-not-is_ascii_digit.ensures.cases in
    let m = rw c.digit.ensures at c.if-v-gt-NUMBER_MOST.false in
    record {
      fits = c.if-v-gt-NUMBER_MOST.false;
      so_far = rw c.digit.ensures (c.loop-i.invariant.so_far ∙ more_turn _ _ _ c.loop-i-test.true d.0 d.1 m);
    }

pub returns : goal.returns
returns c =
    let i : c.loop-i.i ≡ length c.args.s.now = omega arith in
    record {
      fits = λ h. (c.loop-i.invariant.so_far ∙ more_end _ _ _ c.loop-i-test.false ∙ rw i, omega arith);
      over = λ h. absurd (omega (arith, c.loop-i.invariant.fits, h));
    }
