use Rattle.std.proofs.Common.{arith, refl, ◌≡◌}
use Rattle.state.specs.JumpLaws.{climbed_all, climbed_ends, climbed_low, climbed_one, climbed_twice, far, round_on}
use Rattle.state.proofs.tree.all_end.Goals as goal

pub loop-round-init : goal.loop-round-init
loop-round-init c = (climbed_one _ c.requires.0, refl)

pub jump-requires : goal.jump-requires
jump-requires c = (climbed_low _ c.requires.0 _ _ c.loop-round.invariant.0, c.loop-round.invariant.1)

pub returns-then-jump : goal.returns-then-jump
returns-then-jump c =
    let up = climbed_twice _ c.requires.0 _ _ _ _ c.loop-round.invariant.0 c.jump.ensures in
    climbed_ends _ c.requires.0 _ _ _ _ _ up c.jump.ensures (omega (arith, far c.loop-round._round)) c.if-jump.true

pub jump-requires-in-loop-round : goal.jump-requires-in-loop-round
jump-requires-in-loop-round c = (
  climbed_low _ c.requires.0 _ _ (climbed_twice _ c.requires.0 _ _ _ _ c.loop-round.invariant.0 c.jump.ensures),
  c.loop-round.invariant.0.size,
)

pub returns-then-jump-2 : goal.returns-then-jump-2
returns-then-jump-2 c =
    let up = climbed_twice _ c.requires.0 _ _ _ _ (climbed_twice _ c.requires.0 _ _ _ _ c.loop-round.invariant.0 c.jump.ensures)
    c.jump-in-loop-round.ensures in
    climbed_ends _ c.requires.0 _ _ _ _ _ up c.jump-in-loop-round.ensures (omega (arith, far c.loop-round._round)) c.if-jump-2.true

pub loop-round-preserved : goal.loop-round-preserved
loop-round-preserved c = (
  rw (← round_on c.loop-round._round) (climbed_twice _ c.requires.0 _ _ _ _ (climbed_twice _ c.requires.0 _ _ _ _
      c.loop-round.invariant.0 c.jump.ensures) c.jump-in-loop-round.ensures),
  c.jump.ensures.size,
)

pub jump-requires-2 : goal.jump-requires-2
jump-requires-2 c = (climbed_low _ c.requires.0 _ _ c.loop-round.invariant.0, c.loop-round.invariant.1)

pub returns : goal.returns
returns c =
    let e : c.loop-round._round ≡ 3 = omega arith in
    climbed_all _ c.requires.0 _ _ _ _ _ (climbed_twice _ c.requires.0 _ _ _ _ c.loop-round.invariant.0 c.jump-2.ensures)
    c.jump-2.ensures c.requires.1 (rw e (omega arith))
