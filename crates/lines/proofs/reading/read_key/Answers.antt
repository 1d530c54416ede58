use Rattle.std.proofs.Common.{arith, length, ◌≡◌, ◌∙◌}
use Rattle.lines.specs.LineAtLaws.{key_at_lem, key_end, key_nothing, key_short, key_start, key_turn}
use Rattle.lines.proofs.reading.read_key.Goals as goal

pub returns-then-s-at : goal.returns-then-s-at
returns-then-s-at c = key_short c.if-s-at.true

pub loop-i-init : goal.loop-i-init
loop-i-init c = key_start c.args.s.now c.args.key.now c.args.at

pub loop-i-preserved : goal.loop-i-preserved
loop-i-preserved c =
    let a = c.args in
    c.loop-i.invariant ∙ key_turn a.s.now a.key.now a.at c.loop-i.i c.loop-i.same c.loop-i-test.true (omega arith)

pub returns-then-not-same : goal.returns-then-not-same
returns-then-not-same c = key_nothing (c.loop-i.invariant ∙ rw c.if-not-same.true)

pub returns : goal.returns
returns c =
    let a = c.args in
    let i : c.loop-i.i ≡ length a.key.now = omega arith in
    let all = key_end a.s.now a.key.now a.at c.loop-i.i c.loop-i.same c.loop-i-test.false in
    key_at_lem (omega arith) (c.loop-i.invariant ∙ all ∙ rw (c.if-not-same.false, i))
