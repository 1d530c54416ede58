use Rattle.std.proofs.Common.{◌<◌, ap, arith, length, refl, suc, take, ℕ, ◌∙◌, ◌≡◌}
use Rattle.model.specs.Text.Unfinished.{ends}
use Rattle.tables_reader.specs.WholeLaws.{ends_most, line_ends, line_goes}
use Rattle.tables_reader.proofs.line_at.Goals.{else-s-i-eq-LINE_END, then-s-i-eq-LINE_END}
use Rattle.tables_reader.proofs.line_at.Goals as goal

pub loop-i-init : goal.loop-i-init
loop-i-init c = (omega arith, refl)

pub bounds-s-i : goal.bounds-s-i
bounds-s-i c = omega (arith, c.loop-i-test.true, c.requires.0)

pub overflow_add-n : goal.overflow_add-n
overflow_add-n c =
    let e = ends_most c.args.s.now c.loop-i.i c.args.at c.loop-i.invariant.0 in
    omega (arith, c.loop-i.invariant.1, c.requires.1)

pub loop-i-preserved : goal.loop-i-preserved
loop-i-preserved c =
    let l : c.loop-i.i < length c.args.s.now = omega (arith, c.loop-i-test.true, c.requires.0) in (
      omega (arith, c.loop-i-test.true),
      elim c.if-s-i-eq-LINE_END.branch [
        | then-s-i-eq-LINE_END w ↦ w.n-is ∙ line_ends c.args.s.now c.loop-i.i c.loop-i.n l c.loop-i.invariant.1 w.if-s-i-eq-LINE_END.true
        | else-s-i-eq-LINE_END w ↦ w.n-is ∙ line_goes c.args.s.now c.loop-i.i c.loop-i.n l c.loop-i.invariant.1 w.if-s-i-eq-LINE_END.false
      ],
    )

pub returns : goal.returns
returns c =
    let e : c.loop-i.i ≡ c.args.at = omega (arith, c.loop-i.invariant.0, c.loop-i-test.false) in
    c.loop-i.invariant.1 ∙ ap (λ (k : ℕ). suc (ends (take k c.args.s.now))) e
