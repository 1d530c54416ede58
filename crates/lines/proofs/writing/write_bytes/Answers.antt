use Rattle.std.proofs.Common.{ap, arith, get_or, length, length-set, refl, set, take, ◌∙◌, ◌≡◌}
use lib.Seq.{take-length}
use Rattle.lines.specs.Onto.{onto}
use Rattle.lines.specs.OntoLaws.{onto_turn}
use Rattle.lines.proofs.writing.write_bytes.Goals as goal

pub loop-i-preserved : goal.loop-i-preserved
loop-i-preserved c =
    let a = c.args in (
      simp length-set c.loop-i.invariant.0,
      ap (λ d. set d c.loop-i.i (get_or a.src.now c.loop-i.i 0)) c.loop-i.invariant.1 ∙ onto_turn a.src.now
          a.out.now c.loop-i.i c.loop-i-test.true c.requires,
    )

pub returns : goal.returns
returns c =
    let a = c.args in
    let e : c.loop-i.i ≡ length a.src.now = omega arith in
    record { many = refl; now_is = c.loop-i.invariant.1 ∙ ap (λ n. onto (take n a.src.now) a.out.now) e ∙ rw take-length }
