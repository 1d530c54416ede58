use Rattle.std.proofs.Common.{arith}
use Rattle.std.proofs.lemmas.List.{length-take-le}
use Rattle.script.proofs.StaysLaws.{runs_stay}
use Rattle.script.specs.WholeLaws.{wanted_short}
use Rattle.desk.proofs.serve.Goals as goal

pub loop-preserved : goal.loop-preserved
loop-preserved g c = (
  omega (arith, c.keep-len.ensures.0, c.keep-len.auto.window, c.fetch-filled.ensures.1),
  (λ e. omega (
    arith,
    wanted_short c.run-r.ensures _ _ _ _ c.is_over.ensures c.if-is_over.false c.run-r.auto.out c.had_room-wanted.ensures e,
    length-take-le c.fetch-filled.result c.fetch-filled.new.window (omega (arith, c.fetch-filled.ensures.1, c.fetch-filled.auto.window)),
    c.keep-len.ensures.0,
    c.keep-len.auto.window,
    c.fetch-filled.auto.window,
    c.loop.auto.window,
    c.requires.roomy,
  )),
  runs_stay c.run-r.ensures c.loop.invariant.2,
)
