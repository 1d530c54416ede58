use Rattle.std.proofs.Common.{◌+◌, ap, arith, length, refl, ℕ, ◌∙◌, ◌≡◌}
use Rattle.disclosure.specs.TallyLaws.{followed_few, tally_entity}
use Rattle.disclosure.specs.Visited.{followed}
use Rattle.model.specs.List.Walk.{through, walk}
use Rattle.model.specs.Tables.Words.{entity_count}
use Rattle.disclosure.proofs.tally.tally_all.Goals as goal

pub loop-e-init : goal.loop-e-init
unfolding walk through
loop-e-init c = (omega arith, refl)

pub overflow_add-s-in-loop-e : goal.overflow_add-s-in-loop-e
overflow_add-s-in-loop-e c =
    omega (
      arith,
      c.loop-e-test.true,
      tally_entity c.args.t.now c.args.v.now
          c.tally_rows.new.b _ c.tally_rows.ensures c.loop-e.e _
          c.loop-e-test.true (omega arith) c.loop-e.invariant.1,
      followed_few c.args.t.now c.args.v.now
          c.requires.0 (c.loop-e.e + 1),
    )

pub loop-e-preserved : goal.loop-e-preserved
loop-e-preserved c = (
  omega (arith, c.loop-e-test.true),
  tally_entity c.args.t.now c.args.v.now
      c.tally_rows.new.b _ c.tally_rows.ensures c.loop-e.e _
      c.loop-e-test.true (omega arith) c.loop-e.invariant.1,
)

pub returns : goal.returns
returns c =
    let q : c.loop-e.e ≡ entity_count = omega (arith, c.loop-e.invariant.0, c.loop-e-test.false) in (
      c.loop-e.invariant.1 ∙ ap (λ (n : ℕ). length (followed c.args.t.now c.args.v.now n)) q,
      c.tally_rows.ensures,
    )
