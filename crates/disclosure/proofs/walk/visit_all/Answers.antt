use Rattle.std.proofs.Common.{arith, sym, ◌∙◌}
use Rattle.disclosure.specs.EntryLaws.{padded_one}
use Rattle.disclosure.specs.TallyLaws.{last_row_lem}
use Rattle.disclosure.specs.VisitLaws.{all_done, all_none, all_room, all_skip, all_turn}
use Rattle.disclosure.proofs.walk.visit_all.Goals as goal
use Rattle.disclosure.proofs.walk.visit_all.Goals.{then-g-e-ne0, else-g-e-ne0}

pub loop-e-init : goal.loop-e-init
loop-e-init c = (omega arith, all_none _ _ _)

pub visit_entity-i-requires : goal.visit_entity-i-requires
visit_entity-i-requires c = (
  record {
    guided = c.requires.0;
    tallied = c.requires.1;
    low = omega arith;
    high = omega (arith, c.loop-e-test.true);
    few
        = omega arith;
    padded = padded_one _;
  },
  all_room _ _ _ _ _ _ _ c.loop-e-test.true c.loop-e.invariant.1 c.requires.2,
)

pub loop-e-preserved : goal.loop-e-preserved
loop-e-preserved c = (
  omega (arith, c.loop-e-test.true),
  elim c.if-g-e-ne0.branch [
    | then-g-e-ne0 w ↦ rw (w.i-is, w.room-is) (all_turn _ _ _ _ _ _ _ _ c.loop-e.invariant.1 w.visit_entity-i.ensures)
    | else-g-e-ne0 w ↦ rw (w.i-is, w.room-is) (all_skip c.args.g.now.tables.now c.args.g.now.verdicts.now _ _ _ _
        (sym (last_row_lem c.args.g.now.tables.now c.args.g.now.verdicts.now c.args.g.now.tallies.now _ c.requires.1 _ c.loop-e-test.true
        (omega arith)) ∙ w.if-g-e-ne0.false)
        c.loop-e.invariant.1)
  ],
)

pub returns : goal.returns
returns c = all_done _ _ _ _ _ _ _ (omega arith) c.loop-e.invariant.1
