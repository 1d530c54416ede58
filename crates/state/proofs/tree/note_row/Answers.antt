use Rattle.std.proofs.Common.{arith}
use Rattle.model.specs.Basics.TestLaws.{is_true}
use Rattle.model.specs.Tables.Layout.{tables_of}
use Rattle.model.specs.Tables.LayoutLaws.{bounded}
use Rattle.state.specs.HolderLaws.{packed_entity, packed_room, slot_at}
use Rattle.state.specs.NotedLaws.{amiss_twice, noted_put, noted_rest, noted_skip, noted_start, stopped, went_on}
use Rattle.state.proofs.tree.note_row.Goals as goal

pub returns-then-kind-ne-CONTAINER : goal.returns-then-kind-ne-CONTAINER
returns-then-kind-ne-CONTAINER c =
    went_on _ _ _ (noted_skip (tables_of _) (bounded _) _ _ _ c.requires.0.1 c.kind.ensures c.if-kind-ne-CONTAINER.true
    c.requires.2)

pub loop-i-init : goal.loop-i-init
loop-i-init c =
    (packed_room (tables_of _) (bounded _) _ (is_true _ c.requires.1) _ c.used-n.ensures, noted_start _ _ _ c.requires.2)

pub bounds-h-x : goal.bounds-h-x
bounds-h-x c =
    omega (
      arith,
      packed_entity (tables_of _) (bounded _) _ (is_true _ c.requires.1) _ _ _ c.used-n.ensures
          c.loop-i-test.true c.place-x.ensures,
    )

pub returns-then-h-x-ne0 : goal.returns-then-h-x-ne0
returns-then-h-x-ne0 c =
    stopped _ _ _ (amiss_twice (tables_of _) (bounded _) _ _ _ _ (slot_at (tables_of _) _ _ _ _ _ c.requires.0.1 c.kind.ensures c.if-kind-ne-CONTAINER.false
    c.used-n.ensures c.loop-i-test.true c.place-x.ensures) c.if-h-x-ne0.true c.loop-i.invariant.1)

pub bounds-h-x-in-loop-i : goal.bounds-h-x-in-loop-i
bounds-h-x-in-loop-i c =
    omega (
      arith,
      packed_entity (tables_of _) (bounded _) _ (is_true _ c.requires.1) _ _ _ c.used-n.ensures
          c.loop-i-test.true c.place-x.ensures,
    )

pub loop-i-preserved : goal.loop-i-preserved
loop-i-preserved c = (
  c.loop-i.invariant.0,
  noted_put (tables_of _) (bounded _) _ _ _ _ (slot_at (tables_of _) _ _ _ _ _ c.requires.0.1
      c.kind.ensures c.if-kind-ne-CONTAINER.false c.used-n.ensures c.loop-i-test.true c.place-x.ensures)
      c.if-h-x-ne0.false c.loop-i.invariant.1,
)

pub returns : goal.returns
returns c =
    went_on _ _ _ (noted_rest (tables_of _) (bounded _) _ _ _ _ c.requires.0.1 c.used-n.ensures (omega arith)
    (omega arith) c.loop-i.invariant.1)
