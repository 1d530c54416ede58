use Rattle.std.proofs.Common.{arith, pos_of_ne-zero, refl, ◌-◌}
use Rattle.verdicts.specs.Verdicts.{leads, listed}
use Rattle.disclosure.specs.VisitLaws.{entity_ends, entity_last, entity_more, here_room, places_done, places_none, places_room, places_skip, places_turn}
use Rattle.disclosure.specs.VisitLaws.{turn_room}
use Rattle.disclosure.specs.EntryLaws.{padded_more, take_more}
use Rattle.disclosure.specs.TallyLaws.{tally_nothing}
use Rattle.verdicts.specs.VerdictLaws.{guided_next, guided_place}
use Rattle.model.specs.Request.Words.{name_count}
use Rattle.disclosure.proofs.walk.+visit_entity_visit_places.Goals as goal
use Rattle.disclosure.proofs.walk.+visit_entity_visit_places.Goals.{visit_places-then-w-left, visit_places-else-w-left+then-tallies-left-ne0}
use Rattle.disclosure.proofs.walk.+visit_entity_visit_places.Goals.{visit_places-else-w-left+else-tallies-left-ne0}

pub visit_entity-visit_here-next-requires : goal.visit_entity-visit_here-next-requires
unfolding listed
visit_entity-visit_here-next-requires t c = (
  c.requires.0.few,
  c.requires.0.padded,
  here_room c.args.g.now.tables.now c.args.g.now.verdicts.now c.args.left c.args.e.0 _
      c.args.room.now _ refl c.requires.1,
)

pub visit_entity-returns-then-left-eq0 : goal.visit_entity-returns-then-left-eq0
unfolding listed
visit_entity-returns-then-left-eq0 t c =
    entity_last _ _ c.args.left c.args.e.0 _ _ _ _ _ _ c.if-left-eq0.true refl c.visit_here-next.ensures

pub visit_entity-visit_places-requires : goal.visit_entity-visit_places-requires
unfolding leads listed
visit_entity-visit_places-requires t c = (
  omega (arith, c.decreases),
  (
    c.requires.0,
    pos_of_ne-zero c.if-left-eq0.false,
    refl,
    places_room c.args.g.now.tables.now
        c.args.g.now.verdicts.now c.args.left c.args.e.0 _ _ c.if-left-eq0.false refl refl _ _ _ _ _ c.visit_here-next.ensures
        c.requires.1,
  ),
)

pub visit_entity-returns : goal.visit_entity-returns
unfolding leads listed
visit_entity-returns t c =
    entity_more c.args.g.now.tables.now c.args.g.now.verdicts.now c.args.left c.args.e.0 _ _ c.if-left-eq0.false refl refl _ _ _ _ _ _ _
    c.visit_here-next.ensures c.visit_places.ensures

pub visit_places-loop-p-init : goal.visit_places-loop-p-init
visit_places-loop-p-init t c = (
  omega arith,
  places_none c.args.g.now.tables.now c.args.g.now.verdicts.now (c.args.left - 1)
      c.args.e.0 _ _ _,
)

pub visit_places-place-c-requires : goal.visit_places-place-c-requires
visit_places-place-c-requires t c = (
  (c.requires.0.guided.whole, c.requires.0.low, c.requires.0.high),
  guided_place _ _ c.requires.0.guided _ _ _ c.requires.2
      c.loop-p-test.true,
)

pub visit_places-bounds-verdicts-c : goal.visit_places-bounds-verdicts-c
visit_places-bounds-verdicts-c t c =
    omega (
      arith,
      guided_next _ _ c.requires.0.guided _ _ _ c.requires.2 c.loop-p-test.true _
          c.place-c.ensures,
    )

pub visit_places-visit_last-i-requires : goal.visit_places-visit_last-i-requires
unfolding listed
visit_places-visit_last-i-requires t c = (
  c.requires.1,
  c.requires.0.few,
  c.requires.0.padded,
  here_room c.args.g.now.tables.now c.args.g.now.verdicts.now (c.args.left - 1)
      c.place-c.result.0 _ c.loop-p.room _ refl (turn_room c.args.g.now.tables.now c.args.g.now.verdicts.now (c.args.left - 1) c.args.e.0 _ _
      c.place-c.ensures _ _ _ _ _ _ c.loop-p-test.true c.loop-p.invariant.1 c.requires.3),
)

pub visit_places-overflow_add-left : goal.visit_places-overflow_add-left
visit_places-overflow_add-left t c =
    omega (
      arith,
      c.requires.0.few,
      guided_next _ _ c.requires.0.guided _ _ _ c.requires.2 c.loop-p-test.true _
          c.place-c.ensures,
    )

pub visit_places-offset_bounds-tallies-left : goal.visit_places-offset_bounds-tallies-left
visit_places-offset_bounds-tallies-left t c =
    omega (
      arith,
      c.requires.0.few,
      guided_next _ _ c.requires.0.guided _ _ _ c.requires.2 c.loop-p-test.true _
          c.place-c.ensures,
    )

pub visit_places-bounds-tallies-left : goal.visit_places-bounds-tallies-left
visit_places-bounds-tallies-left t c =
    omega (
      arith,
      c.requires.0.few,
      guided_next _ _ c.requires.0.guided _ _ _ c.requires.2 c.loop-p-test.true _
          c.place-c.ensures,
    )

pub visit_places-visit_entity-i-requires : goal.visit_places-visit_entity-i-requires
visit_places-visit_entity-i-requires t c =
    let g = guided_next _ _ c.requires.0.guided _ _ _ c.requires.2 c.loop-p-test.true _ c.place-c.ensures in (
      omega (arith, c.decreases, c.requires.1),
      (
        record {
          guided = c.requires.0.guided;
          tallied = c.requires.0.tallied;
          low = g.0;
          high
              = g.1;
          few = omega (arith, c.requires.0.few);
          padded = padded_more _ _ _ _ (omega (arith, c.requires.1, c.requires.0.few))
              c.requires.0.padded;
        },
        turn_room c.args.g.now.tables.now c.args.g.now.verdicts.now (c.args.left - 1) c.args.e.0 _ _
            c.place-c.ensures _ _ _ _ _ _ c.loop-p-test.true c.loop-p.invariant.1 c.requires.3,
      ),
    )

pub visit_places-loop-p-preserved : goal.visit_places-loop-p-preserved
unfolding leads listed
visit_places-loop-p-preserved t c = (
  omega (arith, c.loop-p-test.true),
  elim c.if-w-left.branch [
    | visit_places-then-w-left w ↦
        rw (w.i-is, w.room-is) (places_turn c.args.g.now.tables.now c.args.g.now.verdicts.now (c.args.left - 1) c.args.e.0 _ _
        c.place-c.ensures _ _ _ _ _ _ _ _ refl c.loop-p.invariant.1 (entity_ends c.args.g.now.tables.now c.args.g.now.verdicts.now c.args.left
        c.place-c.result.0 _ _ _ _ _ _ w.if-w-left.true refl w.visit_last-i.ensures))
    | visit_places-else-w-left+then-tallies-left-ne0 w ↦
        rw (w.i-is, w.room-is) (places_turn c.args.g.now.tables.now c.args.g.now.verdicts.now (c.args.left - 1) c.args.e.0 _ _
        c.place-c.ensures _ _ _ _ _ _ _ _ (take_more c.args.names (name_count - c.args.left) (name_count - (c.args.left - 1)) _
        (omega (arith, c.requires.1, c.requires.0.few)) (omega (arith, c.requires.1, c.requires.0.few)) c.requires.0.padded)
        c.loop-p.invariant.1 w.visit_entity-i.ensures)
    | visit_places-else-w-left+else-tallies-left-ne0 w ↦
        let g = guided_next _ _ c.requires.0.guided _ _ _ c.requires.2 c.loop-p-test.true _ c.place-c.ensures in
        rw (w.i-is, w.room-is) (places_skip c.args.g.now.tables.now c.args.g.now.verdicts.now (c.args.left - 1) c.args.e.0 _ _
        c.place-c.ensures _ _ _ _ _ (tally_nothing c.args.g.now.tables.now c.args.g.now.verdicts.now c.args.g.now.tallies.now _ c.requires.0.tallied
        (c.args.left - 1) _ (omega (arith, c.requires.0.few)) (omega arith) g.0 g.1 w.if-tallies-left-ne0.false) c.loop-p.invariant.1)
  ],
)

pub visit_places-returns : goal.visit_places-returns
visit_places-returns t c =
    places_done c.args.g.now.tables.now c.args.g.now.verdicts.now (c.args.left - 1) c.args.e.0 _ _ _ _ _ _ _ (omega arith)
    c.loop-p.invariant.1
