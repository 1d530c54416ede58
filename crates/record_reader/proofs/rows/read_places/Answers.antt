use Rattle.std.proofs.Common.{ap, arith, ◌∙◌}
use Rattle.model.specs.Tables.Edits.{on_entity, word}
use Rattle.model.specs.Tables.Words.{shown}
use Rattle.record_reader.specs.RecordLaws.{places_next, places_past, places_start, places_stuck}
use Rattle.record_reader.proofs.rows.read_places.Goals as goal

pub loop-k-init : goal.loop-k-init
loop-k-init c = places_start _ _ c.requires.0 c.requires.1.0

pub returns-in_default : goal.returns-in_default
returns-in_default c = places_stuck c.loop-k.invariant c.loop-k-test.true c.in_default.ensures

pub set_place-requires : goal.set_place-requires
set_place-requires c =
    ((c.loop-k.invariant.size, c.requires.1.1, c.requires.1.2), omega (arith, c.loop-k-test.true, c.requires.2))

pub set_shown-requires : goal.set_shown-requires
set_shown-requires c = (
  (c.set_place.auto.t ∙ c.loop-k.invariant.size, c.requires.1.1, c.requires.1.2),
  omega
      (arith, c.loop-k-test.true, c.requires.2),
)

pub loop-k-preserved : goal.loop-k-preserved
loop-k-preserved c =
    places_next c.loop-k.invariant c.loop-k-test.true c.in-Some.ensures
    (c.set_shown.ensures ∙ ap (on_entity _ (word (shown _) _)) c.set_place.ensures)
    (c.set_shown.auto.t ∙ c.set_place.auto.t ∙ c.loop-k.invariant.size)

pub returns : goal.returns
returns c = places_past c.loop-k.invariant c.loop-k-test.false
