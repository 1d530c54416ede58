use Rattle.std.proofs.Common.{ap, arith, eqb, sym, ℕ, ◌∙◌}
use Rattle.model.specs.Tables.LayoutLaws.{bounded}
use Rattle.model.specs.Tables.Words.{device_kind}
use Rattle.state.specs.ObjectLaws.{own_object}
use Rattle.state.specs.OwnLaws.{own_count, own_places, own_quiet, own_room, own_shape, own_shown, own_unlike}
use Rattle.state.proofs.entities.holding_fine.Goals as goal

pub returns-then-k-eq-OBJECT : goal.returns-then-k-eq-OBJECT
returns-then-k-eq-OBJECT c = c.object_fine.ensures ∙ own_object _ (bounded _) _ (sym c.requires.1 ∙ c.if-k-eq-OBJECT.true)

pub returns-then-not-words_fine : goal.returns-then-not-words_fine
returns-then-not-words_fine c = own_shape _ (bounded _) _ _ c.requires.1 _ c.words_fine.ensures c.if-not-words_fine.true

pub returns-then-not-used_fine : goal.returns-then-not-used_fine
returns-then-not-used_fine c =
    own_count _ (bounded _) _ _ c.requires.1 _ c.words_fine.ensures c.if-not-words_fine.false _
    c.used-n.ensures _ c.used_fine.ensures c.if-not-used_fine.true

pub places_fine-requires : goal.places_fine-requires
places_fine-requires c =
    (c.requires.0, (c.used-n.ensures, c.is_screen-shows.ensures ∙ ap (λ (k : ℕ). eqb k device_kind) c.requires.1))

pub returns-then-not-places_fine : goal.returns-then-not-places_fine
returns-then-not-places_fine c =
    own_places _ (bounded _) _ _ c.requires.1 _ c.words_fine.ensures c.if-not-words_fine.false _ c.used-n.ensures _
    c.used_fine.ensures c.if-not-used_fine.false _ c.places_fine.ensures c.if-not-places_fine.true

pub places_new-requires : goal.places_new-requires
places_new-requires c = (
  c.requires.0,
  own_room _ (bounded _) _ _ c.requires.1 _ c.words_fine.ensures c.if-not-words_fine.false _ c.used-n.ensures _
      c.used_fine.ensures c.if-not-used_fine.false,
  c.used-n.ensures,
  sym c.places_fine.ensures ∙
      c.if-not-places_fine.false,
)

pub returns-then-not-places_new : goal.returns-then-not-places_new
returns-then-not-places_new c =
    own_unlike _ (bounded _) _ _ c.requires.1 _ c.words_fine.ensures c.if-not-words_fine.false _ c.used-n.ensures _
    c.used_fine.ensures c.if-not-used_fine.false _ c.places_fine.ensures
    c.if-not-places_fine.false _ c.places_new.ensures c.if-not-places_new.true

pub returns-then-shows-n : goal.returns-then-shows-n
returns-then-shows-n c =
    own_quiet _ (bounded _) _ _ c.requires.1 _ c.words_fine.ensures c.if-not-words_fine.false _ c.used-n.ensures _
    c.used_fine.ensures c.if-not-used_fine.false _ c.places_fine.ensures c.if-not-places_fine.false _
    c.places_new.ensures c.if-not-places_new.false _ c.is_screen-shows.ensures c.if-shows-n.true

pub nobody_on-requires : goal.nobody_on-requires
nobody_on-requires c =
    (c.requires.0.0, omega arith)

pub returns : goal.returns
returns c =
    own_shown _ (bounded _) _ _ c.requires.1 _ c.words_fine.ensures c.if-not-words_fine.false _ c.used-n.ensures _
    c.used_fine.ensures c.if-not-used_fine.false _ c.places_fine.ensures c.if-not-places_fine.false _
    c.places_new.ensures c.if-not-places_new.false _ c.is_screen-shows.ensures c.if-shows-n.false _
    c.nobody_on.ensures
