use Rattle.std.proofs.Common.{ap, not}
use Rattle.std.proofs.Common.{rules, ◌∙◌}
use Rattle.op_places.specs.CreateLaws.{create_above_lem, create_full, create_kind, create_room, create_unshown, created}
use Rattle.op_places.proofs.create.Goals as goal

pub returns-then-not-is_container : goal.returns-then-not-is_container
returns-then-not-is_container c =
    create_kind _ _ _ _ c.requires.0 c.requires.1 _ c.is_container.ensures (ap not c.if-not-is_container.true)

pub returns-then-not-at_most : goal.returns-then-not-at_most
returns-then-not-at_most c =
    create_above_lem _ _ _ _ c.requires.0 c.requires.1 _ c.is_container.ensures (ap not c.if-not-is_container.false) _ _ c.level.ensures
    (c.at_most.ensures ∙ rw c.b.ensures) (ap not c.if-not-at_most.true)

pub returns-then-n-used : goal.returns-then-n-used
returns-then-n-used c =
    create_full _ _ _ _ c.requires.0 c.requires.1 _ c.is_container.ensures (ap not c.if-not-is_container.false) _ _ c.level.ensures
    (c.at_most.ensures ∙ rw c.b.ensures) (ap not c.if-not-at_most.false) _ _ c.vacant-n.ensures c.used.ensures c.if-n-used.true

pub put_last-requires : goal.put_last-requires
put_last-requires c = (
  search rules,
  create_room _ _ _ _ c.requires.0 c.requires.1 _ c.is_container.ensures (ap not c.if-not-is_container.false) _ _ c.level.ensures
      (c.at_most.ensures ∙ rw c.b.ensures) (ap not c.if-not-at_most.false) _ _ c.vacant-n.ensures c.used.ensures c.if-n-used.false _
      (c.bear.ensures ∙ rw (c.a.ensures, c.b.ensures)),
  create_unshown _ _ _ _ c.requires.0 c.requires.1 _
      c.is_container.ensures (ap not c.if-not-is_container.false) _ _ c.level.ensures (c.at_most.ensures ∙ rw c.b.ensures)
      (ap not c.if-not-at_most.false) _ _ c.vacant-n.ensures c.used.ensures c.if-n-used.false _
      (c.bear.ensures ∙ rw (c.a.ensures, c.b.ensures)),
)

pub returns : goal.returns
returns c =
    created _ _ _ _ c.requires.0 c.requires.1 _ c.is_container.ensures (ap not c.if-not-is_container.false) _ _ c.level.ensures
    (c.at_most.ensures ∙ rw c.b.ensures) (ap not c.if-not-at_most.false) _ _ c.vacant-n.ensures c.used.ensures c.if-n-used.false _ _
    (c.bear.ensures ∙ rw (c.a.ensures, c.b.ensures)) c.put_last.ensures
