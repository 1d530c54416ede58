use Rattle.std.proofs.Common.{ap, not}
use Rattle.op_places.specs.DeleteLaws.{delete_forbidden_lem, delete_kind, deleted}
use Rattle.op_places.proofs.delete.Goals as goal

pub returns-then-not-is_entity : goal.returns-then-not-is_entity
returns-then-not-is_entity c =
    delete_kind _ _ _ _ c.requires.0 c.requires.1 _ c.is_entity.ensures (ap not c.if-not-is_entity.true)

pub returns-then-used-on_screen : goal.returns-then-used-on_screen
returns-then-used-on_screen c =
    delete_forbidden_lem _ _ _ _ c.requires.0 c.requires.1 _ c.is_entity.ensures (ap not c.if-not-is_entity.false) _ _ _ c.used.ensures
    c.on_screen.ensures c.type_of.ensures c.if-used-on_screen.true

pub returns : goal.returns
returns c =
    deleted _ _ _ _ c.requires.0 c.requires.1 _ c.is_entity.ensures (ap not c.if-not-is_entity.false) _ _ _ c.used.ensures c.on_screen.ensures
    c.type_of.ensures c.if-used-on_screen.false _ _ c.leave.ensures c.erase.ensures
