use Rattle.std.specs.Prelude.{refl}
use Rattle.std.proofs.Common.{inl, inr}
use Rattle.ladder.specs.ShapeLaws.{none_made, one_made, two_made}
use Rattle.model.specs.Request.Conditions.{free}
use Rattle.model.specs.Request.Ladder.{fits, length_fits, range_at}
use Rattle.model.specs.Request.Operations.{to_acknowledge, to_clear, to_clearance, to_create, to_current, to_delete, to_edit, to_grant, to_level, to_mark}
use Rattle.model.specs.Request.Operations.{to_move, to_show}
use Rattle.ladder.proofs.form.fits.Goals as goal

pub returns-in-Create : goal.returns-in-Create
unfolding range_at
returns-in-Create c =
    rw c.in-Create.is (one_made to_create _ c.a.ensures c.b.ensures c.c.ensures
    c.is_sort.ensures c.is_level.ensures c.is_unused.ensures refl c.takes_one.ensures)

pub returns-in-Delete : goal.returns-in-Delete
unfolding fits length_fits range_at
returns-in-Delete c =
    let h = one_made to_delete _ c.a-in-Delete.ensures c.b-in-Delete.ensures c.c-in-Delete.ensures
    c.is_unused-in-Delete.ensures c.is_unused-in-Delete-2.ensures c.is_unused-in-Delete-3.ensures refl c.takes_one-in-Delete.ensures in
    elim c.in-Delete.is [ inl e ↦ rw e h | inr z ↦ elim z [ inl e ↦ rw e h | inr e ↦ rw e h ] ]

pub returns-in-Move : goal.returns-in-Move
unfolding fits length_fits range_at
returns-in-Move c =
    let h = two_made to_move _ c.a-in-Move.ensures c.b-in-Move.ensures c.c-in-Move.ensures
    c.is_unused-in-Move.ensures c.is_unused-in-Move-2.ensures c.is_unused-in-Move-3.ensures refl c.takes_two.ensures in
    elim c.in-Move.is [ inl e ↦ rw e h | inr e ↦ rw e h ]

pub returns-in-Edit : goal.returns-in-Edit
unfolding range_at free
returns-in-Edit c =
    rw c.in-Edit.is (one_made to_edit _ refl c.b-in-Edit.ensures c.c-in-Edit.ensures
    refl c.is_unused-in-Edit.ensures c.is_unused-in-Edit-2.ensures refl c.takes_one-in-Edit.ensures)

pub returns-in-SetLevel : goal.returns-in-SetLevel
unfolding fits length_fits range_at
returns-in-SetLevel c =
    let h = one_made to_level _ c.a-in-SetLevel.ensures c.b-in-SetLevel.ensures c.c-in-SetLevel.ensures
    c.is_level-in-SetLevel.ensures c.is_unused-in-SetLevel.ensures c.is_unused-in-SetLevel-2.ensures refl c.takes_one-in-SetLevel.ensures in
    elim c.in-SetLevel.is [ inl e ↦ rw e h | inr z ↦ elim z [ inl e ↦ rw e h | inr e ↦ rw e h ] ]

pub returns-in-SetMark : goal.returns-in-SetMark
unfolding range_at
returns-in-SetMark c =
    rw c.in-SetMark.is (one_made to_mark _ c.a-in-SetMark.ensures c.b-in-SetMark.ensures c.c-in-SetMark.ensures
    c.is_flag.ensures c.is_unused-in-SetMark.ensures c.is_unused-in-SetMark-2.ensures refl c.takes_one-in-SetMark.ensures)

pub returns-in-Grant : goal.returns-in-Grant
unfolding fits length_fits range_at
returns-in-Grant c =
    let h = one_made to_grant _ c.a-in-Grant.ensures c.b-in-Grant.ensures c.c-in-Grant.ensures
    c.is_who.ensures c.is_operation.ensures c.is_position.ensures refl c.takes_one-in-Grant.ensures in
    elim c.in-Grant.is [ inl e ↦ rw e h | inr e ↦ rw e h ]

pub returns-in-Show : goal.returns-in-Show
unfolding range_at
returns-in-Show c =
    rw c.in-Show.is (one_made to_show _ c.a-in-Show.ensures c.b-in-Show.ensures c.c-in-Show.ensures
    c.is_sum.ensures c.is_unused-in-Show.ensures c.is_unused-in-Show-2.ensures refl c.takes_one-in-Show.ensures)

pub returns-in-Clear : goal.returns-in-Clear
unfolding fits length_fits range_at
returns-in-Clear c =
    let h = none_made to_clear _ c.a-in-Clear.ensures c.b-in-Clear.ensures c.c-in-Clear.ensures
    c.is_unused-in-Clear.ensures c.is_unused-in-Clear-2.ensures c.is_unused-in-Clear-3.ensures refl c.takes_none.ensures in
    elim c.in-Clear.is [ inl e ↦ rw e h | inr e ↦ rw e h ]

pub returns-in-CurrentRoles : goal.returns-in-CurrentRoles
unfolding fits length_fits range_at
returns-in-CurrentRoles c =
    let h = none_made to_current _ c.a-in-CurrentRoles.ensures c.b-in-CurrentRoles.ensures c.c-in-CurrentRoles.ensures
    c.is_user.ensures c.are_roles.ensures c.is_unused-in-CurrentRoles.ensures refl c.takes_none-in-CurrentRoles.ensures in
    elim c.in-CurrentRoles.is [ inl e ↦ rw e h | inr e ↦ rw e h ]

pub returns-in-Clearance : goal.returns-in-Clearance
unfolding range_at
returns-in-Clearance c =
    rw c.in-Clearance.is (none_made to_clearance _ c.a-in-Clearance.ensures c.b-in-Clearance.ensures c.c-in-Clearance.ensures
    c.is_user-in-Clearance.ensures c.is_level-in-Clearance.ensures c.is_unused-in-Clearance.ensures refl c.takes_none-in-Clearance.ensures)

pub returns-in-Acknowledge : goal.returns-in-Acknowledge
unfolding range_at free
returns-in-Acknowledge c =
    rw c.in-Acknowledge.is (none_made to_acknowledge _ refl refl c.c-in-Acknowledge.ensures
    refl refl c.is_unused-in-Acknowledge.ensures refl c.takes_none-in-Acknowledge.ensures)
