use Rattle.std.proofs.Common.{arith, rules}
use Rattle.model.specs.Tables.Layout.{tables_of}
use Rattle.op_places.specs.HolderLaws.{leave_none, leave_stores, place_in}
use Rattle.standing.specs.LookLaws.{holder_in}
use Rattle.op_places.proofs.filling.leave.Goals as goal

pub returns-then-h-eq0 : goal.returns-then-h-eq0
returns-then-h-eq0 c = leave_none _ c.requires.1 _ _ c.requires.2 c.if-h-eq0.true

pub used-n-requires : goal.used-n-requires
used-n-requires c =
    let r = holder_in _ c.requires.1 _ _ c.requires.2 c.if-h-eq0.false in
    search rules

pub place_of-requires : goal.place_of-requires
place_of-requires c =
    let r = holder_in _ c.requires.1 _ _ c.requires.2 c.if-h-eq0.false in
    (search rules, omega (arith, c.used-n.ensures, (c.requires.1.entities c.args.h.0).filled.packed.room))

pub close_places-requires : goal.close_places-requires
close_places-requires c =
    let r = holder_in _ c.requires.1 _ _ c.requires.2 c.if-h-eq0.false in (
      search rules,
      omega (
        arith,
        place_in _ c.requires.1 _ _ c.requires.2 c.if-h-eq0.false _ _ c.used-n.ensures
            c.place_of.ensures,
        c.used-n.ensures,
        (c.requires.1.entities c.args.h.0).filled.packed.room,
      ),
    )

pub overflow_sub-n : goal.overflow_sub-n
overflow_sub-n c =
    omega (arith, place_in _ c.requires.1 _ _ c.requires.2 c.if-h-eq0.false _ _ c.used-n.ensures c.place_of.ensures)

pub set_used-requires : goal.set_used-requires
set_used-requires c =
    let r = holder_in _ c.requires.1 _ _ c.requires.2 c.if-h-eq0.false in
    search rules

pub returns : goal.returns
returns c =
    leave_stores (tables_of c.args.t.now) c.requires.1 _ _ c.requires.2 c.if-h-eq0.false _ _ c.used-n.ensures c.place_of.ensures _ _
    c.close_places.ensures c.set_used.ensures
