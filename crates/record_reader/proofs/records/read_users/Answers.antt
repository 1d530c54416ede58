use Rattle.std.proofs.Common.{arith, ◌∙◌}
use Rattle.std.proofs.lemmas.Result.{err_from_is_err_and}
use Rattle.model.specs.Tables.Words.{user_count}
use Rattle.record_reader.specs.NumberedLaws.{inside, records_next, records_none, records_out, records_past, records_stuck, users_are}
use Rattle.record_reader.proofs.records.read_users.Goals as goal

pub loop-last-init : goal.loop-last-init
loop-last-init c = record { is = users_are _ _ _ _; within = omega arith; most = omega arith; size = c.requires }

pub read_line-requires : goal.read_line-requires
read_line-requires c = c.loop-last.invariant.within

pub returns-in_default : goal.returns-in_default
returns-in_default c = records_none (omega arith) c.loop-last.invariant c.in_default.ensures

pub returns-then-v-last : goal.returns-then-v-last
returns-then-v-last c = records_out (omega arith) c.loop-last.invariant c.in-Some.ensures c.if-v-last.true

pub read_user-requires : goal.read_user-requires
read_user-requires c =
    let i = inside _ _ _ c.if-v-last.false in
    (c.in-Some.ensures.within, (c.loop-last.invariant.size, omega (arith, i.0), i.1))

pub returns-in_err-i : goal.returns-in_err-i
returns-in_err-i c =
    let i = inside _ _ _ c.if-v-last.false in
    let p = err_from_is_err_and c.from_residual.result c.from_residual.ensures.1 in
    rw (p.1, p.2) (records_stuck (omega arith) c.loop-last.invariant c.in-Some.ensures i.0 i.1 c.in_err-i.ensures)

pub loop-last-smaller : goal.loop-last-smaller
loop-last-smaller c =
    let i = inside c.loop-last.last user_count c.in-Some.field-0.v c.if-v-last.false in
    omega (arith, i.0, i.1)

pub loop-last-preserved : goal.loop-last-preserved
loop-last-preserved c =
    let i = inside _ _ _ c.if-v-last.false in
    records_next (omega arith) c.loop-last.invariant c.in-Some.ensures i.0 i.1 c.in_ok-i.ensures
    (c.read_user.auto.t ∙ c.loop-last.invariant.size)

pub returns : goal.returns
returns c = records_past (omega arith) c.loop-last.invariant c.loop-last-test.false
