use Rattle.std.proofs.Common.{sym, ◌∙◌}
use Rattle.record_reader.specs.RowLaws.{parts_at, small, triple_large, triple_no_end, triple_no_key, triple_no_operation, triple_no_position}
use Rattle.record_reader.specs.RowLaws.{triple_no_who, triple_read, triple_zero}
use Rattle.record_reader.proofs.rows.triple_line.Goals as goal

pub returns-in_err-i : goal.returns-in_err-i
returns-in_err-i c = rw c.from_residual.ensures (triple_no_key c.in_err-i.ensures)

pub returns-in_err-who : goal.returns-in_err-who
returns-in_err-who c = rw c.from_residual-in_err-who.ensures (triple_no_who c.in_ok-i.ensures c.in_err-who.ensures)

pub returns-in_err-op : goal.returns-in_err-op
returns-in_err-op c =
    rw c.from_residual-in_err-op.ensures (triple_no_operation c.in_ok-i.ensures c.in_ok-who.ensures c.in_err-op.ensures)

pub returns-in_err-position : goal.returns-in_err-position
returns-in_err-position c =
    rw c.from_residual-in_err-position.ensures
    (triple_no_position c.in_ok-i.ensures c.in_ok-who.ensures c.in_ok-op.ensures c.in_err-position.ensures)

pub returns-then-who-op : goal.returns-then-who-op
returns-then-who-op c =
    triple_large (parts_at c.in_ok-i.ensures c.in_ok-who.ensures c.in_ok-op.ensures c.in_ok-position.ensures) c.if-who-op.true

pub packed-v-requires : goal.packed-v-requires
packed-v-requires c = small _ _ _ c.if-who-op.false

pub returns-then-v-eq0 : goal.returns-then-v-eq0
returns-then-v-eq0 c =
    triple_zero (parts_at c.in_ok-i.ensures c.in_ok-who.ensures c.in_ok-op.ensures c.in_ok-position.ensures) c.if-who-op.false
    (sym c.packed-v.ensures ∙ c.if-v-eq0.true)

pub returns-in_err-next : goal.returns-in_err-next
returns-in_err-next c =
    let p = parts_at c.in_ok-i.ensures c.in_ok-who.ensures c.in_ok-op.ensures c.in_ok-position.ensures in
    rw c.from_residual-in_err-next.ensures
    (triple_no_end p c.if-who-op.false (λ q. c.if-v-eq0.false (c.packed-v.ensures ∙ q)) c.in_err-next.ensures)

pub returns : goal.returns
returns c =
    let p = parts_at c.in_ok-i.ensures c.in_ok-who.ensures c.in_ok-op.ensures c.in_ok-position.ensures in
    triple_read p c.if-who-op.false (λ q. c.if-v-eq0.false (c.packed-v.ensures ∙ q)) c.packed-v.ensures c.in_ok-next.ensures
