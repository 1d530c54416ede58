use Rattle.record_reader.specs.RowLaws.{place_no_end, place_no_entity, place_no_key, place_no_sum, place_read}
use Rattle.record_reader.proofs.rows.place_line.Goals as goal

pub returns-in_err-i : goal.returns-in_err-i
returns-in_err-i c = rw c.from_residual.ensures (place_no_key c.in_err-i.ensures)

pub returns-in_err-entity : goal.returns-in_err-entity
returns-in_err-entity c = rw c.from_residual-in_err-entity.ensures (place_no_entity c.in_ok-i.ensures c.in_err-entity.ensures)

pub returns-in_err-sum : goal.returns-in_err-sum
returns-in_err-sum c =
    rw c.from_residual-in_err-sum.ensures (place_no_sum c.in_ok-i.ensures c.in_ok-entity.ensures c.in_err-sum.ensures)

pub returns-in_err-next : goal.returns-in_err-next
returns-in_err-next c =
    rw c.from_residual-in_err-next.ensures (place_no_end c.in_ok-i.ensures c.in_ok-entity.ensures c.in_ok-sum.ensures c.in_err-next.ensures)

pub returns : goal.returns
returns c = place_read c.in_ok-i.ensures c.in_ok-entity.ensures c.in_ok-sum.ensures c.in_ok-next.ensures
