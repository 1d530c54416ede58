use Rattle.std.proofs.Common.{arith, length, ◌≤◌}
use Rattle.std.proofs.lemmas.Result.{err_from_is_err_and}
use Rattle.tables_text.specs.Calls.{text_of_tables}
use Rattle.tables_text.proofs.LongestCallLaws.{formed_longest}
use Rattle.tables_writer.specs.EndLaws.{Formed, end_refused, end_short, end_written, formed, writable}
use Rattle.tables_writer.proofs.write_tables.Goals.{In_ok-formed, Joined-room-lt-TABLES_TEXT_MOST, else-room-lt-TABLES_TEXT_MOST}
use Rattle.tables_writer.proofs.write_tables.Goals.{then-room-lt-TABLES_TEXT_MOST+else-room-n}
use Rattle.tables_writer.proofs.write_tables.Goals as goal

pub returns-in_err-formed : goal.returns-in_err-formed
returns-in_err-formed c =
    let p = err_from_is_err_and c.from_residual.result c.from_residual.ensures.1 in
    rw (p.1, p.2) (end_refused _ _ _ c.in_err-formed.ensures)

-- where the words were looked at: they are well-formed tables
good : (c : In_ok-formed) → Formed c.args.tables.now
good c = formed _ c.in_ok-formed.ensures

pub need-n-requires : goal.need-n-requires
need-n-requires c = writable _ (good (goal.at.need-n-requires c).In_ok-formed)

pub overflow_cast-result : goal.overflow_cast-result
overflow_cast-result c = omega (arith, c.need-n.ensures, formed_longest _ (good (goal.at.overflow_cast-result c).In_ok-formed).1)

pub returns-then-room-n : goal.returns-then-room-n
returns-then-room-n c = end_short _ (good (goal.at.returns-then-room-n c).In_ok-formed) _ c.need-n.ensures c.if-room-n.true

-- where the room was looked at: it is enough
enough : (c : Joined-room-lt-TABLES_TEXT_MOST) → Formed c.args.tables.now → length (text_of_tables c.args.tables.now) ≤ length c.args.room.now
enough c f =
    elim c.if-room-lt-TABLES_TEXT_MOST.branch [
      | then-room-lt-TABLES_TEXT_MOST+else-room-n w ↦ omega (arith, w.need-n.ensures, w.if-room-n.false)
      | else-room-lt-TABLES_TEXT_MOST w ↦ omega (arith, w.if-room-lt-TABLES_TEXT_MOST.false, formed_longest _ f.1)
    ]

pub write_text-n-requires : goal.write_text-n-requires
write_text-n-requires c =
    let f = good (goal.at.write_text-n-requires c).In_ok-formed in
    (writable _ f, enough (goal.at.write_text-n-requires c).Joined-room-lt-TABLES_TEXT_MOST f)

pub overflow_cast-result-2 : goal.overflow_cast-result-2
overflow_cast-result-2 c = omega (arith, c.write_text-n.ensures.many, formed_longest _ (good (goal.at.overflow_cast-result-2 c).In_ok-formed).1)

pub returns : goal.returns
returns c =
    let f = good (goal.at.returns c).In_ok-formed in
    end_written _ f _ (enough (goal.at.returns c).Joined-room-lt-TABLES_TEXT_MOST f) c.write_text-n.ensures
