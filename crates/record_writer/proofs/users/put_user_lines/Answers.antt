use Rattle.std.proofs.Common.{◌+◌, ◌-◌, arith, ◌≡◌}
use Rattle.model.specs.Tables.Layout.{tables_of}
use Rattle.record_writer.specs.SeriesLaws.{series_adds, series_room, series_start}
use Rattle.record_writer.specs.FieldAt.{user_field_count, user_line_at}
use Rattle.record_writer.specs.LineLaws.{user_fields_lem}
use Rattle.record_writer.proofs.users.put_user_lines.Goals as goal

pub loop-j-init : goal.loop-j-init
loop-j-init c = series_start 1 _ _

pub word_at-requires : goal.word_at-requires
word_at-requires c = (c.requires.0, omega arith)

pub put_user_line-requires : goal.put_user_line-requires
put_user_line-requires c = (
  omega arith,
  c.loop-j-test.true,
  rw c.word_at.ensures
      (series_room user_field_count (c.loop-j.j - 1) 1 (user_line_at (tables_of c.args.tables.now) c.args.u.0)
      (omega arith) (omega arith) (rw (user_fields_lem (tables_of c.args.tables.now) c.args.u.0) at c.requires.1)
      c.loop-j.invariant),
)

pub loop-j-preserved : goal.loop-j-preserved
loop-j-preserved c =
    let e : c.loop-j.j + 1 - 1 ≡ c.loop-j.j - 1 + 1 = omega arith in
    rw e (series_adds (c.loop-j.j - 1) 1 (user_line_at (tables_of c.args.tables.now) c.args.u.0)
    (omega arith) (omega (arith, c.requires.1)) c.loop-j.invariant (rw c.word_at.ensures at
    c.put_user_line.ensures))

pub returns : goal.returns
returns c =
    let e : c.loop-j.j - 1 ≡ user_field_count = omega arith in
    rw (user_fields_lem (tables_of c.args.tables.now) c.args.u.0) (rw e at c.loop-j.invariant)
