use Rattle.std.proofs.Common.{sym, ◌∙◌}
use Rattle.model.specs.Tables.Layout.{tables_of}
use Rattle.record_writer.specs.ChainLaws.{user_puts, user_room, user_room2}
use Rattle.tables_text.proofs.ToldLaws.{user_absent_lem}
use Rattle.lines.specs.AddsLaws.{adds_none}
use Rattle.record_writer.proofs.users.put_user.Goals as goal

pub present-requires : goal.present-requires
present-requires c = c.requires.0

pub returns-then-present-eq0 : goal.returns-then-present-eq0
returns-then-present-eq0 c =
    rw (user_absent_lem (tables_of c.args.tables.now) c.args.u.0 (sym c.present.ensures ∙ c.if-present-eq0.true))
    (adds_none c.args.out.now)

pub put_line-requires : goal.put_line-requires
put_line-requires c =
    user_room (tables_of c.args.tables.now) c.args.u.0 c.args.out.now
    (λ q. c.if-present-eq0.false (c.present.ensures ∙ q)) c.requires.1

pub put_user_lines-requires : goal.put_user_lines-requires
put_user_lines-requires c = (
  c.requires.0,
  user_room2 (tables_of c.args.tables.now) c.args.u.0 c.args.out.now
      (λ q. c.if-present-eq0.false (c.present.ensures ∙ q)) c.requires.1 c.put_line.ensures,
)

pub returns : goal.returns
returns c =
    user_puts (tables_of c.args.tables.now) c.args.u.0 c.args.out.now
    (λ q. c.if-present-eq0.false (c.present.ensures ∙ q)) c.requires.1 c.put_line.ensures c.put_user_lines.ensures
