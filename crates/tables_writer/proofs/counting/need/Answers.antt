use Rattle.std.proofs.Common.{arith}
use Rattle.model.specs.Tables.Layout.{tables_of}
use Rattle.model.specs.Tables.Words.{entity_count, user_count}
use Rattle.tables_text.proofs.LongestLaws.{text_length}
use Rattle.tables_text.proofs.LongestLineLaws.{series_length}
use Rattle.tables_text.specs.TextOf.{entity_text, user_text}
use Rattle.tables_writer.specs.LengthLaws.{entities_most, users_most}
use Rattle.tables_writer.proofs.counting.need.Goals as goal

pub overflow_add-result : goal.overflow_add-result
overflow_add-result c =
    omega (
      arith,
      c.users_len.ensures,
      c.entities_len.ensures,
      users_most (tables_of c.args.tables.now) user_count,
      entities_most (tables_of c.args.tables.now) entity_count c.requires.room,
    )

pub returns : goal.returns
returns c =
    let d = tables_of c.args.tables.now in
    omega (
      arith,
      c.users_len.ensures,
      c.entities_len.ensures,
      text_length d,
      series_length user_count 1 (user_text d),
      series_length entity_count 1 (entity_text d),
    )
