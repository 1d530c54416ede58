use Rattle.std.proofs.Common.{◌-◌}
use Rattle.model.specs.Tables.Layout.{tables_of}
use Rattle.model.specs.Tables.Words.{user_count}
use Rattle.model.specs.Text.Wording.{user_key}
use Rattle.record_reader.specs.NumberedLaws.{RecordsTo}
use Rattle.tables_text.specs.Stages.{user_record, users_stage}
use Rattle.record_reader.proofs.records.read_users.Given as goal

abbrev pub invariant-loop-last : goal.invariant-loop-last
invariant-loop-last l = RecordsTo user_key user_record user_count (users_stage user_count 1 (tables_of l.initial.t) l.s) l.s l.i l.last l.t

abbrev pub decreases-loop-last : goal.decreases-loop-last
decreases-loop-last l = user_count - l.last
