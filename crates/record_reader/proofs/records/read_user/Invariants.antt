use Rattle.std.proofs.Common.{drop}
use Rattle.model.specs.Tables.Layout.{tables_of}
use Rattle.record_reader.specs.RecordLaws.{UserTo}
use Rattle.tables_text.specs.Keys.{user_fields}
use Rattle.tables_text.specs.Stages.{user_stage}
use Rattle.record_reader.proofs.records.read_user.Given as goal

abbrev pub invariant-loop-j : goal.invariant-loop-j
invariant-loop-j l = UserTo (user_stage l.u.0 user_fields 1 (tables_of l.initial.t) (drop l.at l.s)) l.u.0 l.s l.i l.j l.t
