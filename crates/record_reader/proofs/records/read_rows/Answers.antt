use Rattle.std.proofs.Common.{◌∙◌}
use Rattle.std.proofs.lemmas.Result.{err_from_is_err_and}
use Rattle.record_reader.specs.FieldLaws.{field_fits}
use Rattle.record_reader.specs.Rest.{access_rest}
use Rattle.record_reader.specs.StageLaws.{onward_past, onward_stuck, rows_next, rows_none, staged}
use Rattle.record_reader.proofs.records.read_rows.Goals as goal

pub returns-in_default : goal.returns-in_default
returns-in_default c = record { is = rows_none _ _ c.in_default.ensures; within = c.requires.0 }

pub read_places-requires : goal.read_places-requires
read_places-requires c = (
  c.in-Some.ensures.within,
  (c.set_used.auto.t ∙ c.requires.1.0, c.requires.1.1, c.requires.1.2),
  field_fits c.in-Some.ensures,
)

pub read_access-requires : goal.read_access-requires
read_access-requires c = (
  c.in_ok-i.ensures.within,
  (c.read_places.auto.t ∙ c.set_used.auto.t ∙ c.requires.1.0, c.requires.1.1, c.requires.1.2),
)

pub returns-in_err-i : goal.returns-in_err-i
returns-in_err-i c =
    let p = err_from_is_err_and c.from_residual.result c.from_residual.ensures.1 in
    rw (p.1, p.2) (staged (rows_next _ _ _ c.in-Some.ensures c.set_used.ensures) (onward_stuck (access_rest c.args.e.0) c.in_err-i.ensures))

pub returns : goal.returns
returns c =
    staged (rows_next _ _ _ c.in-Some.ensures c.set_used.ensures ∙ onward_past (access_rest c.args.e.0) c.in_ok-i.ensures)
    c.read_access.ensures
