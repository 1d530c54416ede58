use Rattle.std.proofs.Common.{◌∙◌}
use Rattle.std.proofs.lemmas.Result.{err_from_is_err_and}
use Rattle.record_reader.specs.StageLaws.{entity_record_lem, onward_past, onward_stuck, staged}
use Rattle.record_reader.proofs.records.read_entity.Goals as goal

pub read_singles-requires : goal.read_singles-requires
read_singles-requires c = c.requires

pub read_rows-requires : goal.read_rows-requires
read_rows-requires c = (
  c.in_ok-i.ensures.within,
  (c.read_singles.auto.t ∙ c.requires.1.0, c.requires.1.1, c.requires.1.2),
)

pub returns-in_err-i : goal.returns-in_err-i
returns-in_err-i c =
    let p = err_from_is_err_and c.from_residual.result c.from_residual.ensures.1 in
    rw (p.1, p.2) (staged (entity_record_lem _ _ _) (onward_stuck _ c.in_err-i.ensures))

pub returns : goal.returns
returns c = staged (entity_record_lem _ _ _ ∙ onward_past _ c.in_ok-i.ensures) c.read_rows.ensures
