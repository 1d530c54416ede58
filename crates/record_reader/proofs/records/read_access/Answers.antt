use Rattle.record_reader.specs.FieldLaws.{field_fits}
use Rattle.record_reader.specs.StageLaws.{access_next, access_none, staged}
use Rattle.record_reader.proofs.records.read_access.Goals as goal

pub returns-in_default : goal.returns-in_default
returns-in_default c = record { is = access_none _ _ c.in_default.ensures; within = c.requires.0 }

pub read_triples-requires : goal.read_triples-requires
read_triples-requires c = (c.in-Some.ensures.within, c.requires.1, field_fits c.in-Some.ensures)

pub returns : goal.returns
returns c = staged (access_next _ _ c.in-Some.ensures) c.read_triples.ensures
