use Rattle.std.proofs.Common.{ap, length, ◌∙◌}
use Rattle.std.proofs.lemmas.Result.{err_from_is_err_and}
use Rattle.tables_reader.specs.WholeLaws.{all_read, blank_length, entities_stuck, left_over, users_stuck}
use Rattle.tables_reader.proofs.fill.Goals as goal

pub read_users-requires : goal.read_users-requires
read_users-requires c = ap length c.requires ∙ blank_length

pub returns-in_err-i : goal.returns-in_err-i
returns-in_err-i c =
    let p = err_from_is_err_and c.from_residual.result c.from_residual.ensures.1 in
    rw (p.1, p.2) (users_stuck c.requires c.in_err-i.ensures)

pub read_entities-requires : goal.read_entities-requires
read_entities-requires c = (c.in_ok-i.ensures.within, c.read_users.auto.t ∙ ap length c.requires ∙ blank_length)

pub returns-in_err-j : goal.returns-in_err-j
returns-in_err-j c =
    let p = err_from_is_err_and c.from_residual-in_err-j.result c.from_residual-in_err-j.ensures.1 in
    rw (p.1, p.2) (entities_stuck c.requires c.in_ok-i.ensures c.in_err-j.ensures)

pub returns-then-j-s : goal.returns-then-j-s
returns-then-j-s c = left_over c.requires c.in_ok-i.ensures c.in_ok-j.ensures c.if-j-s.true

pub returns : goal.returns
returns c = all_read c.requires c.in_ok-i.ensures c.in_ok-j.ensures c.if-j-s.false
