use Rattle.std.proofs.Common.{arith}
use Rattle.model.specs.Tables.Layout.{tables_of}
use Rattle.model.specs.Tables.LayoutLaws.{bounded}
use Rattle.rows.specs.CloseLaws.{closing_end, closing_none, closing_step}
use Rattle.rows.specs.NameLaws.{row_name, row_out}
use Rattle.rows.proofs.close_row.Goals as goal

pub loop-i-init : goal.loop-i-init
loop-i-init c = let a = c.args in closing_none _ (row_name a.r) a.e.0 a.k (tables_of a.t.now)

pub loop-i-preserved : goal.loop-i-preserved
loop-i-preserved c =
    closing_step _ (row_name c.args.r) _ _ (tables_of c.args.t.now) _ _ _ _ c.loop-i.auto.i
    c.loop-i.invariant c.row_word-x.ensures c.set_row_word.ensures

pub returns : goal.returns
returns c =
    let a = c.args in
    closing_end _ (row_name a.r) a.e.0 _ (tables_of a.t.now) (row_out a.r _ (bounded _) _) c.requires.1 c.loop-i.i _ _
    (omega arith) c.loop-i.invariant c.set_row_word-2.ensures
