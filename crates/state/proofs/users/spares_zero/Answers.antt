use Rattle.std.proofs.Common.{arith, sym, ◌∙◌}
use Rattle.model.specs.Tables.Layout.{tables_of}
use Rattle.laws.specs.Loops.{every_gather, every_gathered, every_none}
use Rattle.state.specs.UserLaws.{spare_zero_lem}
use Rattle.state.proofs.users.spares_zero.Goals as goal

pub loop-f-init : goal.loop-f-init
loop-f-init c = sym (every_none _)

pub loop-f-preserved : goal.loop-f-preserved
loop-f-preserved c = every_gather _ _ _ _ (c.word_zero-blank.ensures ∙ spare_zero_lem (tables_of c.args.t.now) c.args.u.0
    c.loop-f.f) c.loop-f.invariant

pub returns : goal.returns
returns c = every_gathered _ _ _ _ c.loop-f.invariant (omega arith) (omega arith)
