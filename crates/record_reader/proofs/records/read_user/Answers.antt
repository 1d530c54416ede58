use Rattle.std.proofs.Common.{arith, refl, ◌∙◌}
use Rattle.record_reader.specs.RecordLaws.{user_next, user_past, user_stuck}
use Rattle.record_reader.specs.StageLaws.{staged, user_record_lem}
use Rattle.record_reader.proofs.records.read_user.Goals as goal

pub set_word_at-requires : goal.set_word_at-requires
set_word_at-requires c = (c.requires.1, omega arith)

pub loop-j-init : goal.loop-j-init
loop-j-init c =
    record {
      is = refl;
      within = c.requires.0;
      from = omega arith;
      most = omega arith;
      size = c.set_word_at.auto.t ∙ c.requires.1.0;
    }

pub user_line-requires : goal.user_line-requires
user_line-requires c = (c.loop-j.invariant.within, c.loop-j.invariant.from, c.loop-j-test.true)

pub returns-in_default : goal.returns-in_default
returns-in_default c =
    staged (user_record_lem _ _ _ _ c.set_word_at.ensures) (user_stuck c.loop-j.invariant c.loop-j-test.true c.in_default.ensures)

pub set_word_at-requires-in-loop-j : goal.set_word_at-requires-in-loop-j
set_word_at-requires-in-loop-j c =
    ((c.loop-j.invariant.size, c.requires.1.1, c.requires.1.2), omega (arith, c.loop-j-test.true))

pub loop-j-preserved : goal.loop-j-preserved
loop-j-preserved c =
    user_next c.loop-j.invariant c.loop-j-test.true c.in-Some.ensures c.set_word_at-in-loop-j.ensures
    (c.set_word_at-in-loop-j.auto.t ∙ c.loop-j.invariant.size)

pub returns : goal.returns
returns c = staged (user_record_lem _ _ _ _ c.set_word_at.ensures) (user_past c.loop-j.invariant c.loop-j-test.false)
