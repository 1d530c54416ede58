use Rattle.std.proofs.Common.{refl}
use Rattle.script.specs.GoingLaws.{halts_stop, halts_wait}
use Rattle.script.proofs.runs.halt.Goals as goal

pub reported-requires : goal.reported-requires
reported-requires c = c.requires.1

pub returns-then-last : goal.returns-then-last
returns-then-last c = halts_stop (rw c.if-last.true refl) c.reported.ensures

pub is_unfinished-requires : goal.is_unfinished-requires
is_unfinished-requires c = c.requires.0

pub returns-then-is_unfinished : goal.returns-then-is_unfinished
returns-then-is_unfinished c = halts_wait (rw (c.if-last.false, ← c.is_unfinished.ensures, c.if-is_unfinished.true) refl)

pub reported-requires-2 : goal.reported-requires-2
reported-requires-2 c = c.requires.1

pub returns : goal.returns
returns c =
    halts_stop (rw (c.if-last.false, ← c.is_unfinished.ensures, c.if-is_unfinished.false) refl) c.reported-2.ensures
