use Rattle.std.proofs.Common.{length, ◌≡◌, ◌^◌}
use Rattle.state.specs.Holders.{entity_numbers}
use Rattle.state.specs.Jumps.{Climbed}
use Rattle.state.proofs.tree.all_end.Given as goal

abbrev pub invariant-loop-round : goal.invariant-loop-round
invariant-loop-round l = Climbed l.h (4 ^ l._round) l.b × (length l.a ≡ entity_numbers)
