use Rattle.std.proofs.Common.{length, ◌≤◌}
use Rattle.request_reader.specs.NamesAtLaws.{NamesTo}
use Rattle.request_reader.proofs.first_names.Given as goal

abbrev pub invariant-loop-k : goal.invariant-loop-k
invariant-loop-k l = record {
  within : l.i ≤ length l.s;
  so_far : NamesTo l.s l.at l.initial.out l.out l.i l.k;
}
