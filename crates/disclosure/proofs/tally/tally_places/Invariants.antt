use Rattle.std.proofs.Common.{length, min, ◌≡◌, ◌≤◌}
use Rattle.verdicts.specs.Verdicts.{leads}
use Rattle.disclosure.specs.Visited.{inside}
use Rattle.model.specs.Tables.Words.{place_count}
use Rattle.disclosure.proofs.tally.tally_places.Given as goal

abbrev pub invariant-loop-p : goal.invariant-loop-p
invariant-loop-p l = (l.p ≤ place_count) × (l.s ≡ length (inside l.t l.v l.k l.e.0 (min l.p (leads l.v l.e.0))))
