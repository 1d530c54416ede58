use Rattle.std.proofs.Common.{true, ◌≡◌}
use Rattle.model.specs.Basics.Tests.{every}
use Rattle.model.specs.Tables.Layout.{tables_of}
use Rattle.secure.specs.Secured.{place_secure}
use Rattle.secure.proofs.places_secure.Given as goal

abbrev pub invariant-loop-i : goal.invariant-loop-i
invariant-loop-i l = every l.i (place_secure (tables_of l.t) l.e.0) ≡ true
