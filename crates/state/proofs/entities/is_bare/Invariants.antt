use Rattle.std.proofs.Common.{◌+◌, eqb, ◌≡◌}
use Rattle.model.specs.Tables.Layout.{offset, tables_of}
use Rattle.model.specs.Tables.WordAt.{entity_word_at}
use Rattle.model.specs.Tables.Words.{releaser}
use Rattle.model.specs.Basics.Tests.{every}
use Rattle.state.proofs.entities.is_bare.Given as goal

abbrev pub invariant-loop-f : goal.invariant-loop-f
invariant-loop-f l = l.blank ≡ every l.f (λ i. eqb ((tables_of l.t).entity l.e.0 (entity_word_at (offset releaser + i))) 0)
