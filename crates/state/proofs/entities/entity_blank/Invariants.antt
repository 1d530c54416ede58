use Rattle.std.proofs.Common.{eqb, ◌≡◌}
use Rattle.model.specs.Tables.Layout.{tables_of}
use Rattle.model.specs.Basics.Tests.{every}
use Rattle.model.specs.Tables.WordAt.{entity_word_at}
use Rattle.state.proofs.entities.entity_blank.Given as goal

abbrev pub invariant-loop-f : goal.invariant-loop-f
invariant-loop-f l = l.blank ≡ every l.f (λ i. eqb ((tables_of l.t).entity l.e.0 (entity_word_at i)) 0)
