use Rattle.std.proofs.Common.{ap, ℕ, ◌∙◌}
use Rattle.mms.proofs.check.Goals as goal

pub returns : goal.returns
returns c = c.into.ensures ∙ ap (λ (n : ℕ). record { no = n; number = 0 }) c.checked.ensures
