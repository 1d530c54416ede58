use Rattle.std.proofs.Common.{ap, ℕ, ◌∙◌}
use Rattle.mms.proofs.run.Goals as goal

pub returns : goal.returns
returns c =
    let e = c.run.ensures in
    record { answer = c.into.ensures ∙ ap (λ (n : ℕ). record { no = n; number = 0 }) e.answer; tables = e.tables; answers = e.answers }
