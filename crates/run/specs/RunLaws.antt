-- The ends of a run: other sizes are refused, and else the requests are answered.
use Rattle.std.specs.Prelude.{List, ℕ}
use Rattle.std.proofs.Common.{◌∙◌, sym}
use Rattle.model.specs.Run.Run.{Sizes}
use Rattle.model.proofs.Run.RunLaws.{run_done_lem, run_other}
use Rattle.run.specs.Contract.{AnsweredAll, RunSettled}
use Rattle.model.specs.Request.Refusals as refusal

-- Rule 15.2
pub other_sizes : (t w room : List ℕ) → (Sizes t w room → ⊥) → RunSettled t w room refusal.bad_length t room
other_sizes t w room n = let z = run_other t w room n in record { answer = sym z.0; tables = sym z.1; answers = sym z.2 }

-- Rules 15.3 and 15.4
pub answered_ran : (t w room r s : List ℕ) → Sizes t w room → AnsweredAll t w room r s → RunSettled t w room refusal.accepted r s
answered_ran t w room r s h x =
    let z = run_done_lem t w room h in record { answer = sym z.0; tables = x.tables ∙ sym z.1; answers = x.answers ∙ sym z.2 }
