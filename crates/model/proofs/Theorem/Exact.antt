-- A request is accepted exactly where it is meant, permitted, cleared and allowed; and by one operation only.
use Rattle.std.specs.Prelude.{not, ◌≡◌, ℕ, T, eqb}
use Rattle.std.proofs.Common.{◌∙◌, sym}
use Rattle.model.specs.Basics.Agree.{Agrees, agrees_as, agrees_eq}
use Rattle.model.specs.Request.Allowed.{Accepted}
use Rattle.model.specs.Request.Asked.{asked}
use Rattle.model.specs.Request.Ladder.{answer, ladder, own_rung}
use Rattle.model.specs.Request.LadderLaws.{lowest_none}
use Rattle.model.proofs.Request.OperationLaws.{names_found, number_injective}
use Rattle.model.specs.Request.Operations.{Op}
use Rattle.model.proofs.Request.RungLaws.{leads_nowhere_fails, no_access_fails, not_cleared_fails, not_logged_on_fails, not_secure_fails}
use Rattle.model.proofs.Request.RungLaws.{not_understood_fails, not_well_formed_fails, own_rung_fails, unknown_user_fails, wrong_kind_fails}
use Rattle.model.specs.Request.Words.{Request}
use Rattle.model.specs.State.Agree.{well_formed_bounded}
use Rattle.model.specs.State.Secure.{Good}
use Rattle.model.specs.Tables.Words.{Tables}
use Rattle.model.proofs.Theorem.Acceptance.{accepted}
use Rattle.model.proofs.Theorem.Unrefused.{allowed_unrefused}
use Rattle.model.specs.Request.Refusals as refusal

-- What is accepted has the answer 0: no rung of the ladder applies (rules 7.2 to 7.16).
pub accepted_answer : (d : Tables) → Good d → (q : Request) (o : Op) → Accepted o d q → answer d q ≡ refusal.accepted
unfolding answer ladder
accepted_answer d g q o h =
    let n = names_found q o h.meant.named in
    let u = allowed_unrefused o d g.0 (asked d q) h.allowed in
    let no2 = (not_well_formed_fails d q (well_formed_bounded d g.0)).from g.0 in
    let no3 = (not_secure_fails d q g.0).from g.1 in
    let no4 = (unknown_user_fails d q).from h.meant.known in
    let no5 = (not_understood_fails d q).from (o, n, h.meant.fitting) in
    let no6 = (not_logged_on_fails d q o n).from h.on in
    let no7 = (leads_nowhere_fails d q o n).from h.meant.leading in
    let no8 = (no_access_fails d q o n).from h.permitted in
    let no9 = (not_cleared_fails d q o n).from h.cleared in
    let no10 = (wrong_kind_fails d q o n).from u.kinds in
    let own : (k : ℕ) → T (not (own_rung k d q)) = λ k. (own_rung_fails d q o n k).from (u.own k) in
    lowest_none refusal.not_well_formed ladder d q (search depth 20)

-- The answer is 0 exactly where some operation is accepted (rule 7.0).
pub answer_exact : (d : Tables) → Good d → (q : Request) → Agrees (eqb (answer d q) refusal.accepted) ((o : Op) × Accepted o d q)
answer_exact d g q = agrees_as (λ e. accepted d q e g.0) (λ z. accepted_answer d g q z.0 z.1) (agrees_eq (answer d q) refusal.accepted)

-- A request is accepted by one operation at most, the one that it names (rule 6).
pub operation_unique : (d : Tables) (q : Request) (o p : Op) → Accepted o d q → Accepted p d q → o ≡ p
operation_unique d q o p h k = number_injective o p (sym h.meant.named ∙ k.meant.named)
