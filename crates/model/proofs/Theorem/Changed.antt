-- What a request may change at all (rule 8.4), of the desk's own answer and tables: an accepted one the words of its row, and none of
-- them whether a user is there or what is a device.
use Rattle.std.specs.Prelude.{◌↔◌, ◌≡◌, refl, ℕ}
use Rattle.std.proofs.Math.Option.{some}
use Rattle.std.proofs.Common.{◌∙◌, subst, sym}
use Rattle.model.specs.Effect.Notice.{notice}
use Rattle.model.specs.Request.After.{after, effect, noticed_op}
use Rattle.model.proofs.Request.AfterLaws.{after_accepted, after_each, effect_by}
use Rattle.model.specs.Request.Allowed.{Allowed}
use Rattle.model.specs.Request.Asked.{asked}
use Rattle.model.specs.Request.Ladder.{answer}
use Rattle.model.proofs.Request.OperationLaws.{names_found}
use Rattle.model.specs.Request.Operations.{Op, op_of, row_of}
use Rattle.model.specs.Request.Words.{Request}
use Rattle.model.specs.State.WellFormed.{WellFormed}
use Rattle.model.specs.Tables.Words.{Tables, device_kind, kinds, present}
use Rattle.model.proofs.Theorem.Acceptance.{accepted}
use Rattle.model.proofs.Theorem.Fixed.{devices_fixed, users_fixed}
use Rattle.model.proofs.Theorem.Framed.{framed}
use Rattle.model.specs.Theorem.MayChange.{Frame}
use Rattle.model.specs.Request.Refusals as refusal

-- Every word outside the row of the operation that is named is as before.
pub accepted_framed : (d : Tables) → WellFormed d → (q : Request) → answer d q ≡ refusal.accepted
    → (o : Op) × (op_of q.operation ≡ some o) × Frame o (asked d q) d (after d q)
accepted_framed d w q e =
    let a = accepted d q e w in (
      a.0,
      names_found q a.0 a.1.meant.named,
      subst (Frame a.0 (asked d q) d) (sym (after_accepted d q e ∙ effect_by d q a.0 (names_found q a.0 a.1.meant.named)))
          (framed a.0 d w (asked d q) a.1.allowed),
    )

-- What holds of each allowed effect, of each notice and of the tables before holds of the tables after.
after_has : (d : Tables) → WellFormed d → (q : Request) (P : Tables → Type 0)
    → ((o : Op) → Allowed o (asked d q) d → P ((row_of o).effect (asked d q) d))
    → ((n : ℕ) → P (notice q.user n (noticed_op q) d)) → P d → P (after d q)
after_has d w q P effects notices none = after_each d q P settled (λ l h. none) (λ h. notices (answer d q))
  where
    settled : answer d q ≡ refusal.accepted → P (effect d q)
    settled e =
        let a = accepted d q e w in
        subst P (sym (effect_by d q a.0 (names_found q a.0 a.1.meant.named))) (effects a.0 a.1.allowed)

-- No request, accepted or refused, makes a user present or absent.
pub users_stay : (d : Tables) → WellFormed d → (q : Request) (u : ℕ) → (after d q).user u present ≡ d.user u present
users_stay d w q u = after_has d w q (λ d'. d'.user u present ≡ d.user u present) (λ o h. users_fixed o d w (asked d q) h u) (λ n. refl) refl

-- None makes a device, or takes one away.
pub devices_stay : (d : Tables) → WellFormed d → (q : Request) (x : ℕ) → (kinds (after d q) x ≡ device_kind) ↔ (kinds d x ≡ device_kind)
devices_stay d w q x = after_has d w q (λ d'. (kinds d' x ≡ device_kind) ↔ (kinds d x ≡ device_kind))
    (λ o h. devices_fixed o d w (asked d q) h x) (λ n. (λ z. z, λ z. z)) (λ z. z, λ z. z)
