-- What Definitions 5 to 11 let pass (rule 9): a desk that does what was asked, and more. User 2 of case state S1 copies 5 to 7, and the desk writes
-- the value into 6 as well, a sealed draft that nobody named. All seven hold of it; the frame of rule 8.4 does not.
use Rattle.std.specs.Prelude.{[], ◌∷◌, ◌≡◌, refl, ℕ}
use Rattle.std.proofs.Common.{inr}
use Rattle.cases.specs.Case.Cases.{ask}
use Rattle.cases.specs.Case.Condemned.{differ}
use Rattle.cases.specs.Case.Opened.{opened}
use Rattle.cases.specs.Case.S1.{s1, s1_sheet}
use Rattle.cases.specs.Case.S1Holds.{s1_good}
use Rattle.model.specs.Effect.Words.{edit}
use Rattle.model.specs.Request.After.{after}
use Rattle.model.specs.Request.Allowed.{Accepted}
use Rattle.model.specs.Request.Asked.{asked}
use Rattle.model.specs.Request.Ladder.{answer}
use Rattle.model.specs.Request.Operations.{Op, to_copy}
use Rattle.model.specs.Request.Words.{Request}
use Rattle.model.specs.State.Agree.{well_formed_bounded}
use Rattle.model.specs.Tables.Words.{Tables, value}
use Rattle.model.proofs.Theorem.Acceptance.{accepted}
use Rattle.model.specs.Theorem.Definitions.{Obeys}
use Rattle.model.proofs.Theorem.Lawful.{flows_upward}
use Rattle.model.specs.Theorem.MayChange.{Frame}
use Rattle.model.proofs.Theorem.System.{request_obeys}
use Rattle.model.specs.Request.Refusals as refusal

-- the request, and what the desk makes of it
unfoldable pub copies : Request
copies = ask 2 5 (5 ∷ []) (7 ∷ []) 0 0 0

unfoldable pub overreach : Tables
overreach = edit 6 40 (after s1 copies)

-- Whatever else an accepted request does to values, the seven definitions hold as they did.
value_obeys : (d : Tables) (q : Request) (o : Op) → Accepted o d q → (d' : Tables) → Obeys d q d' → (x v : ℕ) → Obeys d q (edit x v d')
value_obeys d q o a d' h x v = record {
  access = inr (o, a.meant, a.permitted);
  copy = inr (o, a.meant, flows_upward o (asked d q) d (edit x v d') a.allowed);
  ccr = inr (o, a.meant, a.cleared);
  translation = h.translation;
  setting = record { maximum = h.setting.maximum; clearance = h.setting.clearance; authorised = h.setting.authorised; current = h.setting.current };
  downgrade = h.downgrade;
  release = record {
    stays = h.release.stays;
    becomes = λ y b n z. let r = h.release.becomes y b n z in
        record { releaser = r.releaser; asks = r.asks; operand = r.operand; role = r.role; draft = r.draft };
  };
}

copies_accepted : answer s1 copies ≡ refusal.accepted
unfolding opened s1 s1_sheet copies
copies_accepted = refl

-- The seven let it pass,
pub overreach_obeys : Obeys s1 copies overreach
unfolding overreach
overreach_obeys =
    let a = accepted s1 copies copies_accepted s1_good.0 in
    value_obeys s1 copies a.0 a.1 (after s1 copies) (request_obeys s1 (well_formed_bounded s1 s1_good.0) copies) 6 40

-- and the frame of a copy does not.
pub overreach_condemned : Frame to_copy (asked s1 copies) s1 overreach → ⊥
unfolding opened s1 s1_sheet copies overreach
overreach_condemned f = differ (overreach.entity 6 value) (s1.entity 6 value) tt (f.entities 6 value tt)
