-- Definitions 12 to 14 (rules 9.12 to 9.14): the desk's transform is transform secure, its histories are secure, the system is secure.
use Rattle.std.specs.Prelude.{◌≡◌, ℕ}
use Rattle.model.specs.Effect.Notice.{notice}
use Rattle.model.specs.Request.After.{after, effect, noticed_op}
use Rattle.model.proofs.Request.AfterLaws.{after_each, effect_by}
use Rattle.model.specs.Request.Ladder.{answer}
use Rattle.model.proofs.Request.OperationLaws.{names_found}
use Rattle.model.specs.Request.Words.{Request}
use Rattle.model.specs.State.Secure.{Good}
use Rattle.model.specs.Tables.Layout.{Bounded}
use Rattle.model.specs.Tables.Words.{Tables}
use Rattle.model.proofs.Theorem.Acceptance.{accepted, accepted_good}
use Rattle.model.specs.Theorem.Definitions.{History, HistorySecure, Obeys, SystemSecure, TransformSecure}
use Rattle.model.proofs.Theorem.Histories.{states_good}
use Rattle.model.proofs.Theorem.Lawful.{lawful}
use Rattle.model.proofs.Theorem.LawfulNotice.{notice_quiet, quiet_obeys, same_quiet}
use Rattle.model.specs.Request.Refusals as refusal

-- Rule 9.12, one request: whatever it is answered, the seven definitions hold of it.
pub request_obeys : (d : Tables) → Bounded d → (q : Request) → Obeys d q (after d q)
request_obeys d b q = after_each d q (Obeys d q) settled (λ l h. quiet_obeys d d q (same_quiet d q.user))
    (λ l. quiet_obeys d (notice q.user (answer d q) (noticed_op q) d) q (notice_quiet d q.user (answer d q) (noticed_op q)))
  where
    settled : answer d q ≡ refusal.accepted → Obeys d q (effect d q)
    settled e =
        let w = (accepted_good d q e b).0 in
        let a = accepted d q e w in
        rw (effect_by d q a.0 (names_found q a.0 a.1.meant.named)) (lawful a.0 d w q a.1)

-- Definition 12.
pub transform_secure : TransformSecure after
transform_secure = request_obeys

-- Definition 13, of every history from well-formed, secure tables.
pub history_secure : (start : Tables) → Good start → (tables : ℕ → Tables) (requests : ℕ → Request) → History after start tables requests
    → HistorySecure after tables
history_secure start g tables requests h = record { states = states_good start g tables requests h; transform = transform_secure }

-- Definition 14: the system that starts in well-formed, secure tables is secure.
pub system_secure : (start : Tables) → Good start → SystemSecure after start
system_secure start g tables requests h = history_secure start g tables requests h
