-- A notice is kept until it is acknowledged (rules 8.2 and 8.3): nobody's request, accepted or refused, takes it away otherwise.
use Rattle.std.specs.Prelude.{Bool, false, true, List, [], ◌∷◌, ◌≢◌, ◌≡◌, refl, ◌≤◌, suc, ℕ, eqb, ltb}
use Rattle.std.proofs.Math.Option.{some}
use Rattle.std.proofs.Common.{◌∙◌, ap, subst, sym, arith}
use Rattle.model.specs.Basics.Choice.{Below, Same, below, it, other, pick, same}
use Rattle.model.specs.Effect.Notice.{keep_first, missed_more, notice}
use Rattle.model.specs.Effect.Words.{acknowledge}
use Rattle.model.specs.Request.After.{after, effect, noticed_op}
use Rattle.model.proofs.Request.AfterLaws.{after_accepted, after_each, effect_by}
use Rattle.model.specs.Request.Allowed.{Allowed}
use Rattle.model.specs.Request.Asked.{asked}
use Rattle.model.specs.Request.Ladder.{answer}
use Rattle.model.proofs.Request.OperationLaws.{names_found, number_injective}
use Rattle.model.specs.Request.Operations.{Op, number_of, op_of, row_of, to_acknowledge}
use Rattle.model.specs.Request.Words.{Request}
use Rattle.model.specs.State.Secure.{Good}
use Rattle.model.specs.State.WellFormed.{WellFormed}
use Rattle.model.specs.Tables.EditLaws.{elsewhere}
use Rattle.model.specs.Tables.Words.{Tables, first_noticed, held, held_op, missed, missed_most}
use Rattle.model.proofs.Theorem.Acceptance.{accepted}
use Rattle.model.proofs.Theorem.Fixed.{notices_left}
use Rattle.model.proofs.Theorem.Kept.{request_good}
use Rattle.model.specs.Theorem.Statements.{SameNotice, StillHeld, Unacknowledged, after_all}
use Rattle.model.specs.Request.Refusals as refusal

-- A refusal that is held stays held through every notice.
notice_keeps : (d : Tables) (u r o x : ℕ) → d.user x held ≢ 0
    → ((notice u r o d).user x held ≡ d.user x held) × ((notice u r o d).user x held_op ≡ d.user x held_op)
notice_keeps d u r o x h = go (eqb x u) (same x u)
  where
    inner : x ≡ u → (c : Bool) → Same (d.user u held) 0 c
        → (keep_first c r (d.user u held) ≡ d.user x held) × (keep_first c o (d.user u held_op) ≡ d.user x held_op)
    inner e true (it z) = absurd (h (ap (λ (v : ℕ). d.user v held) e ∙ z))
    inner e false (other z) = (sym (ap (λ (v : ℕ). d.user v held) e), sym (ap (λ (v : ℕ). d.user v held_op) e))

    go : (b : Bool) → Same x u b → (pick b (keep_first (eqb (d.user u held) 0) r (d.user u held)) (d.user x held) ≡ d.user x held)
        × (pick b (keep_first (eqb (d.user u held) 0) o (d.user u held_op)) (d.user x held_op) ≡ d.user x held_op)
    go true (it e) = inner e (eqb (d.user u held) 0) (same (d.user u held) 0)
    go false (other e) = (refl, refl)

-- the number missed never falls by a notice
missed_grows : (d : Tables) (u r o x : ℕ) → d.user x missed ≤ missed_most → d.user x missed ≤ (notice u r o d).user x missed
missed_grows d u r o x h = go (eqb x u) (same x u)
  where
    inner : x ≡ u → (c : Bool) → Below (d.user u missed) missed_most c → d.user x missed ≤ missed_more c (d.user u missed)
    inner e true l = let z : d.user x missed ≤ suc (d.user u missed) = omega (arith, ap (λ (v : ℕ). d.user v missed) e) in z
    inner e false l = let z : d.user x missed ≤ missed_most = h in z

    go : (b : Bool) → Same x u b → d.user x missed ≤ pick b (missed_more (ltb (d.user u missed) missed_most) (d.user u missed)) (d.user x missed)
    go true (it e) = inner e (ltb (d.user u missed) missed_most) (below (d.user u missed) missed_most)
    go false (other e) = omega arith

-- an acknowledgement of another's is none
acknowledge_other_lem : (d : Tables) (u x : ℕ) → x ≢ u → SameNotice d (acknowledge u d) x
acknowledge_other_lem d u x n = (elsewhere x u 0 (d.user x held) n, elsewhere x u 0 (d.user x held_op) n, elsewhere x u 0 (d.user x missed) n)

-- Rule 8.3: an accepted request that is no acknowledgement leaves every notice; an acknowledgement leaves every other user's.
pub accepted_notices : (d : Tables) → WellFormed d → (q : Request) → answer d q ≡ refusal.accepted → (x : ℕ)
    → (op_of q.operation ≡ some to_acknowledge → x ≢ q.user) → SameNotice d (after d q) x
unfolding asked
accepted_notices d w q e x n =
    let a = accepted d q e w in
    subst (λ (d' : Tables). SameNotice d d' x) (sym (after_accepted d q e ∙ effect_by d q a.0 (names_found q a.0 a.1.meant.named)))
    (each_op a.0 (names_found q a.0 a.1.meant.named) a.1.allowed)
  where
    each_op : (o : Op) → op_of q.operation ≡ some o → Allowed o (asked d q) d → SameNotice d ((row_of o).effect (asked d q) d) x
    each_op o m h = go (eqb (number_of o) (number_of to_acknowledge)) (same (number_of o) (number_of to_acknowledge))
      where
        go : (b : Bool) → Same (number_of o) (number_of to_acknowledge) b → SameNotice d ((row_of o).effect (asked d q) d) x
        go true (it z) =
            let k = number_injective o to_acknowledge z in
            subst (λ (p : Op). SameNotice d ((row_of p).effect (asked d q) d) x) (sym k) (acknowledge_other_lem d q.user x (n (m ∙ ap some k)))
        go false (other z) = notices_left o d w (asked d q) h (λ k. z (ap number_of k)) x

pub held_kept : (d : Tables) → WellFormed d → (q : Request) (x : ℕ) → d.user x held ≢ 0
    → (answer d q ≡ refusal.accepted → op_of q.operation ≡ some to_acknowledge → x ≢ q.user) → StillHeld d (after d q) x
held_kept d w q x h n =
    after_each d q (λ (d' : Tables). StillHeld d d' x) settled (λ l m. record { refusal = refl; operation = refl; more = omega arith }) noticed
  where
    settled : answer d q ≡ refusal.accepted → StillHeld d (effect d q) x
    settled e =
        let k = rw (after_accepted d q e) at (accepted_notices d w q e x (n e)) in
        record { refusal = k.0; operation = k.1; more = omega (arith, k.2) }

    noticed : first_noticed ≤ answer d q → StillHeld d (notice q.user (answer d q) (noticed_op q) d) x
    noticed l =
        let k = notice_keeps d q.user (answer d q) (noticed_op q) x h in
        record { refusal = k.0; operation = k.1; more = missed_grows d q.user (answer d q) (noticed_op q) x (w.users x).notice.missed_in }

still_held : (d e f : Tables) (x : ℕ) → StillHeld d e x → StillHeld e f x → StillHeld d f x
still_held d e f x a b =
    record { refusal = b.refusal ∙ a.refusal; operation = b.operation ∙ a.operation; more = omega (arith, a.more, b.more) }

-- And so along every list of requests in which it is not acknowledged.
pub held_through : (d : Tables) → Good d → (x : ℕ) → d.user x held ≢ 0 → (qs : List Request) → Unacknowledged d x qs → StillHeld d (after_all d qs) x
unfolding Unacknowledged after_all
held_through d g x h [] u = record { refusal = refl; operation = refl; more = omega arith }
held_through d g x h (q ∷ qs) u =
    let a = held_kept d g.0 q x h u.0 in
    still_held d (after d q) (after_all (after d q) qs) x a
    (held_through (after d q) (request_good d g q) x (λ z. h (sym a.refusal ∙ z)) qs u.1)
