-- What one step on words does to a user's notice (rules 8.2 and 8.3): an acknowledgement empties it, a refusal 5 to 16 adds to it, and every other
-- request leaves it. These are the three turns of a sequence.
use Rattle.std.specs.Prelude.{Bool, ◌&&◌, false, true, List, ◌≢◌, ◌≡◌, refl, ◌≤◌, suc, zero, ℕ, T, eqb, leb, ltb}
use Rattle.std.proofs.Math.Option.{Option, none, some}
use Rattle.std.proofs.Common.{◌∙◌, subst, sym, arith}
use Rattle.model.specs.Basics.Agree.{Agrees, agrees_and, agrees_le, every_at}
use Rattle.model.specs.Basics.Choice.{Below, Same, below, it, other, over, pick, same, under}
use Rattle.model.specs.Basics.TestLaws.{is_false, is_true, pick_true}
use Rattle.model.specs.Basics.Tests.{every}
use Rattle.model.specs.Effect.Notice.{missed_more, notice}
use Rattle.model.specs.Request.After.{after, noticed_op}
use Rattle.model.proofs.Request.AfterLaws.{after_accepted, after_each, after_noticed, effect_by}
use Rattle.model.specs.Request.Asked.{asked}
use Rattle.model.specs.Request.Ladder.{answer}
use Rattle.model.proofs.Request.OperationLaws.{number_range, op_of_number}
use Rattle.model.specs.Request.Operations.{Op, number_of, op_of, operations, to_acknowledge, with_number}
use Rattle.model.specs.Request.Step.{after_of, answer_of, sized}
use Rattle.model.specs.Request.Words.{Request, request_of}
use Rattle.model.specs.Tables.EditLaws.{case, elsewhere}
use Rattle.model.specs.Tables.Layout.{Bounded, tables_of}
use Rattle.model.specs.Tables.LayoutLaws.{bounded}
use Rattle.model.specs.Tables.Words.{Tables, first_noticed, held, held_op, missed, missed_most, operation_count}
use Rattle.model.proofs.Theorem.Acceptance.{accepted_good}
use Rattle.model.proofs.Theorem.Notices.{accepted_notices}
use Rattle.model.specs.Theorem.Sequence.{Held, NoNotice, held_for, operation_kept, missed_for}
use Rattle.model.specs.Theorem.Statements.{SameNotice}
use Rattle.model.proofs.Theorem.Steps.{after_of_tables, answer_of_sized, unsized}
use Rattle.model.specs.Request.Refusals as refusal

-- Two that hold the same refusal and the same operation hold the same.
pub held_same : {h k o p : ℕ} → h ≡ k → o ≡ p → ◌≡◌ {A = Held} record { refusal = h; operation = o } record { refusal = k; operation = p }
held_same e f = λ i. record { refusal = e i; operation = f i }

-- Rule 8.2: every number 1 to 20 is that of an operation, so a notice keeps the number that was asked for, or 0.
pub operation_kept_lem : (q : Request) → noticed_op q ≡ operation_kept q.operation
unfolding noticed_op op_of with_number operations every
operation_kept_lem q = go (op_of q.operation) refl
  where
    known : Option Op → Bool
    known none = false
    known (some o) = true

    all_known : T (every operation_count (λ i. known (op_of (suc i))))
    all_known = tt

    found : (n : ℕ) → 1 ≤ n → n ≤ operation_count → T (known (op_of n))
    found zero l h = absurd (omega arith)
    found (suc n) l h = every_at operation_count (λ i. known (op_of (suc i))) all_known n (omega arith)

    go : (m : Option Op) → op_of q.operation ≡ m → elim m [ none ↦ 0 | some o ↦ number_of o ] ≡ operation_kept q.operation
    go (some o) e =
        let z = op_of_number q.operation o e in
        let r = number_range o in
        z ∙ sym (pick_true (leb 1 q.operation && leb q.operation operation_count) q.operation 0
        ((agrees_and (agrees_le 1 q.operation) (agrees_le q.operation operation_count)).from (omega (arith, r.0), omega (arith, r.1))))
    go none e = sym (none_kept (leb 1 q.operation && leb q.operation operation_count)
        (agrees_and (agrees_le 1 q.operation) (agrees_le q.operation operation_count)))
      where
        none_kept : (b : Bool) → Agrees b ((1 ≤ q.operation) × (q.operation ≤ operation_count)) → pick b q.operation 0 ≡ 0
        none_kept true a = absurd (subst (λ (m : Option Op). T (known m)) e (found q.operation (a.to tt).0 (a.to tt).1))
        none_kept false a = refl

-- A record's own word after an edit of it.
here : (x v a : ℕ) → pick (eqb x x) v a ≡ v
here x v a = case (λ (y : ℕ). y ≡ v) x x v a (λ e. refl) (λ n. absurd (n refl))

-- A count within its greatest is itself, and one past it is its greatest.
pub missed_within : (n : ℕ) → n ≤ missed_most → missed_for n ≡ n
missed_within n h = pick_true (leb n missed_most) n missed_most ((agrees_le n missed_most).from h)

pub missed_past : (n : ℕ) → missed_most ≤ n → missed_for n ≡ missed_most
missed_past n h = go (leb n missed_most) (agrees_le n missed_most)
  where
    go : (b : Bool) → Agrees b (n ≤ missed_most) → pick b n missed_most ≡ missed_most
    go true a = let l = a.to tt in omega arith
    go false a = refl

-- What a refusal a of operation o does to the notice of u.
pub record Counted (d d' : Tables) (u a o : ℕ) : Type 0 where
  pub kept : d.user u held ≢ 0 → held_for d' u ≡ held_for d u
  pub taken : d.user u held ≡ 0 → held_for d' u ≡ record { refusal = a; operation = o }
  pub more : d'.user u missed ≡ missed_for (suc (d.user u missed))

notice_counted : (d : Tables) (u a o : ℕ) → Counted d (notice u a o d) u a o
notice_counted d u a o = record {
  kept = keeps (eqb (d.user u held) 0) refl (same (d.user u held) 0);
  taken = takes (eqb (d.user u held) 0) refl (same (d.user u held) 0);
  more = here u _ (d.user u missed) ∙ one_more (ltb (d.user u missed) missed_most) (below (d.user u missed) missed_most);
}
  where
    keeps : (b : Bool) → eqb (d.user u held) 0 ≡ b → Same (d.user u held) 0 b → d.user u held ≢ 0 → held_for (notice u a o d) u ≡ held_for d u
    keeps true e (it z) n = absurd (n z)
    keeps false e (other z) n = rw e (held_same (here u _ (d.user u held)) (here u _ (d.user u held_op)))

    takes : (b : Bool) → eqb (d.user u held) 0 ≡ b → Same (d.user u held) 0 b → d.user u held ≡ 0
        → held_for (notice u a o d) u ≡ record { refusal = a; operation = o }
    takes true e (it z) h = rw e (held_same (here u _ (d.user u held)) (here u _ (d.user u held_op)))
    takes false e (other z) h = absurd (z h)

    one_more : (b : Bool) → Below (d.user u missed) missed_most b → missed_more b (d.user u missed) ≡ missed_for (suc (d.user u missed))
    one_more true (under l) = sym (missed_within (suc (d.user u missed)) l)
    one_more false (over l) = sym (missed_past (suc (d.user u missed)) (omega arith))

-- Rule 8.2 of words: a refusal 5 to 16 adds to the requester's notice.
pub refused_counted : (t q : List ℕ) → first_noticed ≤ answer_of t q
    → Counted (tables_of t) (tables_of (after_of t q)) (request_of q).user (answer_of t q) (operation_kept (request_of q).operation)
refused_counted t q h = go (sized t q) refl
  where
    go : (b : Bool) → sized t q ≡ b
        → Counted (tables_of t) (tables_of (after_of t q)) (request_of q).user (answer_of t q) (operation_kept (request_of q).operation)
    go true z =
        let s = is_true (sized t q) z in
        let a = answer_of_sized t q s in
        let n = after_noticed (tables_of t) (request_of q) (answer (tables_of t) (request_of q)) refl (omega arith) in
        rw (a, after_of_tables t q s, n, sym (operation_kept_lem (request_of q)))
        (notice_counted (tables_of t) (request_of q).user (answer (tables_of t) (request_of q)) (noticed_op (request_of q)))
    go false z = absurd (omega (arith, (unsized t q (is_false (sized t q) z)).0))

-- Rule 8.3 of words: an acknowledgement that is accepted empties the requester's notice.
pub acknowledged_empties : (t q : List ℕ) → op_of (request_of q).operation ≡ some to_acknowledge → answer_of t q ≡ refusal.accepted
    → NoNotice (tables_of (after_of t q)) (request_of q).user
unfolding asked
acknowledged_empties t q m h = go (sized t q) refl
  where
    go : (b : Bool) → sized t q ≡ b → NoNotice (tables_of (after_of t q)) (request_of q).user
    go true z =
        let s = is_true (sized t q) z in
        let u = (request_of q).user in
        let a = sym (answer_of_sized t q s) ∙ h in
        let e = after_accepted (tables_of t) (request_of q) a ∙ effect_by (tables_of t) (request_of q) to_acknowledge m in
        subst (λ (d : Tables). NoNotice d u) (sym (after_of_tables t q s ∙ e))
        (held_same (here u 0 ((tables_of t).user u held)) (here u 0 ((tables_of t).user u held_op)), here u 0 ((tables_of t).user u missed))
    go false z = absurd (omega (arith, (unsized t q (is_false (sized t q) z)).0))

-- Whatever is neither is no matter for the notice.
request_same : (d : Tables) → Bounded d → (q : Request) (x : ℕ) → (q.user ≡ x → first_noticed ≤ answer d q → ⊥)
    → (q.user ≡ x → op_of q.operation ≡ some to_acknowledge → answer d q ≡ refusal.accepted → ⊥) → SameNotice d (after d q) x
request_same d b q x r k = after_each d q (λ (d' : Tables). SameNotice d d' x)
    (λ e. subst (λ (d' : Tables). SameNotice d d' x) (after_accepted d q e)
    (accepted_notices d (accepted_good d q e b).0 q e x (λ m z. k (sym z) m e)))
    (λ l h. (refl, refl, refl))
    (λ l. let n : x ≢ q.user = λ z. r (sym z) l in
    (elsewhere x q.user _ (d.user x held) n, elsewhere x q.user _ (d.user x held_op) n, elsewhere x q.user _ (d.user x missed) n))

pub words_same : (t q : List ℕ) (x : ℕ) → ((request_of q).user ≡ x → first_noticed ≤ answer_of t q → ⊥)
    → ((request_of q).user ≡ x → op_of (request_of q).operation ≡ some to_acknowledge → answer_of t q ≡ refusal.accepted → ⊥)
    → SameNotice (tables_of t) (tables_of (after_of t q)) x
words_same t q x r k = go (sized t q) refl
  where
    go : (b : Bool) → sized t q ≡ b → SameNotice (tables_of t) (tables_of (after_of t q)) x
    go true z =
        let s = is_true (sized t q) z in
        let a = answer_of_sized t q s in
        subst (λ (d : Tables). SameNotice (tables_of t) d x) (sym (after_of_tables t q s))
        (request_same (tables_of t) (bounded t) (request_of q) x (λ e l. r e (omega arith)) (λ e m c. k e m (a ∙ c)))
    go false z = subst (λ (v : List ℕ). SameNotice (tables_of t) (tables_of v) x) (sym (unsized t q (is_false (sized t q) z)).1) (refl, refl, refl)

-- Rules 8.2 and 8.3: a request changes nobody else's notice, whatever the words of the tables and whatever its own.
pub others_noticed : (t q : List ℕ) (x : ℕ) → x ≢ (request_of q).user → SameNotice (tables_of t) (tables_of (after_of t q)) x
others_noticed t q x n = words_same t q x (λ e l. n (sym e)) (λ e m a. n (sym e))
