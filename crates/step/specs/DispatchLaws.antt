-- The choice of an operation: what each way may rely on.
use Rattle.std.specs.Prelude.{Bool, Err, IfOk, List, [], MatchResult, Ok, Result, false, true, ◌≢◌, ◌≡◌, ◌≤◌, ℕ}
use Rattle.std.proofs.Math.Bool.{not}
use Rattle.std.proofs.Math.Option.{some}
use Rattle.std.proofs.Common.{◌∙◌, ap, sym, arith}
use Rattle.std.proofs.Math.Dec.{eqb}
use Rattle.ladder.specs.ClimbLaws.{passed_more}
use Rattle.ladder.specs.Contract.{First, Judged, Passed, PastLogon, PastMarks, Second, Taking}
use Rattle.ladder.specs.DispatchLaws.{NoneOf, arity_named, named_as, numbers_of, one_over}
use Rattle.ladder.specs.Path.{arity_of, path_answer}
use Rattle.ladder.specs.PathLaws.{path_pass, path_refused}
use Rattle.model.specs.Basics.TestLaws.{is_false}
use Rattle.model.specs.Request.Form.{taken}
use Rattle.model.specs.Request.Asked.{asked, basis_of, operand}
use Rattle.model.specs.Request.Ladder.{applies, bars, ladder, leads_nowhere, never, no_access, not_cleared, not_understood, of_op, permits, rung_at}
use Rattle.model.specs.Request.Ladder.{some_operand}
use Rattle.model.specs.Request.LadderLaws.{of_op_some}
use Rattle.model.specs.Request.Operations as model
use Rattle.model.specs.Request.Operations.{number_of, op_of, row_of}
use Rattle.model.specs.Request.Refusals as refusal
use Rattle.model.specs.Request.Reference.{resolve}
use Rattle.model.proofs.Request.ReferenceLaws.{leads_present, resolve_leads}
use Rattle.model.proofs.Request.RungLaws.{leads_nowhere_fails, not_understood_fails}
use Rattle.model.specs.Request.Words.{Request, names, request_of}
use Rattle.model.specs.State.WellFormed.{WellFormed}
use Rattle.model.specs.Tables.Layout.{tables_of}
use Rattle.model.specs.Tables.Words.{Tables, clearance, entity_count}
use Rattle.names.specs.Operations.{meant}
use Rattle.names.specs.Refusals as refused
use Rattle.names.specs.declared.op.Op.{Op}
use Rattle.names.specs.declared.refusal.Refusal.{Refusal}
use Rattle.step.specs.NoticeLaws.{acted_no}
use Rattle.tables.specs.declared.Entity.{Entity}

-- a request that has passed rung 5 is for an operation
pub understood : (d : Tables) (q : Request) → Passed refusal.bad_request d q → (o : model.Op) × (op_of q.operation ≡ some o)
unfolding applies rung_at never ladder
understood d q p = let z = (not_understood_fails d q).to (is_false (not_understood d q) (p refusal.bad_request (omega arith))) in (z.0, z.1)

-- a number that none of the arms for two operands or none has takes one
pub served_one : (d : Tables) (q : Request) → Passed refusal.bad_request d q
    → NoneOf (numbers_of (λ o. not (eqb (taken o) 1)) model.operations) q.operation → arity_of q ≡ 1
unfolding of_op
served_one d q p r = let z = understood d q p in one_over q (of_op_some q z.0 z.1 (λ o. true)) r

-- a request past rung 9, for the operation of this number
pub taking_past : (o : model.Op) (t q : List ℕ) (u op : ℕ) → PastMarks t q u → (request_of q).operation ≡ op → op ≡ number_of o → Taking o t q u
taking_past o t q u op k e z = record { climbed = k; named = named_as (request_of q) o (e ∙ z) }

-- ---- no operands: rungs 7 to 9 ask nothing

module _ (o : model.Op) (z : (row_of o).operands ≡ []) (d : Tables) (q : Request) (e : op_of q.operation ≡ some o) where
  unasked : (p : model.Op → ℕ → Bool) → of_op q (λ o. some_operand 1 (row_of o).operands (λ k x. p o k)) ≡ false
  unfolding some_operand
  unasked p = of_op_some q o e (λ o. some_operand 1 (row_of o).operands (λ k x. p o k)) ∙ rw z

  passed_none : Passed refusal.not_logged_on d q → Passed refusal.marked d q
  unfolding applies rung_at never ladder leads_nowhere no_access not_cleared
  passed_none p = passed_more d q refusal.no_access (passed_more d q refusal.no_such_name (passed_more d q refusal.not_logged_on p
      (unasked (λ o k. eqb (operand (asked d q) k) 0)))
      (unasked (λ o k. not (permits d q.user (number_of o) k (operand (asked d q) k)))))
      (unasked (λ o k. bars d (d.user q.user clearance) (basis_of (asked d q) k)))

-- ---- operands that were read

resolved_in : (d : Tables) (ns : List ℕ) (x : ℕ) → WellFormed d → x ≡ resolve d ns → resolve d ns ≢ 0 → (1 ≤ x) × (x ≤ entity_count)
resolved_in d ns x w e n = let p = leads_present w (resolve_leads d ns n) in (rw (← e) at p.low, rw (← e) at p.high)

-- ---- a request for operation o

module _ {t q : List ℕ} {u : ℕ} (o : Op) (k : PastLogon t q u) (e : (request_of q).operation ≡ number_of (meant o)) where
  named : op_of (request_of q).operation ≡ some (meant o)
  named = named_as (request_of q) (meant o) e

  -- as many operands as it takes
  pub arity : arity_of (request_of q) ≡ taken (meant o)
  arity = arity_named (request_of q) (meant o) e

  -- it takes none
  pub taking_none : (row_of (meant o)).operands ≡ [] → Taking (meant o) t q u
  taking_none n = record {
    climbed = record {
      ready = k.ready;
      user = k.user;
      low = k.low;
      high = k.high;
      passed = passed_none (meant o) n (tables_of t) (request_of q) named k.passed;
    };
    named = named;
  }

  -- rungs 7 to 9 refuse
  pub read_refused : (r : Refusal) → refused.number_of r ≡ path_answer (tables_of t) (request_of q) → Judged t q (refused.number_of r) t
  read_refused r h =
      let a = path_refused (tables_of t) (request_of q) r k.passed h in
      record { answer = a.0; tables = sym (acted_no (refused.number_of r) (tables_of t) (request_of q) (λ y. omega (arith, a.1))) }

  -- or pass, and its operands are entities' numbers
  module _ (h : refusal.accepted ≡ path_answer (tables_of t) (request_of q)) where
    past : Passed refusal.marked (tables_of t) (request_of q)
    past = path_pass (tables_of t) (request_of q) k.passed (sym h)

    pub taking : Taking (meant o) t q u
    taking = record { climbed = record { ready = k.ready; user = k.user; low = k.low; high = k.high; passed = past }; named = named }

    operand_in : (j : ℕ) → 1 ≤ j → j ≤ taken (meant o) → operand (asked (tables_of t) (request_of q)) j ≢ 0
    unfolding applies rung_at never ladder
    operand_in j l m =
        (leads_nowhere_fails (tables_of t) (request_of q) (meant o) named).to
        (is_false (leads_nowhere (tables_of t) (request_of q)) (past refusal.no_such_name (omega arith))) j (l, m)

    pub first : 1 ≤ taken (meant o) → {x : ℕ} → x ≡ (asked (tables_of t) (request_of q)).first → First t q x
    unfolding asked
    first m {x} w =
        let r = resolved_in (tables_of t) (names (request_of q).first) x k.ready.good.0 w (operand_in 1 (omega arith) m) in
        record { is = sym w; low = r.0; high = r.1 }

    pub second : 2 ≤ taken (meant o) → {x : ℕ} → x ≡ (asked (tables_of t) (request_of q)).second → Second t q x
    unfolding asked
    second m {x} w =
        let r = resolved_in (tables_of t) (names (request_of q).second) x k.ready.good.0 w (operand_in 2 (omega arith) m) in
        record { is = sym w; low = r.0; high = r.1 }

  -- what was read of one operand, or of two
  pub read_one : (r : Result Entity Refusal) → taken (meant o) ≡ 1 → refused.answer_number r ≡ path_answer (tables_of t) (request_of q)
      → IfOk r (λ e. e.0 ≡ (asked (tables_of t) (request_of q)).first)
      → MatchResult r (λ e. Taking (meant o) t q u × First t q e.0) (λ r. Judged t q (refused.number_of r) t)
  read_one (Ok x) n h f = (taking h, first h (omega arith) f)
  read_one (Err r) n h f = read_refused r h

  pub read_two : (r : Result (Entity × Entity) Refusal) → taken (meant o) ≡ 2 → refused.answer_number r ≡ path_answer (tables_of t) (request_of q)
      → IfOk r (λ p. p.0.0 ≡ (asked (tables_of t) (request_of q)).first) → IfOk r (λ p. p.1.0 ≡ (asked (tables_of t) (request_of q)).second)
      → MatchResult r (λ p. Taking (meant o) t q u × First t q p.0.0 × Second t q p.1.0) (λ r. Judged t q (refused.number_of r) t)
  read_two (Ok x) n h f g = (taking h, first h (omega arith) f, second h (omega arith) g)
  read_two (Err r) n h f g = read_refused r h

-- ---- in the arm of operation p

-- it takes no operands
pub for_none : {t q : List ℕ} {u : ℕ} (o p : Op) → o ≡ p → PastLogon t q u → (request_of q).operation ≡ number_of (meant o)
    → (row_of (meant p)).operands ≡ [] → Taking (meant p) t q u
for_none o p z k e n = taking_none p k (e ∙ ap (λ (x : Op). number_of (meant x)) z) n
