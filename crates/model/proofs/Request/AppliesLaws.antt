-- The tests of rungs 5 to 10 say what `Request/Applies` states (rules 7.5 to 7.10).
use Rattle.std.specs.Prelude.{Bool, ◌&&◌, ◌≢◌, ◌⊎◌, ◌≡◌, refl, ◌+◌, ◌<◌, ◌≤◌, ℕ, T, length}
use Rattle.std.proofs.Math.Bool.{false, not, true}
use mathlib.Core.List.Memᴰ
use mathlib.Core.List.{List, Memᴰ, [], ◌∷◌}
use Rattle.std.proofs.Common.{inl, inr, arith}
use Rattle.std.proofs.Math.Dec.{eqb}
use Rattle.model.specs.Basics.Agree.{Agrees, agrees_T, agrees_and, agrees_as, agrees_eq, agrees_not, agrees_or}
use Rattle.model.specs.Basics.Choice.{pick}
use Rattle.model.specs.Basics.Fails.{fails_agrees}
use Rattle.model.specs.Level.{AtMost, at_most}
use Rattle.model.specs.Request.Allowed.{Operand, Permitted, WantsDevice}
use Rattle.model.specs.Request.Applies.{Nowhere, Suits, reference_of}
use Rattle.model.specs.Request.Asked.{asked, basis_of, operand}
use Rattle.model.proofs.Request.ConditionLaws.{any_agrees, container_agrees, device_agrees, draft_agrees, thing_agrees}
use Rattle.model.specs.Request.Conditions.{Kind, is_container, is_entity}
use Rattle.model.proofs.Request.FitLaws.{operands_taken}
use Rattle.model.specs.Request.Form.{Fits}
use Rattle.model.specs.Request.Ladder.{bars, leads_nowhere, no_access, not_cleared, not_logged_on, not_understood, of_op, permits, some_operand}
use Rattle.model.specs.Request.Ladder.{wrong_kind}
use Rattle.model.specs.Request.LadderLaws.{AllOperands, of_op_agrees, operands_at, operands_both, operands_each, operands_map}
use Rattle.model.specs.Request.LadderLaws.{some_operand_agrees}
use Rattle.model.proofs.Request.OperationLaws.{Found, wants_device_agrees}
use Rattle.model.specs.Request.Operations.{Op, number_of, open_logged_off, row_of, to_acknowledge, to_authorised, to_clear, to_clearance}
use Rattle.model.specs.Request.Operations.{to_copy, to_create, to_current, to_delete, to_device_level, to_edit, to_grant, to_level, to_login}
use Rattle.model.specs.Request.Operations.{to_logout, to_mark, to_maximum, to_move, to_release, to_revoke, to_show}
use Rattle.model.specs.Request.Reference.{Leads, basis, resolve}
use Rattle.model.proofs.Request.ReferenceLaws.{leads_present, leads_resolve, resolve_leads}
use Rattle.model.proofs.Request.RungLaws.{not_understood_fails, wrong_kind_fails}
use Rattle.model.proofs.Request.TestLaws.{permits_agrees}
use Rattle.model.specs.Request.Words.{Request, names}
use Rattle.model.specs.State.WellFormed.{Thing, WellFormed}
use Rattle.model.specs.Tables.Words.{Tables, clearance, container_kind, devices, kinds, level, mark}

-- Rule 7.7: a reference is read as 0 exactly where it leads nowhere.
nowhere_agrees : (d : Tables) → WellFormed d → (ns : List ℕ) → Agrees (eqb (resolve d ns) 0) ((way : List ℕ) (x : ℕ) → Leads d ns way x → ⊥)
nowhere_agrees d w ns = agrees_as (λ e way x l. omega (arith, (leads_resolve l).0, (leads_present w l).low)) nowhere (agrees_eq (resolve d ns) 0)
  where
    nowhere : ((way : List ℕ) (x : ℕ) → Leads d ns way x → ⊥) → resolve d ns ≡ 0
    nowhere f = let h : ¬ (1 ≤ resolve d ns) = λ l. f _ _ (resolve_leads d ns (λ e. omega arith)) in omega arith

-- Rule 5.3: an operand and its way are where its reference leads and by which entities,
pub operand_leads : (d : Tables) (q : Request) (k : ℕ) → operand (asked d q) k ≢ 0
    → Leads d (names (reference_of q k)) (basis_of (asked d q) k) (operand (asked d q) k)
unfolding asked
operand_leads d q k = go (eqb k 1)
  where
    go : (b : Bool) → ◌≢◌ {A = ℕ} (pick b (resolve d (names q.first)) (resolve d (names q.second))) 0
        → Leads d (names (pick b q.first q.second)) (pick b (basis d (names q.first)) (basis d (names q.second)))
        (pick b (resolve d (names q.first)) (resolve d (names q.second)))
    go true h = resolve_leads d (names q.first) h
    go false h = resolve_leads d (names q.second) h

-- and a reference leads nowhere else, and by no other way.
pub leads_operand : (d : Tables) (q : Request) (k x : ℕ) (way : List ℕ) → Leads d (names (reference_of q k)) way x
    → (operand (asked d q) k ≡ x) × (basis_of (asked d q) k ≡ way)
unfolding asked
leads_operand d q k x way = go (eqb k 1)
  where
    go : (b : Bool) → Leads d (names (pick b q.first q.second)) way x
        → (pick b (resolve d (names q.first)) (resolve d (names q.second)) ≡ x)
        × (pick b (basis d (names q.first)) (basis d (names q.second)) ≡ way)
    go true l = leads_resolve l
    go false l = leads_resolve l

-- an entity of the way w is marked, and its level is not at most l
Barred : Tables → ℕ → List ℕ → Type 0
Barred d l w = (y : ℕ) × Memᴰ y w × (d.entity y mark ≢ 0) × (AtMost (d.entity y level) l → ⊥)

-- Rule 7.9: a way is barred by one of its entities.
bars_agrees : (d : Tables) (l : ℕ) (w : List ℕ) → Agrees (bars d l w) (Barred d l w)
unfolding bars Barred
bars_agrees d l [] = record { to = λ t. absurd t; from = λ z. absurd (Memᴰ.not-nil z.1) }
bars_agrees d l (e ∷ es) = agrees_as first next (go _ here (bars_agrees d l es))
  where
    Here : Type 0
    Here = (d.entity e mark ≢ 0) × (AtMost (d.entity e level) l → ⊥)

    here : Agrees (not (eqb (d.entity e mark) 0) && not (at_most (d.entity e level) l)) Here
    here = agrees_and (agrees_not (agrees_eq (d.entity e mark) 0)) (agrees_not (agrees_T (at_most (d.entity e level) l)))

    go : (b : Bool) → Agrees b Here → Agrees (bars d l es) (Barred d l es) → Agrees (elim b [ true ↦ true | false ↦ bars d l es ]) (Here ⊎ Barred d l es)
    go true a c = agrees_or a c
    go false a c = agrees_or a c

    first : Here ⊎ Barred d l es → Barred d l (e ∷ es)
    first (inl z) = (e, Memᴰ.head refl, z.0, z.1)
    first (inr z) = (z.0, Memᴰ.tail z.1, z.2, z.3)

    next : Barred d l (e ∷ es) → Here ⊎ Barred d l es
    next z = at (Memᴰ.cases_cons z.1)
      where
        at : (z.0 ≡ e) ⊎ Memᴰ z.0 es → Here ⊎ Barred d l es
        at (inl q) = inl (rw q at z.2, rw q at z.3)
        at (inr m) = inr (z.0, m, z.2, z.3)

-- Rule 5.5: each row asks of each operand what the operation states.
suits_agree : (o : Op) → AllOperands 1 (row_of o).operands (λ k x. (d : Tables) (e : ℕ) → Agrees (x d e) (Suits o k d e))
suits_agree to_create = (container_agrees, tt)
suits_agree to_delete = (thing_agrees, tt)
suits_agree to_move = (first, (second, tt))
  where
    first : (d : Tables) (e : ℕ) → Agrees (is_entity d e) (Suits to_move 1 d e)
    first d e = agrees_as {P = Thing d e} (λ t. (λ z. t, λ z. absurd (omega arith))) (λ z. z.0 refl) (thing_agrees d e)

    second : (d : Tables) (e : ℕ) → Agrees (is_container d e) (Suits to_move 2 d e)
    second d e = agrees_as {P = kinds d e ≡ container_kind} (λ t. (λ z. absurd (omega arith), λ z. t)) (λ z. z.1 refl) (container_agrees d e)
suits_agree to_edit = (thing_agrees, tt)
suits_agree to_copy = (thing_agrees, (thing_agrees, tt))
suits_agree to_level = (thing_agrees, tt)
suits_agree to_mark = (container_agrees, tt)
suits_agree to_grant = (any_agrees, tt)
suits_agree to_revoke = (any_agrees, tt)
suits_agree to_show = (thing_agrees, tt)
suits_agree to_clear = tt
suits_agree to_login = (device_agrees, tt)
suits_agree to_logout = tt
suits_agree to_current = tt
suits_agree to_clearance = tt
suits_agree to_authorised = tt
suits_agree to_maximum = (device_agrees, tt)
suits_agree to_device_level = (device_agrees, tt)
suits_agree to_release = (draft_agrees, tt)
suits_agree to_acknowledge = tt

module _ (d : Tables) (q : Request) where
  -- Rule 7.5: no operation is named that the request fits.
  pub not_understood_agrees : Agrees (not_understood d q) ((o : Op) → Found q o → Fits o q → ⊥)
  not_understood_agrees = agrees_as (λ f o n g. f (o, n, g)) (λ f z. f z.0 z.1 z.2) (fails_agrees (not_understood_fails d q))

  -- Rule 7.6: the operation wants a device, and the requester is on none.
  pub not_logged_on_agrees : Agrees (not_logged_on d q) ((o : Op) × Found q o × WantsDevice o × (devices d q.user ≡ 0))
  unfolding not_logged_on
  not_logged_on_agrees = agrees_as (λ z. let a = (both z.0).to z.2 in (z.0, z.1, a.0, a.1)) (λ z. (z.0, z.1, (both z.0).from (z.2, z.3)))
      (of_op_agrees q (λ o. not (open_logged_off o) && eqb (devices d q.user) 0))
    where
      both : (o : Op) → Agrees (not (open_logged_off o) && eqb (devices d q.user) 0) (WantsDevice o × (devices d q.user ≡ 0))
      both o = agrees_and (wants_device_agrees o) (agrees_eq (devices d q.user) 0)

  -- a question put to each operand of the operation that is named
  operands_agree : (p : Op → ℕ → Kind → Bool) (P : Op → ℕ → Type 0) → ((o : Op) → AllOperands 1 (row_of o).operands (λ k x. Agrees (p o k x) (P o k)))
      → Agrees (of_op q (λ o. some_operand 1 (row_of o).operands (p o))) ((o : Op) × (k : ℕ) × Found q o × Operand o k × P o k)
  operands_agree p P a = agrees_as
      (λ z. let y = (each z.0).to z.2 in (z.0, y.0, z.1, (y.1, omega (arith, y.2, operands_taken z.0)), y.3))
      (λ z. (z.0, z.2, (each z.0).from (z.1, z.3.0, omega (arith, z.3.1, operands_taken z.0), z.4)))
      (of_op_agrees q (λ o. some_operand 1 (row_of o).operands (p o)))
    where
      each : (o : Op) → Agrees (some_operand 1 (row_of o).operands (p o)) ((k : ℕ) × (1 ≤ k) × (k < 1 + length (row_of o).operands) × P o k)
      each o = some_operand_agrees 1 (row_of o).operands (p o) (P o) (a o)

  -- the same, where the kind is not asked for
  positions_agree : (p : Op → ℕ → Bool) (P : Op → ℕ → Type 0) → ((o : Op) (k : ℕ) → Agrees (p o k) (P o k))
      → Agrees (of_op q (λ o. some_operand 1 (row_of o).operands (λ k x. p o k))) ((o : Op) × (k : ℕ) × Found q o × Operand o k × P o k)
  positions_agree p P a =
      operands_agree (λ o k x. p o k) P (λ o. operands_each 1 (row_of o).operands (λ k x. Agrees (p o k) (P o k)) (λ k x. a o k))

  -- Rule 7.7: an operand's reference leads nowhere.
  pub leads_nowhere_agrees : WellFormed d → Agrees (leads_nowhere d q) ((o : Op) × (k : ℕ) × Found q o × Operand o k × Nowhere d (reference_of q k))
  unfolding leads_nowhere asked
  leads_nowhere_agrees w = positions_agree (λ o k. eqb (operand (asked d q) k) 0) (λ o k. Nowhere d (reference_of q k)) (λ o k. go (eqb k 1))
    where
      go : (b : Bool) → Agrees (eqb (pick b (resolve d (names q.first)) (resolve d (names q.second))) 0) (Nowhere d (pick b q.first q.second))
      go true = nowhere_agrees d w (names q.first)
      go false = nowhere_agrees d w (names q.second)

  -- Rule 7.8: an operand does not permit it.
  pub no_access_agrees : Agrees (no_access d q)
      ((o : Op) × (k : ℕ) × Found q o × Operand o k × (Permitted d q.user (number_of o) k (operand (asked d q) k) → ⊥))
  unfolding no_access
  no_access_agrees = positions_agree (λ o k. not (permits d q.user (number_of o) k (operand (asked d q) k)))
      (λ o k. Permitted d q.user (number_of o) k (operand (asked d q) k) → ⊥)
      (λ o k. agrees_not (permits_agrees d q.user (number_of o) k (operand (asked d q) k)))

  -- Rule 7.9: a container on an operand's way is marked and too high.
  pub not_cleared_agrees : Agrees (not_cleared d q) ((o : Op) × (k : ℕ) × Found q o × Operand o k × ((y : ℕ) × Memᴰ y (basis_of (asked d q) k)
      × (d.entity y mark ≢ 0) × (AtMost (d.entity y level) (d.user q.user clearance) → ⊥)))
  unfolding not_cleared Barred
  not_cleared_agrees = positions_agree (λ o k. bars d (d.user q.user clearance) (basis_of (asked d q) k))
      (λ o k. Barred d (d.user q.user clearance) (basis_of (asked d q) k)) (λ o k. bars_agrees d (d.user q.user clearance) (basis_of (asked d q) k))

  -- Rule 7.10: an operand is not what it must be.
  pub wrong_kind_agrees : Agrees (wrong_kind d q) ((o : Op) × (k : ℕ) × Found q o × Operand o k × (Suits o k d (operand (asked d q) k) → ⊥))
  unfolding wrong_kind
  wrong_kind_agrees = operands_agree (λ o k x. not (x d (operand (asked d q) k))) (λ o k. Suits o k d (operand (asked d q) k) → ⊥) (λ o. other o)
    where
      other : (o : Op) → AllOperands 1 (row_of o).operands (λ k x. Agrees (not (x d (operand (asked d q) k))) (Suits o k d (operand (asked d q) k) → ⊥))
      other o = operands_map 1 (row_of o).operands (λ k x. (d : Tables) (e : ℕ) → Agrees (x d e) (Suits o k d e))
          (λ k x. Agrees (not (x d (operand (asked d q) k))) (Suits o k d (operand (asked d q) k) → ⊥))
          (λ k x a. agrees_not (a d (operand (asked d q) k))) (suits_agree o)

  -- Where it does not apply, each operand is.
  pub kinds_suit : (o : Op) → Found q o → T (not (wrong_kind d q)) → (k : ℕ) → Operand o k → Suits o k d (operand (asked d q) k)
  kinds_suit o n t k h = operands_at 1 (row_of o).operands (λ k. Suits o k d (operand (asked d q) k)) suited k h.0 (omega (arith, h.1, operands_taken o))
    where
      suited : AllOperands 1 (row_of o).operands (λ k x. Suits o k d (operand (asked d q) k))
      suited = operands_both 1 (row_of o).operands (λ k x. T (x d (operand (asked d q) k))) (λ k x. (d : Tables) (e : ℕ) → Agrees (x d e) (Suits o k d e))
          (λ k x. Suits o k d (operand (asked d q) k)) (λ k x s a. (a d (operand (asked d q) k)).to s) ((wrong_kind_fails d q o n).to t) (suits_agree o)
