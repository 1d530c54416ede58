-- The test of a request's form and its statement agree (rules 5.4 and 7.5).
use Rattle.std.specs.Prelude.{Bool, ◌&&◌, false, true, List, [], ◌∷◌, ◌≡◌, refl, ◌<◌, ◌≤◌, suc, zero, ℕ, length}
use Rattle.std.proofs.Common.{arith}
use Rattle.model.specs.Basics.Agree.{Agrees, agreement, agrees_and, agrees_as, agrees_eq, agrees_le}
use Rattle.model.proofs.Request.ConditionLaws.{between_agrees}
use Rattle.model.specs.Request.Conditions.{Kind, a_flag, a_level, a_position, a_sort, a_sum, a_user, a_who, an_operation, free, some_roles}
use Rattle.model.specs.Request.Conditions.{unused}
use Rattle.model.specs.Request.Form.{Fits, InRange, Referred, taken}
use Rattle.model.specs.Request.Ladder.{fits, length_fits, names_fit, range_at}
use Rattle.model.specs.Request.Operations.{Op, row_of, to_acknowledge, to_authorised, to_clear, to_clearance, to_copy, to_create, to_current}
use Rattle.model.specs.Request.Operations.{to_delete, to_device_level, to_edit, to_grant, to_level, to_login, to_logout, to_mark, to_maximum}
use Rattle.model.specs.Request.Operations.{to_move, to_release, to_revoke, to_show}
use Rattle.model.specs.Request.Words.{Reference, Request, name_count}

-- The name words after a reference's length are zero.
pub names_agree : (r : Reference) → Agrees (names_fit r) ((i : ℕ) → i < name_count → r.length ≤ i → r.name i ≡ 0)
unfolding names_fit
names_agree r = search agreement

-- A reference is tested by how many operands the row lists.
reference_agrees : (k : ℕ) (xs : List Kind) (r : Reference) → Agrees (length_fits k xs r && names_fit r) (Referred (suc k) (length xs) r)
unfolding length_fits
reference_agrees k [] r = agrees_as (λ z. (λ h. absurd (omega arith), λ h. (z.0, λ i l. z.1 i l (omega (arith, z.0)))))
    (λ f. let u = f.1 (omega arith) in (u.0, λ i l h. u.1 i l)) (agrees_and (agrees_eq r.length 0) (names_agree r))
reference_agrees zero (x ∷ xs) r = agrees_as (λ z. (λ h. (z.0.0, z.0.1, z.1), λ h. absurd (omega arith)))
    (λ f. let u = f.0 (omega arith) in ((u.0, u.1), u.2))
    (agrees_and (agrees_and (agrees_le 1 r.length) (agrees_le r.length name_count)) (names_agree r))
reference_agrees (suc k) (x ∷ xs) r = agrees_as (λ z. (λ h. z.0 (omega arith), λ h. z.1 (omega arith)))
    (λ z. (λ h. z.0 (omega arith), λ h. z.1 (omega arith))) (reference_agrees k xs r)

-- The operations' table lists as many operands as each takes.
pub operands_taken : (o : Op) → length (row_of o).operands ≡ taken o
operands_taken to_create = refl
operands_taken to_delete = refl
operands_taken to_move = refl
operands_taken to_edit = refl
operands_taken to_copy = refl
operands_taken to_level = refl
operands_taken to_mark = refl
operands_taken to_grant = refl
operands_taken to_revoke = refl
operands_taken to_show = refl
operands_taken to_clear = refl
operands_taken to_login = refl
operands_taken to_logout = refl
operands_taken to_current = refl
operands_taken to_clearance = refl
operands_taken to_authorised = refl
operands_taken to_maximum = refl
operands_taken to_device_level = refl
operands_taken to_release = refl
operands_taken to_acknowledge = refl

-- The ranges in the operations' table are those that each asks (rules 6.1 to 6.20).
ranges_agree : (o : Op) (a b c : ℕ)
    → Agrees (range_at 0 (row_of o).arguments a && (range_at 1 (row_of o).arguments b && range_at 2 (row_of o).arguments c)) (InRange o a b c)
unfolding range_at free unused a_level some_roles a_user a_sort a_flag a_sum a_who an_operation a_position
ranges_agree to_create a b c = search (agreement, between_agrees)
ranges_agree to_delete a b c = search agreement
ranges_agree to_move a b c = search agreement
ranges_agree to_edit a b c = agrees_and (agrees_eq b 0) (agrees_eq c 0)
ranges_agree to_copy a b c = search agreement
ranges_agree to_level a b c = search agreement
ranges_agree to_mark a b c = search agreement
ranges_agree to_grant a b c = search (agreement, between_agrees)
ranges_agree to_revoke a b c = search (agreement, between_agrees)
ranges_agree to_show a b c = search (agreement, between_agrees)
ranges_agree to_clear a b c = search agreement
ranges_agree to_login a b c = search agreement
ranges_agree to_logout a b c = search agreement
ranges_agree to_current a b c = search (agreement, between_agrees)
ranges_agree to_clearance a b c = search (agreement, between_agrees)
ranges_agree to_authorised a b c = search (agreement, between_agrees)
ranges_agree to_maximum a b c = search agreement
ranges_agree to_device_level a b c = search agreement
ranges_agree to_release a b c = search agreement
ranges_agree to_acknowledge a b c = search agreement

-- The test asks both lengths before the names of both,
agrees_across : (x y z u : Bool) {v : Bool} {P Q R : Type 0} → Agrees (x && z) P → Agrees (y && u) Q → Agrees v R
    → Agrees (x && (y && (z && (u && v)))) (P × (Q × R))
agrees_across true true z u p q r = agrees_and p (agrees_and q r)
agrees_across true false true u p q r = agrees_and p (agrees_and q r)
agrees_across true false false u p q r = agrees_and p (agrees_and q r)
agrees_across false y z u p q r = agrees_and p (agrees_and q r)

-- and the arguments in one row with the last word.
agrees_after : (x y z : Bool) {u : Bool} {P Q : Type 0} → Agrees (x && (y && z)) P → Agrees u Q → Agrees (x && (y && (z && u))) (P × Q)
agrees_after true true z p q = agrees_and p q
agrees_after true false z p q = agrees_and p q
agrees_after false y z p q = agrees_and p q

-- Rules 5.4 and 7.5: the test of a request's form says that it fits.
pub fits_agrees : (o : Op) (q : Request) → Agrees (fits o q) (Fits o q)
unfolding fits
fits_agrees o q = agrees_as (λ z. record { first = z.0; second = z.1.0; arguments = z.1.1.0; last = z.1.1.1 })
    (λ f. (f.first, (f.second, (f.arguments, f.last))))
    (agrees_across (length_fits 0 (row_of o).operands q.first) (length_fits 1 (row_of o).operands q.second)
    (names_fit q.first) (names_fit q.second)
    (rw (operands_taken o) at (reference_agrees 0 (row_of o).operands q.first))
    (rw (operands_taken o) at (reference_agrees 1 (row_of o).operands q.second))
    (agrees_after (range_at 0 (row_of o).arguments q.a) (range_at 1 (row_of o).arguments q.b) (range_at 2 (row_of o).arguments q.c)
    (ranges_agree o q.a q.b q.c) (agrees_eq q.last 0)))
