-- An operation and its number are one thing (rule 6).
use Rattle.std.specs.Prelude.{Bool, ◌&&◌, false, not, true, List, [], ◌∷◌, ◌⊎◌, ◌≡◌, refl, ◌≤◌, ℕ, T, eqb, leb}
use Rattle.std.proofs.Common.{inl, inr, ◌∙◌, ap, sym, arith}
use Rattle.std.proofs.Math.Option.{none, some}
use Rattle.model.specs.Basics.Agree.{Agrees, agrees_and, agrees_as, agrees_eq, agrees_le, agrees_not, agrees_or}
use Rattle.model.specs.Basics.Choice.{Same, it, other, same}
use Rattle.model.specs.Request.Allowed.{WantsDevice}
use Rattle.model.specs.Request.Form.{Names}
use Rattle.model.specs.Request.Operations.{Op, number_of, op_of, open_logged_off, operations, to_acknowledge, to_authorised, to_clear}
use Rattle.model.specs.Request.Operations.{to_clearance, to_copy, to_create, to_current, to_delete, to_device_level, to_edit, to_grant}
use Rattle.model.specs.Request.Operations.{to_level, to_login, to_logout, to_mark, to_maximum, to_move, to_release, to_revoke, to_show}
use Rattle.model.specs.Request.Operations.{with_number}
use Rattle.model.specs.Request.Words.{Request}
use Rattle.model.specs.Tables.Words.{operation_count}

-- the operation found has the number that was sought
with_number_sound : (n : ℕ) (os : List Op) (o : Op) → with_number n os ≡ some o → number_of o ≡ n
unfolding with_number
with_number_sound n [] o e = absurd (none_some e)
  where
    none_some : none ≡ some o → ⊥
    none_some e = let z : ◌≡◌ {A = ℕ} 0 1 = cc in omega arith
with_number_sound n (p ∷ os) o e = go (eqb (number_of p) n) (same (number_of p) n) e (with_number_sound n os o)
  where
    go : (b : Bool) → Same (number_of p) n b → elim b [ true ↦ some p | false ↦ with_number n os ] ≡ some o
        → (with_number n os ≡ some o → number_of o ≡ n) → number_of o ≡ n
    go true (it q) e ih = let z : p ≡ o = cc in ap number_of (sym z) ∙ q
    go false (other q) e ih = ih e

pub op_of_number : (n : ℕ) (o : Op) → op_of n ≡ some o → number_of o ≡ n
unfolding op_of
op_of_number n o e = with_number_sound n operations o e

-- every operation is found by its number
pub number_op_of : (o : Op) → op_of (number_of o) ≡ some o
unfolding op_of with_number operations
number_op_of to_create = refl
number_op_of to_delete = refl
number_op_of to_move = refl
number_op_of to_edit = refl
number_op_of to_copy = refl
number_op_of to_level = refl
number_op_of to_mark = refl
number_op_of to_grant = refl
number_op_of to_revoke = refl
number_op_of to_show = refl
number_op_of to_clear = refl
number_op_of to_login = refl
number_op_of to_logout = refl
number_op_of to_current = refl
number_op_of to_clearance = refl
number_op_of to_authorised = refl
number_op_of to_maximum = refl
number_op_of to_device_level = refl
number_op_of to_release = refl
number_op_of to_acknowledge = refl

-- the operation that is found by the number of a request
abbrev pub Found : Request → Op → Type 0
Found q o = op_of q.operation ≡ some o

-- is the one that the request names.
pub found_names : (q : Request) (o : Op) → Found q o → Names q o
found_names q o e = sym (op_of_number q.operation o e)

pub names_found : (q : Request) (o : Op) → Names q o → Found q o
names_found q o e = ap op_of e ∙ number_op_of o

-- two operations of one number are one
pub number_injective : (o p : Op) → number_of o ≡ number_of p → o ≡ p
number_injective o p e = let z : some o ≡ some p = sym (number_op_of o) ∙ ap op_of e ∙ number_op_of p in cc

-- the numbers are 1 to 20
pub number_range : (o : Op) → (1 ≤ number_of o) × (number_of o ≤ operation_count)
number_range o = (agrees_and (agrees_le 1 (number_of o)) (agrees_le (number_of o) operation_count)).to (go o)
  where
    go : (o : Op) → T (leb 1 (number_of o) && leb (number_of o) operation_count)
    go to_create = tt
    go to_delete = tt
    go to_move = tt
    go to_edit = tt
    go to_copy = tt
    go to_level = tt
    go to_mark = tt
    go to_grant = tt
    go to_revoke = tt
    go to_show = tt
    go to_clear = tt
    go to_login = tt
    go to_logout = tt
    go to_current = tt
    go to_clearance = tt
    go to_authorised = tt
    go to_maximum = tt
    go to_device_level = tt
    go to_release = tt
    go to_acknowledge = tt

-- Rule 7.6: the test that an operation is closed to who is logged off says its statement.
pub wants_device_agrees : (o : Op) → Agrees (not (open_logged_off o)) (WantsDevice o)
wants_device_agrees o = agrees_as (λ f. (λ e. f (inl (ap number_of e)), λ e. f (inr (ap number_of e)))) (λ z. either z)
    (agrees_not (agrees_or (agrees_eq (number_of o) (number_of to_login)) (agrees_eq (number_of o) (number_of to_acknowledge))))
  where
    either : WantsDevice o → (number_of o ≡ number_of to_login) ⊎ (number_of o ≡ number_of to_acknowledge) → ⊥
    either z (inl e) = z.0 (number_injective o to_login e)
    either z (inr e) = z.1 (number_injective o to_acknowledge e)

-- show, clear and logout want a device
pub show_wants : WantsDevice to_show
show_wants = (wants_device_agrees to_show).to tt

pub clear_wants : WantsDevice to_clear
clear_wants = (wants_device_agrees to_clear).to tt

pub logout_wants : WantsDevice to_logout
logout_wants = (wants_device_agrees to_logout).to tt
