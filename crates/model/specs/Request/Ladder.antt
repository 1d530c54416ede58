-- Document 01, "The refusal ladder"; rule 7: the ladder of refusals, and the answer.
use Rattle.std.specs.Prelude.{Bool, ◌&&◌, ◌||◌, false, not, true, List, [], ◌∷◌, ◌≢◌, ◌≡◌, ◌<◌, suc, zero, ℕ, eqb, leb, ltb}
use Rattle.std.proofs.Math.Option.{none, some}
use Rattle.model.specs.Basics.Choice.{pick}
use Rattle.model.specs.Basics.Tests.{every, imp}
use Rattle.model.specs.Level.{at_most, role_count}
use Rattle.model.specs.Request.Asked.{asked, basis_of, has_role, operand}
use Rattle.model.specs.Request.Conditions.{Condition, Kind, Range, unused}
use Rattle.model.specs.Request.Operations.{Op, Refusal, number_of, op_of, open_logged_off, refuse, row_of}
use Rattle.model.specs.Request.Words.{Reference, Request, name_count}
use Rattle.model.specs.State.Check.{secure_test, well_formed_test}
use Rattle.model.specs.Tables.Rows.{seek}
use Rattle.model.specs.Tables.Words.{Tables, clearance, devices, level, mark, place_count, present, triple_of, triples, user_count}
use Rattle.model.specs.Tables.Words.{who_role}
use Rattle.model.specs.Request.Refusals as refusal

abbrev pub Rung : Type 0
Rung = Tables → Request → Bool

-- a question put to the operation that the request names; the answer is no where it names none
unfoldable pub of_op : Request → (Op → Bool) → Bool
of_op q p = elim (op_of q.operation) [ none ↦ false | some o ↦ p o ]

-- whether p passes for some operand, given its position and the kind asked of it
unfoldable pub some_operand : ℕ → List Kind → (ℕ → Kind → Bool) → Bool
some_operand k [] p = false
some_operand k (x ∷ xs) p = elim (p k x) [ true ↦ true | false ↦ some_operand (suc k) xs p ]

-- Rule 7.2: the tables fail rule 3.
unfoldable pub not_well_formed : Rung
not_well_formed d q = not (well_formed_test d)

-- Rule 7.3: the tables fail rule 4.
unfoldable pub not_secure : Rung
not_secure d q = not (secure_test d)

-- Rule 7.4: the requester is none of the users that are there.
unfoldable pub unknown_user : Rung
unknown_user d q = not ((leb 1 q.user && leb q.user user_count) && not (eqb (d.user q.user present) 0))

-- Rule 7.5: a reference that is used has 1 to 4 names, another none, and the words after its names are zero;
unfoldable pub length_fits : ℕ → List Kind → Reference → Bool
length_fits k [] r = eqb r.length 0
length_fits zero (x ∷ xs) r = leb 1 r.length && leb r.length name_count
length_fits (suc k) (x ∷ xs) r = length_fits k xs r

unfoldable pub names_fit : Reference → Bool
names_fit r = every name_count (λ i. imp (leb r.length i) (eqb (r.name i) 0))

-- the arguments are in their ranges, and zero where they are not used; word 15 is zero.
unfoldable pub range_at : ℕ → List Range → Range
range_at k [] = unused
range_at zero (r ∷ rs) = r
range_at (suc k) (r ∷ rs) = range_at k rs

unfoldable pub fits : Op → Request → Bool
fits o q =
    length_fits 0 (row_of o).operands q.first && (length_fits 1 (row_of o).operands q.second
    && (names_fit q.first && (names_fit q.second
    && (range_at 0 (row_of o).arguments q.a && (range_at 1 (row_of o).arguments q.b && (range_at 2 (row_of o).arguments q.c
    && eqb q.last 0))))))

unfoldable pub not_understood : Rung
not_understood d q = not (of_op q (λ o. fits o q))

-- Rule 7.6: the requester is on no device, and the operation wants one.
unfoldable pub not_logged_on : Rung
not_logged_on d q = of_op q (λ o. not (open_logged_off o) && eqb (devices d q.user) 0)

-- Rule 7.7: an operand's reference leads nowhere.
unfoldable pub leads_nowhere : Rung
leads_nowhere d q = of_op q (λ o. some_operand 1 (row_of o).operands (λ k x. eqb (operand (asked d q) k) 0))

-- Rule 7.8: a triple of e names the user, or a role that the user has now, for this operation and position.
unfoldable pub permits : Tables → ℕ → ℕ → ℕ → ℕ → Bool
permits d u o k e = ltb (seek (triple_of u o k) (triples d e) place_count) place_count
    || not (every role_count (λ r. not (has_role d u r && ltb (seek (triple_of (who_role r) o k) (triples d e) place_count) place_count)))

unfoldable pub no_access : Rung
no_access d q = of_op q (λ o. some_operand 1 (row_of o).operands (λ k x. not (permits d q.user (number_of o) k (operand (asked d q) k))))

-- Rule 7.9: the level of a marked container on the way is not at most the clearance l.
unfoldable pub bars : Tables → ℕ → List ℕ → Bool
bars d l [] = false
bars d l (e ∷ es) = elim (not (eqb (d.entity e mark) 0) && not (at_most (d.entity e level) l)) [ true ↦ true | false ↦ bars d l es ]

unfoldable pub not_cleared : Rung
not_cleared d q = of_op q (λ o. some_operand 1 (row_of o).operands (λ k x. bars d (d.user q.user clearance) (basis_of (asked d q) k)))

-- Rule 7.10: an operand is not of the sort that its row asks.
unfoldable pub wrong_kind : Rung
wrong_kind d q = of_op q (λ o. some_operand 1 (row_of o).operands (λ k x. not (x d (operand (asked d q) k))))

-- the conditions of a row that have the number n
abbrev pub of_number : ℕ → List Refusal → List Condition
of_number n [] = []
of_number n (refuse k c ∷ cs) = pick (eqb k n) (c ∷ of_number n cs) (of_number n cs)

-- whether one of them applies
abbrev pub any_of : List Condition → Condition
any_of [] d s = false
any_of (c ∷ []) d s = c d s
any_of (c ∷ c' ∷ cs) d s = c d s || any_of (c' ∷ cs) d s

-- Rules 7.11 to 7.16: a condition of that number, among the operation's own, applies.
unfoldable pub refused : ℕ → List Refusal → Condition
refused n cs d s = any_of (of_number n cs) d s

unfoldable pub own_rung : ℕ → Rung
own_rung n d q = of_op q (λ o. refused n (row_of o).conditions d (asked d q))

-- the ladder, from 2 on: rung 1 is judged before there are tables
unfoldable pub ladder : List Rung
ladder = not_well_formed ∷ not_secure ∷ unknown_user ∷ not_understood ∷ not_logged_on ∷ leads_nowhere ∷ no_access ∷ not_cleared ∷ wrong_kind
    ∷ own_rung refusal.no_such_user ∷ own_rung refusal.role_missing ∷ own_rung refusal.level_or_roles ∷ own_rung refusal.no_room
    ∷ own_rung refusal.arrangement ∷ own_rung refusal.not_acknowledged ∷ []

-- the number of the first rung that applies, the first of the list being n; 0 where none does
unfoldable pub lowest : ℕ → List Rung → Tables → Request → ℕ
lowest n [] d q = refusal.accepted
lowest n (r ∷ rs) d q = elim (r d q) [ true ↦ n | false ↦ lowest (suc n) rs d q ]

-- Rule 7.0: the answer is the lowest rung that applies, or 0, accepted.
unfoldable pub answer : Tables → Request → ℕ
answer d q = lowest refusal.not_well_formed ladder d q

-- a rung that never applies
unfoldable pub never : Rung
never d q = false

-- the rung at place k of a list, counted from 0
unfoldable pub rung_at : ℕ → List Rung → Rung
rung_at k [] = never
rung_at zero (r ∷ rs) = r
rung_at (suc k) (r ∷ rs) = rung_at k rs

-- whether rung n applies: 2 to 16 are the ladder's
unfoldable pub applies : ℕ → Rung
applies n = rung_at n (never ∷ never ∷ ladder)

-- Rule 7.0 as a statement: a is 0 and no rung applies, or rung a applies and none below it.
pub record IsAnswer (d : Tables) (q : Request) (a : ℕ) : Type 0 where
  pub below : (n : ℕ) → n < a → applies n d q ≡ false
  pub applied : a ≢ refusal.accepted → applies a d q ≡ true
  pub accepted : a ≡ refusal.accepted → (n : ℕ) → applies n d q ≡ false
