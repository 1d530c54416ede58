-- What the step answers where a user asks to show what a reference names (rules 10.2 and 10.3): rung by rung, then in one.
use Rattle.std.specs.Prelude.{Bool, ◌&&◌, ◌||◌, ◌≤◌, suc, ℕ, length}
use Rattle.std.proofs.Math.Bool.{false, not, true}
use mathlib.Core.List.{List, [], ◌∷◌}
use Rattle.std.proofs.Math.Option.{some}
use Rattle.std.proofs.Common.{◌∙◌, ap₂, arith}
use Rattle.std.proofs.Math.Path.{◌≡◌, ap, refl}
use Rattle.std.proofs.Math.Dec.{eqb}
use Rattle.model.specs.Basics.Choice.{pick}
use Rattle.model.specs.Basics.TestLaws.{only}
use Rattle.model.specs.Basics.Tests.{every, imp}
use Rattle.model.specs.Level.{at_most, bit}
use Rattle.model.specs.List.Further.{asker, checked, further}
use Rattle.model.specs.List.Listing.{barred, showing}
use Rattle.model.specs.Request.Asked.{asked, basis_of, operand}
use Rattle.model.specs.Request.Conditions.{Kind, a_sum, between, is_entity, level_of, show_above, show_no_room, show_unlabelled, unused}
use Rattle.model.specs.Request.Ladder.{Rung, answer, bars, fits, ladder, leads_nowhere, length_fits, lowest, names_fit, no_access}
use Rattle.model.specs.Request.Ladder.{not_cleared, not_logged_on, not_secure, not_understood, not_well_formed, of_op, own_rung, permits}
use Rattle.model.specs.Request.Ladder.{range_at, refused, some_operand, unknown_user, wrong_kind}
use Rattle.model.specs.Request.LadderLaws.{lowest_none, of_op_some}
use Rattle.model.proofs.Request.OperationLaws.{number_op_of}
use Rattle.model.specs.Request.Operations.{Op, number_of, op_of, row_of, to_show}
use Rattle.model.specs.Request.Reference.{basis, resolve}
use Rattle.model.specs.Request.Step.{answer_of, sized}
use Rattle.model.specs.Request.Words.{Request, name_count, names, reference_at, request_of}
use Rattle.model.specs.State.Check.{check, judge, secure_test, well_formed_test}
use Rattle.model.specs.State.Secure.{labelled}
use Rattle.model.specs.Tables.Layout.{tables_of, word_count}
use Rattle.model.specs.Tables.Words.{Tables, clearance, devices}
use Rattle.model.specs.Request.Refusals as refusal

-- The sixteen words name the reference, and are in the form that show asks.
showing_names : (u : ℕ) (r : List ℕ) → length r ≤ name_count → names (request_of (showing u r)).first ≡ r
unfolding names request_of reference_at showing
showing_names u [] h = refl
showing_names u (a ∷ []) h = refl
showing_names u (a ∷ b ∷ []) h = refl
showing_names u (a ∷ b ∷ c ∷ []) h = refl
showing_names u (a ∷ b ∷ c ∷ e ∷ []) h = refl
showing_names u (a ∷ b ∷ c ∷ e ∷ f ∷ r) h = absurd (omega arith)

showing_fits : (u : ℕ) (r : List ℕ) → 1 ≤ length r → length r ≤ name_count → fits to_show (request_of (showing u r)) ≡ true
unfolding fits length_fits names_fit range_at a_sum between unused every imp request_of reference_at showing
showing_fits u [] l h = absurd (omega arith)
showing_fits u (a ∷ []) l h = refl
showing_fits u (a ∷ b ∷ []) l h = refl
showing_fits u (a ∷ b ∷ c ∷ []) l h = refl
showing_fits u (a ∷ b ∷ c ∷ e ∷ []) l h = refl
showing_fits u (a ∷ b ∷ c ∷ e ∷ f ∷ r) l h = absurd (omega arith)

-- a question put to the only operand
one_operand : (k : ℕ) (x : Kind) (p : ℕ → Kind → Bool) → some_operand k (x ∷ []) p ≡ p k x
unfolding some_operand
one_operand k x p = only (p k x)

-- the lowest of a list of rungs, from the first of them and the lowest of the others
lowest_first : (n : ℕ) (x : Rung) (xs : List Rung) (d : Tables) (q : Request) (b : Bool) (m : ℕ) → x d q ≡ b → lowest (suc n) xs d q ≡ m
    → lowest n (x ∷ xs) d q ≡ pick b n m
unfolding lowest
lowest_first n x xs d q b m e f = ap₂ (λ (c : Bool) (k : ℕ). elim c [ true ↦ n | false ↦ k ]) e f ∙ go b
  where
    go : (c : Bool) → elim c [ true ↦ n | false ↦ m ] ≡ pick c n m
    go true = refl
    go false = refl

module _ (d : Tables) (u : ℕ) (r : List ℕ) (low : 1 ≤ length r) (high : length r ≤ name_count) where
  -- what is asked, and of which entity
  q : Request
  q = request_of (showing u r)

  named : op_of q.operation ≡ some to_show
  unfolding q request_of showing
  named = number_op_of to_show

  shown_entity : operand (asked d q) 1 ≡ resolve d r
  unfolding q asked
  shown_entity = ap (resolve d) (showing_names u r high)

  -- a question put to the operands of show
  shown_operand : (p : Op → ℕ → Kind → Bool) → of_op q (λ o. some_operand 1 (row_of o).operands (p o)) ≡ p to_show 1 is_entity
  shown_operand p = of_op_some q to_show named (λ o. some_operand 1 (row_of o).operands (p o)) ∙ one_operand 1 is_entity (p to_show)

  -- The rungs of that request, one by one; 4 and 6 do not ask for the reference.
  rung2 : not_well_formed d q ≡ not (well_formed_test d)
  unfolding not_well_formed
  rung2 = refl

  rung3 : not_secure d q ≡ not (secure_test d)
  unfolding not_secure
  rung3 = refl

  rung4 : unknown_user d q ≡ unknown_user d (request_of (showing u []))
  unfolding unknown_user q request_of showing
  rung4 = refl

  rung6 : not_logged_on d q ≡ not_logged_on d (request_of (showing u []))
  unfolding not_logged_on of_op q request_of showing
  rung6 = refl

  rung5 : not_understood d q ≡ false
  unfolding not_understood q
  rung5 = ap not (of_op_some q to_show named (λ o. fits o q) ∙ showing_fits u r low high)

  rung7 : leads_nowhere d q ≡ eqb (resolve d r) 0
  unfolding leads_nowhere
  rung7 = shown_operand (λ o k x. eqb (operand (asked d q) k) 0) ∙ ap (λ (e : ℕ). eqb e 0) shown_entity

  rung8 : no_access d q ≡ not (permits d u (number_of to_show) 1 (resolve d r))
  unfolding no_access q request_of showing
  rung8 = shown_operand (λ o k x. not (permits d u (number_of o) k (operand (asked d q) k)))
      ∙ ap (λ (e : ℕ). not (permits d u (number_of to_show) 1 e)) shown_entity

  rung9 : not_cleared d q ≡ bars d (d.user u clearance) (basis d r)
  unfolding not_cleared q request_of showing asked
  rung9 = shown_operand (λ o k x. bars d (d.user u clearance) (basis_of (asked d q) k))
      ∙ ap (λ (ns : List ℕ). bars d (d.user u clearance) (basis d ns)) (showing_names u r high)

  rung10 : wrong_kind d q ≡ not (is_entity d (resolve d r))
  unfolding wrong_kind
  rung10 = shown_operand (λ o k x. not (x d (operand (asked d q) k))) ∙ ap (λ (e : ℕ). not (is_entity d e)) shown_entity

  own_rung_lem : (n : ℕ) (b : Bool) → refused n (row_of to_show).conditions d (asked d q) ≡ b → own_rung n d q ≡ b
  unfolding own_rung
  own_rung_lem n b e = of_op_some q to_show named (λ o. refused n (row_of o).conditions d (asked d q)) ∙ e

  rung13 : own_rung refusal.level_or_roles d q
      ≡ not (at_most (level_of d (resolve d r)) (d.user u clearance)) || not (at_most (level_of d (resolve d r)) (level_of d (devices d u)))
  unfolding refused show_above asked q request_of showing
  rung13 = own_rung_lem refusal.level_or_roles _ (ap (λ (ns : List ℕ). not (at_most (level_of d (resolve d ns)) (d.user u clearance))
      || not (at_most (level_of d (resolve d ns)) (level_of d (devices d u)))) (showing_names u r high))

  rung15 : own_rung refusal.arrangement d q ≡ false
  unfolding refused show_unlabelled labelled imp bit asked q request_of showing
  rung15 = own_rung_lem refusal.arrangement false refl

  rung14 : own_rung refusal.no_room d q ≡ show_no_room d (asked d q)
  unfolding refused
  rung14 = own_rung_lem refusal.no_room (show_no_room d (asked d q)) refl

  -- so the whole ladder
  show_ladder : answer d q ≡ pick (not (well_formed_test d)) refusal.not_well_formed (pick (not (secure_test d)) refusal.not_secure
      (asker (unknown_user d (request_of (showing u []))) (not_logged_on d (request_of (showing u []))) (further d u r)))
  unfolding answer ladder refused further q
  show_ladder =
      lowest_first refusal.not_well_formed not_well_formed _ d q _ _ rung2 (
      lowest_first refusal.not_secure not_secure _ d q _ _ rung3 (
      lowest_first refusal.unknown_requester unknown_user _ d q _ _ rung4 (
      lowest_first refusal.bad_request not_understood _ d q _ _ rung5 (
      lowest_first refusal.not_logged_on not_logged_on _ d q _ _ rung6 (
      lowest_first refusal.no_such_name leads_nowhere _ d q _ _ rung7 (
      lowest_first refusal.no_access no_access _ d q _ _ rung8 (
      lowest_first refusal.marked not_cleared _ d q _ _ rung9 (
      lowest_first refusal.wrong_kind wrong_kind _ d q _ _ rung10 (
      lowest_first refusal.no_such_user (own_rung refusal.no_such_user) _ d q _ _ (own_rung_lem refusal.no_such_user false refl) (
      lowest_first refusal.role_missing (own_rung refusal.role_missing) _ d q _ _ (own_rung_lem refusal.role_missing false refl) (
      lowest_first refusal.level_or_roles (own_rung refusal.level_or_roles) _ d q _ _ rung13 (
      lowest_first refusal.no_room (own_rung refusal.no_room) _ d q _ _ rung14 (
      lowest_first refusal.arrangement (own_rung refusal.arrangement) _ d q _ _ rung15 (
      lowest_first refusal.not_acknowledged (own_rung refusal.not_acknowledged) [] d q _ _ (own_rung_lem refusal.not_acknowledged false refl) (
      lowest_none refusal.too_short [] d q tt)))))))))))))))

module _ (t : List ℕ) (u : ℕ) (r : List ℕ) (low : 1 ≤ length r) (high : length r ≤ name_count) where
  -- Of words: one of the list's own refusals, or a further rung.
  pub show_answer : answer_of t (showing u r) ≡ pick (eqb (barred t u) refusal.accepted) (further (tables_of t) u r) (barred t u)
  unfolding answer_of sized barred check judge q showing
  show_answer = ap (λ (n : ℕ). pick (sized t (showing u r)) n refusal.bad_length) (show_ladder (tables_of t) u r low high)
      ∙ go (eqb (length t) word_count) (well_formed_test (tables_of t)) (secure_test (tables_of t)) (unknown_user (tables_of t) (request_of (showing u [])))
      (not_logged_on (tables_of t) (request_of (showing u []))) (further (tables_of t) u r)
    where
      go : (a w s k o : Bool) (n : ℕ) → ◌≡◌ {A = ℕ}
          (pick (a && true) (pick (not w) refusal.not_well_formed (pick (not s) refusal.not_secure (asker k o n))) refusal.bad_length)
          (pick (eqb (pick (eqb (checked a w s) refusal.accepted) (asker k o refusal.accepted) (checked a w s)) refusal.accepted) n
          (pick (eqb (checked a w s) refusal.accepted) (asker k o refusal.accepted) (checked a w s)))
      go true true true true o n = refl
      go true true true false true n = refl
      go true true true false false n = refl
      go true true false k o n = refl
      go true false s k o n = refl
      go false w s k o n = refl
