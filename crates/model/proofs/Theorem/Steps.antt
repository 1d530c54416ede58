-- The step on words (rules 7.1 and 8): what it answers and leaves, of any two lists of words, and that what was well-formed and secure stays so.
use Rattle.std.specs.Prelude.{Bool, false, not, true, List, [], ◌∷◌, ◌≢◌, ◌≡◌, refl, ◌<◌, ◌≤◌, ℕ, T, eqb, length}
use Rattle.std.proofs.Math.Option.{some}
use Rattle.std.proofs.Common.{◌∙◌, ap, subst, sym, arith, eqb→eq}
use Rattle.model.specs.Basics.Agree.{Agrees, agrees_and, agrees_eq, agrees_not}
use Rattle.model.specs.Basics.Cases.{cases, lt_or_le}
use Rattle.model.specs.Basics.Choice.{Same, it, other, pick, same}
use Rattle.model.specs.Basics.Fails.{fails_holds}
use Rattle.model.specs.Basics.TestLaws.{is_false, is_true, pick_false, pick_true}
use Rattle.model.specs.List.Further.{checked}
use Rattle.model.specs.Request.After.{after}
use Rattle.model.proofs.Request.AfterLaws.{after_accepted, after_each, after_noticed}
use Rattle.model.specs.Request.Allowed.{Accepted, Known}
use Rattle.model.specs.Request.Asked.{asked}
use Rattle.model.specs.Request.Ladder.{answer, applies, ladder, never, rung_at, unknown_user}
use Rattle.model.specs.Request.LadderLaws.{answer_is, judge_answer}
use Rattle.model.specs.Request.Operations.{Op, op_of}
use Rattle.model.proofs.Request.RungLaws.{unknown_user_fails}
use Rattle.model.specs.Request.Step.{after_of, answer_of, sized}
use Rattle.model.specs.Request.Words.{Request, request_of, request_words}
use Rattle.model.specs.State.Agree.{well_formed_bounded}
use Rattle.model.specs.State.AgreeSecure.{check_agrees, check_other, check_tables}
use Rattle.model.specs.State.Check.{check, judge, secure_test, well_formed_test}
use Rattle.model.specs.State.Secure.{Good}
use Rattle.model.specs.Tables.Layout.{Bounded, tables_of, word_count}
use Rattle.model.specs.Tables.LayoutLaws.{bounded}
use Rattle.model.specs.Tables.Words.{Tables, first_noticed}
use Rattle.model.specs.Tables.WordsOf.{words_of}
use Rattle.model.specs.Tables.WordsOfLaws.{tables_of_words_of, words_of_length, words_of_tables_of}
use Rattle.model.proofs.Theorem.Acceptance.{accepted, accepted_good, judged}
use Rattle.model.proofs.Theorem.Changed.{accepted_framed}
use Rattle.model.specs.Theorem.Definitions.{Obeys, Quiet}
use Rattle.model.proofs.Theorem.Kept.{request_good}
use Rattle.model.specs.Theorem.MayChange.{Frame}
use Rattle.model.specs.Theorem.Statements.{after_words}
use Rattle.model.proofs.Theorem.System.{request_obeys}
use Rattle.model.proofs.Theorem.Unchanged.{high_refusal_quiet, low_refusal}
use Rattle.model.specs.Request.Refusals as refusal

-- Rule 7.1: what a step on lists of the right sizes is.
pub sized_agrees : (t q : List ℕ) → Agrees (sized t q) ((length t ≡ word_count) × (length q ≡ request_words))
unfolding sized
sized_agrees t q = agrees_and (agrees_eq (length t) word_count) (agrees_eq (length q) request_words)

-- Other sizes are answered 1, and nothing changes.
pub unsized : (t q : List ℕ) → T (not (sized t q)) → (answer_of t q ≡ refusal.bad_length) × (after_of t q ≡ t)
unfolding answer_of after_of
unsized t q n = (
  pick_false (sized t q) (answer (tables_of t) (request_of q)) refusal.bad_length n,
  pick_false (sized t q) (words_of (after (tables_of t) (request_of q)))
      t n,
)

-- On lists of the right sizes the step is the ladder's.
pub answer_of_sized : (t q : List ℕ) → T (sized t q) → answer_of t q ≡ answer (tables_of t) (request_of q)
unfolding answer_of
answer_of_sized t q h = pick_true (sized t q) (answer (tables_of t) (request_of q)) refusal.bad_length h

pub after_of_sized : (t q : List ℕ) → T (sized t q) → after_of t q ≡ words_of (after (tables_of t) (request_of q))
unfolding after_of
after_of_sized t q h = pick_true (sized t q) (words_of (after (tables_of t) (request_of q))) t h

-- A request leaves tables of words.
pub after_bounded : (d : Tables) → Bounded d → (q : Request) → Bounded (after d q)
after_bounded d b q = after_each d q Bounded
    (λ e. subst Bounded (after_accepted d q e) (left_good (accepted_good d q e b)))
    (λ l h. b)
    (λ l. subst Bounded (after_noticed d q (answer d q) refl l)
    (left_good (judged d q b ((answer_is d q).below refusal.not_well_formed (omega arith)) ((answer_is d q).below refusal.not_secure (omega arith)))))
  where
    left_good : Good d → Bounded (after d q)
    left_good g = well_formed_bounded (after d q) (request_good d g q).0

-- The words afterwards are the tables afterwards.
pub after_of_tables : (t q : List ℕ) → T (sized t q) → tables_of (after_of t q) ≡ after (tables_of t) (request_of q)
after_of_tables t q h =
    ap tables_of (after_of_sized t q h) ∙ tables_of_words_of (after (tables_of t) (request_of q)) (after_bounded (tables_of t) (bounded t) (request_of q))

pub after_of_length : (t q : List ℕ) → length (after_of t q) ≡ length t
unfolding after_of
after_of_length t q = go (sized t q) (sized_agrees t q).to
  where
    go : (b : Bool) → (T b → (length t ≡ word_count) × (length q ≡ request_words))
        → length (pick b (words_of (after (tables_of t) (request_of q))) t) ≡ length t
    go true f = words_of_length (after (tables_of t) (request_of q)) ∙ sym (f tt).0
    go false f = refl

-- Refusals 1 to 4 leave every word.
pub low_refusal_words : (t q : List ℕ) → refusal.bad_length ≤ answer_of t q → answer_of t q < first_noticed → after_of t q ≡ t
low_refusal_words t q l h = go (sized t q) refl
  where
    go : (b : Bool) → sized t q ≡ b → after_of t q ≡ t
    go true e =
        let s = is_true (sized t q) e in
        let a = answer_of_sized t q s in
        after_of_sized t q s ∙ ap words_of (low_refusal (tables_of t) (request_of q) (omega arith) (omega arith)) ∙ words_of_tables_of t
        ((sized_agrees t q).to s).0
    go false e = (unsized t q (is_false (sized t q) e)).1

-- Words that pass the state check pass it again after any request at all.
pub check_kept : (t q : List ℕ) → check t ≡ refusal.accepted → check (after_of t q) ≡ refusal.accepted
check_kept t q e = go (sized t q) refl
  where
    now : (length t ≡ word_count) × Good (tables_of t)
    now = (check_agrees t).to ((agrees_eq (check t) refusal.accepted).from e)

    go : (b : Bool) → sized t q ≡ b → check (after_of t q) ≡ refusal.accepted
    go true z =
        let s = is_true (sized t q) z in
        eqb→eq (check (after_of t q)) refusal.accepted ((check_agrees (after_of t q)).from (
          after_of_length t q ∙ now.0,
          subst Good (sym (after_of_tables t q s)) (request_good (tables_of t) now.1 (request_of q)),
        ))
    go false z = ap check (unsized t q (is_false (sized t q) z)).1 ∙ e

-- and so after every finite history of requests.
pub history_checked : (t : List ℕ) (qs : List (List ℕ)) → check t ≡ refusal.accepted → check (after_words t qs) ≡ refusal.accepted
unfolding after_words
history_checked t [] e = e
history_checked t (q ∷ qs) e = history_checked (after_of t q) qs (check_kept t q e)

-- Definitions 5 to 11 of words: whatever the 2,304 words of tables and the sixteen of a request, the step obeys them.
pub words_obey : (t q : List ℕ) → T (sized t q) → Obeys (tables_of t) (request_of q) (tables_of (after_of t q))
words_obey t q h = subst (Obeys (tables_of t) (request_of q)) (sym (after_of_tables t q h)) (request_obeys (tables_of t) (bounded t) (request_of q))

-- An answer 0 of words gives every condition that the effect relies on.
pub words_accepted : (t q : List ℕ) → answer_of t q ≡ refusal.accepted → (o : Op) × Accepted o (tables_of t) (request_of q)
words_accepted t q e = go (sized t q) refl
  where
    go : (b : Bool) → sized t q ≡ b → (o : Op) × Accepted o (tables_of t) (request_of q)
    go true z =
        let a = sym (answer_of_sized t q (is_true (sized t q) z)) ∙ e in
        accepted (tables_of t) (request_of q) a (accepted_good (tables_of t) (request_of q) a (bounded t)).0
    go false z = absurd (omega (arith, (unsized t q (is_false (sized t q) z)).0))

-- Words that fail the state check are answered with its number, whatever is asked.
pub check_answer : (t q : List ℕ) → T (sized t q) → check t ≢ refusal.accepted → answer_of t q ≡ check t
check_answer t q h n =
    let c = check_tables t ((sized_agrees t q).to h).0 in
    answer_of_sized t q h ∙ judge_answer (tables_of t) (request_of q) (λ z. n (c ∙ z)) ∙ sym c

-- The state check answers 0 to 3.
pub check_range : (t : List ℕ) → check t ≤ refusal.not_secure
unfolding check judge
check_range t = go (eqb (length t) word_count) (well_formed_test (tables_of t)) (secure_test (tables_of t))
  where
    go : (a w s : Bool) → checked a w s ≤ refusal.not_secure
    go true true true = omega arith
    go true true false = omega arith
    go true false s = omega arith
    go false w s = omega arith

-- Words that fail the state check, however many there are, are answered with its number by any request of sixteen words, and stay.
pub check_refuses : (t q : List ℕ) → length q ≡ request_words → check t ≢ refusal.accepted → (answer_of t q ≡ check t) × (after_of t q ≡ t)
check_refuses t q h n = go (eqb (length t) word_count) (same (length t) word_count)
  where
    go : (b : Bool) → Same (length t) word_count b → (answer_of t q ≡ check t) × (after_of t q ≡ t)
    go true (it e) =
        let a = check_answer t q ((sized_agrees t q).from (e, h)) n in
        (a, low_refusal_words t q (omega (arith, n)) (omega (arith, check_range t)))
    go false (other m) =
        let u = unsized t q ((agrees_not (sized_agrees t q)).from (λ z. m z.0)) in
        (u.0 ∙ sym (check_other t m), u.1)

-- What the state check says of words stays so, whatever is asked.
pub check_stays : (t q : List ℕ) → check (after_of t q) ≡ check t
check_stays t q = go (eqb (check t) refusal.accepted) (same (check t) refusal.accepted)
  where
    go : (b : Bool) → Same (check t) refusal.accepted b → check (after_of t q) ≡ check t
    go true (it e) = check_kept t q e ∙ sym e
    go false (other n) = ap check (kept (eqb (length q) request_words) (same (length q) request_words))
      where
        kept : (b : Bool) → Same (length q) request_words b → after_of t q ≡ t
        kept true (it e) = (check_refuses t q e n).1
        kept false (other m) = (unsized t q ((agrees_not (sized_agrees t q)).from (λ z. m z.1))).1

-- and so after every list of requests.
pub list_stays : (t : List ℕ) (qs : List (List ℕ)) → check (after_words t qs) ≡ check t
unfolding after_words
list_stays t [] = refl
list_stays t (q ∷ qs) = list_stays (after_of t q) qs ∙ check_stays t q

-- A request of a number that is no user's, as 0, changes no word (rules 7.4 and 8.1).
four_applies : (d : Tables) (q : Request) → (Known d q.user → ⊥) → applies refusal.unknown_requester d q ≡ true
unfolding applies rung_at never ladder
four_applies d q n = fails_holds (unknown_user d q) (unknown_user_fails d q) n

pub nobody_words : (t q : List ℕ) → (request_of q).user ≡ 0 → after_of t q ≡ t
nobody_words t q e = go (sized t q) refl
  where
    d : Tables
    d = tables_of t

    four : applies refusal.unknown_requester d (request_of q) ≡ true
    four = four_applies d (request_of q) (λ k. omega (arith, k.low))

    clash : {C : Type 0} → applies refusal.unknown_requester d (request_of q) ≡ false → C
    clash h = let z : true ≡ false = sym four ∙ h in let y : ◌≡◌ {A = ℕ} 0 1 = cc in absurd (omega arith)

    low : (refusal.bad_length ≤ answer d (request_of q)) × (answer d (request_of q) < first_noticed)
    low = (
      cases (lt_or_le refusal.accepted (answer d (request_of q))) (λ h. h)
          (λ h. clash ((answer_is d (request_of q)).accepted (omega arith) refusal.unknown_requester)),
      cases (lt_or_le refusal.unknown_requester (answer d (request_of q))) (λ h. clash ((answer_is d (request_of q)).below refusal.unknown_requester h))
          (λ h. omega arith),
    )

    go : (b : Bool) → sized t q ≡ b → after_of t q ≡ t
    go true z =
        let a = answer_of_sized t q (is_true (sized t q) z) in
        low_refusal_words t q (omega (arith, low.0)) (omega (arith, low.1))
    go false z = (unsized t q (is_false (sized t q) z)).1

-- Refusals 5 to 16 change the requester's notice in the words, and nothing else.
pub high_refusal_words : (t q : List ℕ) → first_noticed ≤ answer_of t q → Quiet (tables_of t) (request_of q).user (tables_of (after_of t q))
high_refusal_words t q h = go (sized t q) refl
  where
    go : (b : Bool) → sized t q ≡ b → Quiet (tables_of t) (request_of q).user (tables_of (after_of t q))
    go true z =
        let s = is_true (sized t q) z in
        let a = answer_of_sized t q s in
        subst (Quiet (tables_of t) (request_of q).user) (sym (after_of_tables t q s)) (high_refusal_quiet (tables_of t) (request_of q) (omega arith))
    go false z = absurd (omega (arith, (unsized t q (is_false (sized t q) z)).0))

-- An accepted request changes, in the words, the words of its row and no others.
pub words_framed : (t q : List ℕ) → answer_of t q ≡ refusal.accepted
    → (o : Op) × (op_of (request_of q).operation ≡ some o) × Frame o (asked (tables_of t) (request_of q)) (tables_of t) (tables_of (after_of t q))
words_framed t q e = go (sized t q) refl
  where
    go : (b : Bool) → sized t q ≡ b
        → (o : Op) × (op_of (request_of q).operation ≡ some o) × Frame o (asked (tables_of t) (request_of q)) (tables_of t) (tables_of (after_of t q))
    go true z =
        let s = is_true (sized t q) z in
        let a = sym (answer_of_sized t q s) ∙ e in
        let f = accepted_framed (tables_of t) (accepted_good (tables_of t) (request_of q) a (bounded t)).0 (request_of q) a in
        (f.0, f.1, subst (Frame f.0 (asked (tables_of t) (request_of q)) (tables_of t)) (sym (after_of_tables t q s)) f.2)
    go false z = absurd (omega (arith, (unsized t q (is_false (sized t q) z)).0))
