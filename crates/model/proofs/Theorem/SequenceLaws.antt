-- The notice over a whole history (rules 8.2 and 8.3): after any number of steps from words that pass the state check, each user's notice is what
-- Theorem/Sequence says, whatever was asked and however many words each request had.
use Rattle.std.specs.Prelude.{Bool, ◌&&◌, List, ◌⊎◌, ◌≡◌, eqb}
use Rattle.std.proofs.Math.Bool.{false, true}
use Rattle.std.proofs.Math.Logic.{inl, inr}
use Rattle.std.proofs.Common.{◌∙◌, ap, subst, sym, eq-or-lt_of_le, le_of_suc-le-suc, arith}
use Rattle.std.proofs.Math.Path.{refl}
use Prim.Native.Nat.{◌+◌, ◌<◌, ◌≤◌, suc, zero, ℕ}
use Rattle.model.specs.Basics.Agree.{Agrees, agrees_and, agrees_as, agrees_eq, agrees_le}
use Rattle.model.specs.Basics.Cases.{cases, lt_or_le}
use Rattle.model.specs.Basics.Choice.{pick}
use Rattle.model.specs.Basics.TestLaws.{is_false, is_true, pick_true}
use Rattle.model.specs.Request.LadderLaws.{answer_range}
use Rattle.model.proofs.Request.OperationLaws.{found_names, names_found}
use Rattle.model.specs.Request.Operations.{number_of, to_acknowledge}
use Rattle.model.specs.Request.Step.{after_of, answer_of, sized}
use Rattle.model.specs.Request.Words.{request_of}
use Rattle.model.specs.State.AgreeSecure.{check_agrees}
use Rattle.model.specs.State.Check.{check}
use Rattle.model.specs.State.WellFormed.{WellFormed}
use Rattle.model.specs.Tables.Layout.{tables_of}
use Rattle.model.specs.Tables.Words.{first_noticed, held, last_noticed, missed, missed_most}
use Rattle.model.specs.Theorem.Sequence.{Acknowledged, FirstRefused, Held, NoNotice, Noticed, Refused, Steps, held_for, left_by, operation_kept}
use Rattle.model.specs.Theorem.Sequence.{refusals, refused_test, missed_for}
use Rattle.model.proofs.Theorem.SequenceStep.{Counted, acknowledged_empties, held_same, refused_counted, missed_past, missed_within, words_same}
use Rattle.model.specs.Theorem.Statements.{SameNotice}
use Rattle.model.proofs.Theorem.Steps.{answer_of_sized, unsized}
use Rattle.model.specs.Request.Refusals as refusal

-- The first i of m steps are steps too.
pub steps_before : (tables requests : ℕ → List ℕ) (answers : ℕ → ℕ) (m i : ℕ) → i ≤ m → Steps m tables requests answers → Steps i tables requests answers
steps_before tables requests answers m i l s = record { answered = λ j h. s.answered j (omega arith); left = λ j h. s.left j (omega arith) }

-- No step is answered above 16.
pub answer_of_range : (t q : List ℕ) → answer_of t q ≤ last_noticed
answer_of_range t q = go (sized t q) refl
  where
    go : (b : Bool) → sized t q ≡ b → answer_of t q ≤ last_noticed
    go true z = omega (arith, answer_of_sized t q (is_true (sized t q) z), answer_range (tables_of t) (request_of q))
    go false z = omega (arith, (unsized t q (is_false (sized t q) z)).0)

-- A count with nothing added is itself, and one that has come to its greatest goes on as if it had none.
missed_alone : (x r : ℕ) → x ≤ missed_most → r ≡ 0 → x ≡ missed_for (x + r)
missed_alone x r h e =
    let z : x + r ≡ x = omega arith in
    rw z (sym (missed_within x h))

missed_more_lem : (n k : ℕ) → suc n ≡ k → missed_for (suc (missed_for n)) ≡ missed_for k
missed_more_lem n k e = cases (lt_or_le missed_most n)
    (λ l. ap (λ (x : ℕ). missed_for (suc x)) (missed_past n (omega arith)) ∙ missed_past (suc missed_most) (omega arith) ∙ sym (missed_past k (omega arith)))
    (λ l. ap (λ (x : ℕ). missed_for (suc x)) (missed_within n l) ∙ ap missed_for e)

module _ (requests : ℕ → List ℕ) (answers : ℕ → ℕ) (u : ℕ) where
  -- The test of a refusal says its statement.
  pub refused_test_agrees : (i : ℕ) → Agrees (refused_test requests answers u i) (Refused requests answers u i)
  refused_test_agrees i = agrees_as {P = ((request_of (requests i)).user ≡ u) × ((first_noticed ≤ answers i) × (answers i ≤ last_noticed))}
      (λ z. (z.0, z.1.0, z.1.1)) (λ z. (z.0, (z.1, z.2)))
      (agrees_and (agrees_eq (request_of (requests i)).user u) (agrees_and (agrees_le first_noticed (answers i)) (agrees_le (answers i) last_noticed)))

  -- So does this one of an acknowledgement.
  acknowledged_test : ℕ → Bool
  acknowledged_test i = eqb (request_of (requests i)).user u
      && (eqb (request_of (requests i)).operation (number_of to_acknowledge) && eqb (answers i) refusal.accepted)

  acknowledged_agrees : (i : ℕ) → Agrees (acknowledged_test i) (Acknowledged requests answers u i)
  unfolding acknowledged_test
  acknowledged_agrees i = agrees_as
      {P = ((request_of (requests i)).user ≡ u) × (((request_of (requests i)).operation ≡ number_of to_acknowledge) × (answers i ≡ refusal.accepted))}
      (λ z. (z.0, z.1.0, z.1.1)) (λ z. (z.0, (z.1, z.2)))
      (agrees_and (agrees_eq (request_of (requests i)).user u)
      (agrees_and (agrees_eq (request_of (requests i)).operation (number_of to_acknowledge)) (agrees_eq (answers i) refusal.accepted)))

  -- The count of refusals: one more by a refusal, and none by anything else.
  refusals_more : (n k i : ℕ) → n + k ≡ i → Refused requests answers u i → refusals requests answers u n (suc k) ≡ suc (refusals requests answers u n k)
  unfolding refusals
  refusals_more n k i e r = pick_true (refused_test requests answers u (n + k)) _ _
      ((refused_test_agrees (n + k)).from (subst (Refused requests answers u) (sym e) r))

  refusals_same : (n k i : ℕ) → n + k ≡ i → (Refused requests answers u i → ⊥) → refusals requests answers u n (suc k) ≡ refusals requests answers u n k
  unfolding refusals
  refusals_same n k i e r = go (refused_test requests answers u (n + k)) (refused_test_agrees (n + k))
    where
      go : (b : Bool) → Agrees b (Refused requests answers u (n + k))
          → pick b (suc (refusals requests answers u n k)) (refusals requests answers u n k) ≡ refusals requests answers u n k
      go true a = absurd (r (subst (Refused requests answers u) e (a.to tt)))
      go false a = refl

module _ (tables requests : ℕ → List ℕ) (answers : ℕ → ℕ) (u : ℕ) where
  -- What request i is to the notice of u: an acknowledgement, a refusal, or neither.
  data Turn (i : ℕ) : Type 0 where
    emptying : Acknowledged requests answers u i → NoNotice (tables_of (tables (suc i))) u → Turn i
    counting : (Acknowledged requests answers u i → ⊥) → Refused requests answers u i
        → Counted (tables_of (tables i)) (tables_of (tables (suc i))) u (answers i) (operation_kept (request_of (requests i)).operation) → Turn i
    leaving : (Acknowledged requests answers u i → ⊥) → (Refused requests answers u i → ⊥)
        → SameNotice (tables_of (tables i)) (tables_of (tables (suc i))) u → Turn i

  turn : (i : ℕ) → answers i ≡ answer_of (tables i) (requests i) → tables (suc i) ≡ after_of (tables i) (requests i) → Turn i
  turn i a l = go (acknowledged_test requests answers u i) (refused_test requests answers u i) (acknowledged_agrees requests answers u i)
      (refused_test_agrees requests answers u i)
    where
      empties : Acknowledged requests answers u i → NoNotice (tables_of (tables (suc i))) u
      empties k = rw (l, sym k.0) (acknowledged_empties (tables i) (requests i) (names_found (request_of (requests i)) to_acknowledge k.1) (sym a ∙ k.2))

      counts : Refused requests answers u i
          → Counted (tables_of (tables i)) (tables_of (tables (suc i))) u (answers i) (operation_kept (request_of (requests i)).operation)
      counts r = rw (l, a, sym r.0) (refused_counted (tables i) (requests i) (omega (arith, r.1)))

      leaves_it : (Acknowledged requests answers u i → ⊥) → (Refused requests answers u i → ⊥)
          → SameNotice (tables_of (tables i)) (tables_of (tables (suc i))) u
      leaves_it k r = rw l (words_same (tables i) (requests i) u
          (λ e h. r (e, omega arith, omega (arith, answer_of_range (tables i) (requests i))))
          (λ e m c. k (e, found_names (request_of (requests i)) to_acknowledge m, a ∙ c)))

      go : (b c : Bool) → Agrees b (Acknowledged requests answers u i) → Agrees c (Refused requests answers u i) → Turn i
      go true c k r = emptying (k.to tt) (empties (k.to tt))
      go false true k r = counting k.from (r.to tt) (counts (r.to tt))
      go false false k r = leaving k.from r.from (leaves_it k.from r.from)

  -- Before any step.
  noticed_start : WellFormed (tables_of (tables 0)) → Noticed tables requests answers u 0
  unfolding refusals
  noticed_start w = record {
    since = 0;
    later = 0;
    parts = refl;
    begins = inl refl;
    none = λ i l h. absurd (omega arith);
    emptied = λ n. absurd (n refl);
    stays = λ h. refl;
    first = λ z j h f. absurd (omega arith);
    quiet = λ z f. (held_same z ((w.users u).notice.quiet z), (w.users u).notice.none.0 z);
    missed = missed_alone ((tables_of (tables 0)).user u missed) 0 (w.users u).notice.missed_in refl;
  }

  module _ (m : ℕ) (n : Noticed tables requests answers u m) where
    -- The last acknowledgement is the last still where request m is none.
    none_next : (Acknowledged requests answers u m → ⊥) → (i : ℕ) → n.since ≤ i → i < suc m → Acknowledged requests answers u i → ⊥
    none_next k i l h a = go (eq-or-lt_of_le (le_of_suc-le-suc h))
      where
        go : (i ≡ m) ⊎ (i < m) → ⊥
        go (inl e) = k (subst (Acknowledged requests answers u) e a)
        go (inr b) = n.none i l b a

    emptied_next : Acknowledged requests answers u m → NoNotice (tables_of (tables (suc m))) u → Noticed tables requests answers u (suc m)
    unfolding refusals
    emptied_next a e = record {
      since = suc m;
      later = 0;
      parts = omega arith;
      begins = inr (m, refl, a);
      none = λ i l h. absurd (omega arith);
      emptied = λ z. e;
      stays = λ h. refl;
      first = λ z j h f. absurd (omega (arith, f.from));
      quiet = λ z f. e;
      missed = missed_alone ((tables_of (tables (suc m))).user u missed) 0 (omega (arith, e.1)) refl;
    }

    counted_next : (Acknowledged requests answers u m → ⊥) → Refused requests answers u m
        → Counted (tables_of (tables m)) (tables_of (tables (suc m))) u (answers m) (operation_kept (request_of (requests m)).operation)
        → Noticed tables requests answers u (suc m)
    counted_next k r c = record {
      since = n.since;
      later = suc n.later;
      parts = omega (arith, n.parts);
      begins = n.begins;
      none = none_next k;
      emptied = n.emptied;
      stays = λ h. let e = n.stays h in c.kept (λ z. h (sym (ap (λ (x : Held). x.refusal) e) ∙ z)) ∙ e;
      first = λ z j h f. first_next z j f (eq-or-lt_of_le (le_of_suc-le-suc h));
      quiet = λ z f. absurd (f m (omega (arith, n.parts)) (omega arith) r);
      missed = c.more ∙ ap (λ (x : ℕ). missed_for (suc x)) n.missed ∙ missed_more_lem _ _ one_more;
    }
      where
        one_more : suc ((tables_of (tables n.since)).user u missed + refusals requests answers u n.since n.later)
            ≡ (tables_of (tables n.since)).user u missed + refusals requests answers u n.since (suc n.later)
        one_more = omega (arith, refusals_more requests answers u n.since n.later m n.parts r)

        first_next : (tables_of (tables n.since)).user u held ≡ 0 → (j : ℕ) → FirstRefused requests answers u n.since j → (j ≡ m) ⊎ (j < m)
            → held_for (tables_of (tables (suc m))) u ≡ left_by requests answers j
        first_next z j f (inl e) =
            let q = n.quiet z (λ i a b r. f.earlier i a (omega arith) r) in
            c.taken (ap (λ (x : Held). x.refusal) q.0) ∙ ap (left_by requests answers) (sym e)
        first_next z j f (inr l) =
            let e = n.first z j l f in
            c.kept (λ y. omega (arith, ap (λ (x : Held). x.refusal) e, y, f.itself.1)) ∙ e

    left_next : (Acknowledged requests answers u m → ⊥) → (Refused requests answers u m → ⊥)
        → SameNotice (tables_of (tables m)) (tables_of (tables (suc m))) u → Noticed tables requests answers u (suc m)
    left_next k r s = record {
      since = n.since;
      later = suc n.later;
      parts = omega (arith, n.parts);
      begins = n.begins;
      none = none_next k;
      emptied = n.emptied;
      stays = λ h. same_held ∙ n.stays h;
      first = λ z j h f. first_next z j f (eq-or-lt_of_le (le_of_suc-le-suc h));
      quiet = λ z f. let q = n.quiet z (λ i a b. f i a (omega arith)) in (same_held ∙ q.0, s.2 ∙ q.1);
      missed = s.2 ∙ n.missed ∙ ap (λ (x : ℕ). missed_for ((tables_of (tables n.since)).user u missed + x))
          (sym (refusals_same requests answers u n.since n.later m n.parts r));
    }
      where
        same_held : held_for (tables_of (tables (suc m))) u ≡ held_for (tables_of (tables m)) u
        same_held = held_same s.0 s.1

        first_next : (tables_of (tables n.since)).user u held ≡ 0 → (j : ℕ) → FirstRefused requests answers u n.since j → (j ≡ m) ⊎ (j < m)
            → held_for (tables_of (tables (suc m))) u ≡ left_by requests answers j
        first_next z j f (inl e) = absurd (r (subst (Refused requests answers u) e f.itself))
        first_next z j f (inr l) = same_held ∙ n.first z j l f

    noticed_next : Turn m → Noticed tables requests answers u (suc m)
    noticed_next (emptying a e) = emptied_next a e
    noticed_next (counting k r c) = counted_next k r c
    noticed_next (leaving k r s) = left_next k r s

  noticed_after : WellFormed (tables_of (tables 0)) → (m : ℕ) → Steps m tables requests answers → Noticed tables requests answers u m
  noticed_after w zero s = noticed_start w
  noticed_after w (suc m) s = noticed_next m
      (noticed_after w m (steps_before tables requests answers (suc m) m (omega arith) s))
      (turn m (s.answered m (omega arith)) (s.left m (omega arith)))

-- Rules 8.2 and 8.3: what each user's notice says after m steps from words that pass the state check, and so after each of them.
pub sequence_noticed : (tables requests : ℕ → List ℕ) (answers : ℕ → ℕ) (m : ℕ) → Steps m tables requests answers
    → check (tables 0) ≡ refusal.accepted → (u : ℕ) → Noticed tables requests answers u m
sequence_noticed tables requests answers m s e u =
    noticed_after tables requests answers u ((check_agrees (tables 0)).to ((agrees_eq (check (tables 0)) refusal.accepted).from e)).1.0 m s
