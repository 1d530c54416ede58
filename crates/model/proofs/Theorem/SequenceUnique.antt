-- Theorem/Sequence leaves nothing open: every list of requests is a sequence of steps, there is one sequence only of a start and its requests, and
-- what is said of a user's notice after it settles all its words.
use Rattle.std.specs.Prelude.{Bool, false, true, List, [], ◌∷◌, ◌⊎◌, ◌≡◌, refl, ◌+◌, ◌<◌, ◌≤◌, suc, zero, ℕ, eqb, get_or, length, take}
use Rattle.std.proofs.Common.{inl, inr, ◌∙◌, ap, ap₂, subst, sym, eq-or-lt_of_le, le_of_suc-le-suc, arith}
use Rattle.model.specs.Basics.Agree.{Agrees}
use Rattle.model.specs.Basics.Choice.{Same, it, other, same}
use Rattle.model.specs.Request.Step.{after_of, answer_of}
use Rattle.model.specs.Tables.Layout.{tables_of}
use Rattle.model.specs.Tables.Words.{held}
use Rattle.model.specs.Theorem.Sequence.{Acknowledged, FirstRefused, Held, Noticed, Refused, Steps, held_for, refusals, refused_test, missed_for}
use Rattle.model.proofs.Theorem.SequenceLaws.{refused_test_agrees}
use Rattle.model.proofs.Theorem.SequenceStep.{held_same}
use Rattle.model.specs.Theorem.Statements.{SameNotice, after_words}

-- the words after one request more of a list
pub after_words_next : (t : List ℕ) (qs : List (List ℕ)) (i : ℕ) → i < length qs
    → after_words t (take (suc i) qs) ≡ after_of (after_words t (take i qs)) (get_or qs i [])
unfolding after_words
after_words_next t [] i h = absurd (omega arith)
after_words_next t (q ∷ qs) zero h = refl
after_words_next t (q ∷ qs) (suc i) h = after_words_next (after_of t q) qs i (omega arith)

-- Every list of requests, put to any words one after another, is a sequence of steps.
pub listed_steps : (t : List ℕ) (qs : List (List ℕ)) → Steps (length qs) (λ i. after_words t (take i qs)) (λ i. get_or qs i [])
    (λ i. answer_of (after_words t (take i qs)) (get_or qs i []))
listed_steps t qs = record { answered = λ i h. refl; left = λ i h. after_words_next t qs i h }

-- One start and the same requests have one sequence of steps: the same words after each, and the same answers.
pub steps_unique : (s t requests : ℕ → List ℕ) (a b : ℕ → ℕ) (m : ℕ) → Steps m s requests a → Steps m t requests b → s 0 ≡ t 0
    → ((i : ℕ) → i ≤ m → s i ≡ t i) × ((i : ℕ) → i < m → a i ≡ b i)
steps_unique s t requests a b m x y e =
    (words, λ i h. x.answered i h ∙ ap (λ (v : List ℕ). answer_of v (requests i)) (words i (omega arith)) ∙ sym (y.answered i h))
  where
    words : (i : ℕ) → i ≤ m → s i ≡ t i
    words zero h = e
    words (suc i) h = x.left i (omega arith) ∙ ap (λ (v : List ℕ). after_of v (requests i)) (words i (omega arith)) ∙ sym (y.left i (omega arith))

-- Of k requests from number n on one is the first that is refused, or none is.
pub first_or_none : (requests : ℕ → List ℕ) (answers : ℕ → ℕ) (u n k : ℕ) → ((j : ℕ) × (j < n + k) × FirstRefused requests answers u n j)
    ⊎ ((i : ℕ) → n ≤ i → i < n + k → Refused requests answers u i → ⊥)
first_or_none requests answers u n zero = inr (λ i l h r. omega arith)
first_or_none requests answers u n (suc k) = go (first_or_none requests answers u n k) (refused_test requests answers u (n + k))
    (refused_test_agrees requests answers u (n + k))
  where
    go : ((j : ℕ) × (j < n + k) × FirstRefused requests answers u n j) ⊎ ((i : ℕ) → n ≤ i → i < n + k → Refused requests answers u i → ⊥)
        → (b : Bool) → Agrees b (Refused requests answers u (n + k))
        → ((j : ℕ) × (j < n + suc k) × FirstRefused requests answers u n j) ⊎ ((i : ℕ) → n ≤ i → i < n + suc k → Refused requests answers u i → ⊥)
    go (inl f) b a = inl (f.0, omega (arith, f.1), f.2)
    go (inr f) true a = inl (n + k, omega arith, record { from = omega arith; itself = a.to tt; earlier = f })
    go (inr f) false a = inr (λ i l h r. last i l r (eq-or-lt_of_le (le_of_suc-le-suc (next i h))))
      where
        next : (i : ℕ) → i < n + suc k → suc i ≤ suc (n + k)
        next i h = omega arith

        last : (i : ℕ) → n ≤ i → Refused requests answers u i → (i ≡ n + k) ⊎ (i < n + k) → ⊥
        last i l r (inl e) = a.from (subst (Refused requests answers u) e r)
        last i l r (inr h) = f i l h r

module _ (s t requests : ℕ → List ℕ) (answers : ℕ → ℕ) (u m : ℕ) (x : Noticed s requests answers u m) (y : Noticed t requests answers u m) where
  -- They count from the same request on.
  not_earlier : (v w : ℕ → List ℕ) (p : Noticed v requests answers u m) (q : Noticed w requests answers u m) → p.since < q.since → ⊥
  not_earlier v w p q l = go q.begins
    where
      go : (q.since ≡ 0) ⊎ ((j : ℕ) × (q.since ≡ suc j) × Acknowledged requests answers u j) → ⊥
      go (inl e) = omega (arith, l, e)
      go (inr z) = p.none z.0 (omega (arith, l, z.1)) (omega (arith, z.1, q.parts)) z.2

  pub since_unique : x.since ≡ y.since
  since_unique =
      let h : ¬ (x.since < y.since) = not_earlier s t x y in
      let k : ¬ (y.since < x.since) = not_earlier t s y x in
      omega arith

  module _ (b : SameNotice (tables_of (s 0)) (tables_of (t 0)) u) where
    -- The notices there are the same: those of the start, or both empty.
    same_then : SameNotice (tables_of (s x.since)) (tables_of (t y.since)) u
    same_then = go (eqb x.since 0) (same x.since 0)
      where
        go : (c : Bool) → Same x.since 0 c → SameNotice (tables_of (s x.since)) (tables_of (t y.since)) u
        go true (it e) = rw (sym since_unique, e) b
        go false (other n) =
            let p = x.emptied n in
            let q = y.emptied (λ e. n (since_unique ∙ e)) in
            let h = q.0 ∙ sym p.0 in
            (ap (λ (z : Held). z.refusal) h, ap (λ (z : Held). z.operation) h, q.1 ∙ sym p.1)

    held_now : held_for (tables_of (t m)) u ≡ held_for (tables_of (s m)) u
    held_now = go (eqb ((tables_of (s x.since)).user u held) 0) (same ((tables_of (s x.since)).user u held) 0)
        (first_or_none requests answers u x.since x.later)
      where
        go : (c : Bool) → Same ((tables_of (s x.since)).user u held) 0 c → ((j : ℕ) × (j < x.since + x.later) × FirstRefused requests answers u x.since j)
            ⊎ ((i : ℕ) → x.since ≤ i → i < x.since + x.later → Refused requests answers u i → ⊥)
            → held_for (tables_of (t m)) u ≡ held_for (tables_of (s m)) u
        go false (other n) f =
            y.stays (λ e. n (sym same_then.0 ∙ e)) ∙ held_same same_then.0 same_then.1 ∙ sym (x.stays n)
        go true (it e) (inl f) =
            let l : f.0 < m = omega (arith, f.1, x.parts) in
            y.first (same_then.0 ∙ e) f.0 l (subst (λ (k : ℕ). FirstRefused requests answers u k f.0) since_unique f.2)
            ∙ sym (x.first e f.0 l f.2)
        go true (it e) (inr f) =
            let none : (i : ℕ) → x.since ≤ i → i < m → Refused requests answers u i → ⊥ = λ i a c. f i a (omega (arith, x.parts)) in
            (y.quiet (same_then.0 ∙ e) (λ i a. none i (omega (arith, since_unique)))).0 ∙ sym (x.quiet e none).0

    -- Rules 8.2 and 8.3: from the same notice at the start, with the same answers to the same requests, what Theorem/Sequence says is the same notice.
    pub noticed_unique : SameNotice (tables_of (s m)) (tables_of (t m)) u
    noticed_unique = (
      ap (λ (z : Held). z.refusal) held_now,
      ap (λ (z : Held). z.operation) held_now,
      y.missed ∙ ap₂ (λ (a k : ℕ). missed_for (a + k)) same_then.2 (ap₂ (refusals requests answers u) (sym since_unique) later_same) ∙ sym x.missed,
    )
      where
        later_same : y.later ≡ x.later
        later_same = omega (arith, since_unique, x.parts, y.parts)
