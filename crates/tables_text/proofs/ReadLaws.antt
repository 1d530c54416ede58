-- Rule 16.5: what the reader's answers say of the text and of the words.
use Rattle.std.specs.Prelude.{false, true, List, [], ◌↔◌, ◌≡◌, refl, ℕ, eqb, length}
use Rattle.std.proofs.Common.{◌∙◌, ap, subst, sym, arith, eq-eqb, eqb-true}
use Rattle.model.specs.Basics.Cases.{cases, true_or_false}
use Rattle.model.specs.State.Check.{well_formed_test}
use Rattle.model.specs.State.WellFormed.{WellFormed}
use Rattle.model.specs.Tables.Layout.{tables_of, word_count}
use Rattle.model.specs.Tables.LayoutLaws.{bounded}
use Rattle.model.specs.Tables.Words.{Tables}
use Rattle.model.specs.Tables.WordsOf.{words_of}
use Rattle.model.specs.Tables.WordsOfLaws.{words_of_tables_of}
use Rattle.tables_text.proofs.BackLaws.{reading_back}
use Rattle.tables_text.specs.Calls.{ReadsTables, answer_in, read_answer, read_number, tables_after, tables_in}
use Rattle.tables_text.specs.Given.{Tells, TextOf}
use Rattle.tables_text.proofs.GivenLaws.{formed, tells_reading, tells_text, test_formed, test_unformed, text_tells}
use Rattle.tables_text.specs.Stages.{Stage, past, reading, stuck}
use Rattle.tables_text.proofs.ToldLaws.{told_bounded}
use Rattle.model.specs.Request.Refusals as refusal

-- Rule 16.5: a text that tells tables is answered with 0, the number 0 and their words where they are well-formed, and else with 2, the number 0 and the words
-- that stood there.
module _ (s v : List ℕ) (h : length v ≡ word_count) (d : Tables) (e : reading s ≡ past d []) where
  read_zero : well_formed_test d ≡ true → read_answer s v ≡ refusal.accepted
  unfolding read_answer
  read_zero w = rw (eq-eqb (length v) word_count h, e, w)

  read_two : well_formed_test d ≡ false → read_answer s v ≡ refusal.not_well_formed
  unfolding read_answer
  read_two w = rw (eq-eqb (length v) word_count h, e, w)

  read_none : read_number s v ≡ 0
  unfolding read_number
  read_none = rw (eq-eqb (length v) word_count h, e)

  read_words : well_formed_test d ≡ true → tables_after s v ≡ words_of d
  unfolding tables_after
  read_words w = rw (eq-eqb (length v) word_count h, e, w)

-- what an answer of the reader says of 2,304 words
data Outcome (s : List ℕ) (a : ℕ) : Type 0 where
  taken : (d : Tables) → Tells s d → WellFormed d → a ≡ refusal.accepted → Outcome s a
  unformed : (d : Tables) → Tells s d → ¬ WellFormed d → a ≡ refusal.not_well_formed → Outcome s a
  unread : ((d : Tables) → Tells s d → ⊥) → a ≡ refusal.not_a_request → Outcome s a

outcome : (s v : List ℕ) → length v ≡ word_count → Outcome s (read_answer s v)
unfolding read_answer
outcome s v h = rw (eq-eqb (length v) word_count h) (go (reading s) refl)
  where
    go : (r : Stage) → reading s ≡ r → Outcome s (answer_in r)
    go (stuck x) e = unread (λ d t. apart x d (sym e ∙ (tells_reading s d).0 t)) refl
      where
        apart : (x : List ℕ) (d : Tables) → stuck x ≡ past d [] → ⊥
        apart x d q = let z : ◌≡◌ {A = ℕ} 0 1 = cc in omega arith
    go (past d x) e =
        let n : x ≡ [] = (reading_back s d x e).0 in
        let t : Tells s d = (tells_reading s d).1 (e ∙ ap (past d) n) in
        cases (true_or_false (well_formed_test d))
        (λ w. taken d t (formed d (told_bounded d t.told) w) (rw w))
        (λ w. unformed d t (λ f. clash (sym (test_formed d (told_bounded d t.told) f) ∙ w)) (rw w))
      where
        clash : true ≡ false → ⊥
        clash e = let z : ◌≡◌ {A = ℕ} 0 1 = cc in omega arith

-- The text of words is read as these words,
pub text_reads : {s t v w : List ℕ} {a n : ℕ} → TextOf s t → length v ≡ word_count → ReadsTables s v a n w → (a ≡ refusal.accepted) × (n ≡ 0) × (w ≡ t)
text_reads {s} {t} {v} g h x =
    let e : reading s ≡ past (tables_of t) [] = (tells_reading s (tables_of t)).0 (text_tells g) in
    let f : well_formed_test (tables_of t) ≡ true = test_formed (tables_of t) (bounded t) g.well_formed in (
      x.answer ∙ read_zero s v h (tables_of t) e f,
      x.number ∙ read_none s v h (tables_of t) e,
      x.words ∙ read_words s v h (tables_of t) e f ∙ words_of_tables_of t g.size,
    )

-- with 0 the words were 2,304
read_size : (s v : List ℕ) → refusal.accepted ≡ read_answer s v → length v ≡ word_count
unfolding read_answer
read_size s v e =
    cases (true_or_false (eqb (length v) word_count))
    (λ a. eqb-true (length v) word_count a)
    (λ a. let z : refusal.accepted ≡ refusal.bad_length = rw a at e in absurd (omega arith))

-- and where the answer is 0, it is the text of the words that are then there.
pub reads_text : {s v w : List ℕ} {n : ℕ} → ReadsTables s v refusal.accepted n w → TextOf s w
reads_text {s} {v} {w} {n} x = go (outcome s v (read_size s v x.answer))
  where
    go : Outcome s (read_answer s v) → TextOf s w
    go (taken d t f e) =
        let g : TextOf s (words_of d) = tells_text t f in
        subst (TextOf s) (sym (text_reads g (read_size s v x.answer) x).2) g
    go (unformed d t f e) = let z : refusal.accepted ≡ refusal.not_well_formed = x.answer ∙ e in absurd (omega arith)
    go (unread f e) = let z : refusal.accepted ≡ refusal.not_a_request = x.answer ∙ e in absurd (omega arith)

-- Rule 16.5: of a slice of 2,304 words the answer is 0 exactly where the text is that of some words,
pub read_exactly : {s v w : List ℕ} {a n : ℕ} → length v ≡ word_count → ReadsTables s v a n w → (a ≡ refusal.accepted) ↔ ((t : List ℕ) × TextOf s t)
read_exactly {s} {v} {w} {a} {n} h x =
    (λ e. (w, reads_text (subst (λ (b : ℕ). ReadsTables s v b n w) e x)), λ t. (text_reads t.1 h x).0)

-- 2 exactly where it tells tables that are not well-formed,
pub read_unformed_exactly : {s v w : List ℕ} {a n : ℕ} → length v ≡ word_count → ReadsTables s v a n w
    → (a ≡ refusal.not_well_formed) ↔ ((d : Tables) × Tells s d × (¬ WellFormed d))
read_unformed_exactly {s} {v} {w} {a} h x = (
  λ e. go (sym e ∙ x.answer) (outcome s v h),
  λ p. x.answer ∙ read_two s v h p.0 ((tells_reading s p.0).0 p.1) (test_unformed p.0 (told_bounded p.0 p.1.told) p.2),
)
  where
    go : refusal.not_well_formed ≡ read_answer s v → Outcome s (read_answer s v) → (d : Tables) × Tells s d × (¬ WellFormed d)
    go e (taken d t f q) = let z : refusal.not_well_formed ≡ refusal.accepted = e ∙ q in absurd (omega arith)
    go e (unformed d t f q) = (d, t, f)
    go e (unread f q) = let z : refusal.not_well_formed ≡ refusal.not_a_request = e ∙ q in absurd (omega arith)

-- and 18 exactly where it tells none at all.
pub read_bad_exactly : {s v w : List ℕ} {a n : ℕ} → length v ≡ word_count → ReadsTables s v a n w
    → (a ≡ refusal.not_a_request) ↔ ((d : Tables) → Tells s d → ⊥)
read_bad_exactly {s} {v} {w} {a} h x = (λ e. go (sym e ∙ x.answer) (outcome s v h), λ f. x.answer ∙ back f (outcome s v h))
  where
    go : refusal.not_a_request ≡ read_answer s v → Outcome s (read_answer s v) → (d : Tables) → Tells s d → ⊥
    go e (taken d t f q) = let z : refusal.not_a_request ≡ refusal.accepted = e ∙ q in absurd (omega arith)
    go e (unformed d t f q) = let z : refusal.not_a_request ≡ refusal.not_well_formed = e ∙ q in absurd (omega arith)
    go e (unread f q) = f

    back : ((d : Tables) → Tells s d → ⊥) → Outcome s (read_answer s v) → read_answer s v ≡ refusal.not_a_request
    back f (taken d t g q) = absurd (f d t)
    back f (unformed d t g q) = absurd (f d t)
    back f (unread g q) = q

-- A refusal leaves the words as they were.
pub read_refused : {s v w : List ℕ} {a n : ℕ} → ReadsTables s v a n w → (a ≡ refusal.accepted → ⊥) → w ≡ v
unfolding read_answer tables_after
read_refused {s} {v} {w} {a} x n =
    cases (true_or_false (eqb (length v) word_count))
    (λ h. let p : a ≡ answer_in (reading s) = x.answer ∙ rw h in let q : w ≡ tables_in (reading s) v = x.words ∙ rw h in q ∙ go (reading s) p)
    (λ h. x.words ∙ rw h)
  where
    go : (r : Stage) → a ≡ answer_in r → tables_in r v ≡ v
    go (stuck y) p = refl
    go (past d y) p =
        cases (true_or_false (well_formed_test d))
        (λ f. absurd (n (p ∙ rw f)))
        (λ f. rw f)
