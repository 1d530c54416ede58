-- For any words of tables and request there is one answer, and one list of words afterwards: a step that says the same as ours is ours.
use Rattle.std.specs.Prelude.{Bool, false, true, List, ◌≡◌, refl, ℕ}
use Rattle.std.proofs.Common.{◌∙◌, ap, sym}
use Rattle.model.specs.Basics.TestLaws.{is_false, is_true}
use Rattle.model.specs.Request.After.{after, leaves}
use Rattle.model.specs.Request.LadderLaws.{answer_is, answer_unique}
use Rattle.model.specs.Request.Step.{Settles, after_of, answer_of, sized}
use Rattle.model.specs.Request.Words.{request_of}
use Rattle.model.specs.Tables.Layout.{tables_of}
use Rattle.model.specs.Tables.WordsOfLaws.{tables_of_injective}
use Rattle.model.proofs.Theorem.Steps.{after_of_length, after_of_tables, answer_of_sized, sized_agrees, unsized}

-- Ours is one.
pub settles : (t q : List ℕ) → Settles t q (answer_of t q) (after_of t q)
unfolding after
settles t q = record {
  other_size = unsized t q;
  answered = λ h. rw (answer_of_sized t q h) (answer_is (tables_of t) (request_of q));
  length_kept = λ h. after_of_length t q ∙ ((sized_agrees t q).to h).0;
  left = λ h. rw (answer_of_sized t q h) (after_of_tables t q h);
}

-- There is no other.
pub settles_unique : (t q : List ℕ) (a b : ℕ) (r s : List ℕ) → Settles t q a r → Settles t q b s → (a ≡ b) × (r ≡ s)
settles_unique t q a b r s x y = go (sized t q) refl
  where
    go : (z : Bool) → sized t q ≡ z → (a ≡ b) × (r ≡ s)
    go true e =
        let h = is_true (sized t q) e in
        let same_answer = answer_unique (tables_of t) (request_of q) a b (x.answered h) (y.answered h) in (
          same_answer,
          tables_of_injective r s (x.length_kept h) (y.length_kept h)
              (x.left h ∙ ap (λ (n : ℕ). leaves n (tables_of t) (request_of q)) same_answer ∙ sym (y.left h)),
        )
    go false e =
        let n = is_false (sized t q) e in
        ((x.other_size n).0 ∙ sym (y.other_size n).0, (x.other_size n).1 ∙ sym (y.other_size n).1)
