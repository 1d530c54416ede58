-- What an accepted request has done (rule 8.4), of tables and of words; and that what it leaves is the only outcome that the rules allow.
use Rattle.std.specs.Prelude.{Bool, false, true, List, ◌↔◌, ◌≡◌, refl, ℕ, length}
use Rattle.std.proofs.Math.Option.{some}
use Rattle.std.proofs.Common.{◌∙◌, subst, sym, arith}
use Rattle.model.specs.Basics.TestLaws.{is_false, is_true}
use Rattle.model.specs.Request.After.{after}
use Rattle.model.proofs.Request.AfterLaws.{after_accepted, effect_by}
use Rattle.model.specs.Request.Asked.{asked}
use Rattle.model.specs.Request.Ladder.{answer}
use Rattle.model.proofs.Request.OperationLaws.{names_found}
use Rattle.model.specs.Request.Operations.{Op, op_of, row_of}
use Rattle.model.specs.Request.Step.{after_of, answer_of, sized}
use Rattle.model.specs.Request.Words.{Request, request_of}
use Rattle.model.specs.State.Secure.{Good}
use Rattle.model.specs.State.WellFormed.{WellFormed}
use Rattle.model.specs.Tables.Layout.{tables_of, word_count}
use Rattle.model.specs.Tables.LayoutLaws.{bounded}
use Rattle.model.specs.Tables.Words.{Tables}
use Rattle.model.specs.Tables.WordsOfLaws.{tables_of_injective}
use Rattle.model.proofs.Theorem.Acceptance.{accepted, accepted_good}
use Rattle.model.specs.Theorem.Done.{Done, Outcome}
use Rattle.model.proofs.Theorem.DoneLaws.{effect_done}
use Rattle.model.proofs.Theorem.Steps.{after_of_length, after_of_tables, answer_of_sized, sized_agrees, unsized}
use Rattle.model.proofs.Theorem.UniqueOutcome.{done_exact, effect_outcome}
use Rattle.model.specs.Request.Refusals as refusal

-- An accepted request has done what its operation is to do.
pub accepted_done : (d : Tables) → WellFormed d → (q : Request) → answer d q ≡ refusal.accepted
    → (o : Op) × (op_of q.operation ≡ some o) × Done o (asked d q) d (after d q)
accepted_done d w q e =
    let a = accepted d q e w in (
      a.0,
      names_found q a.0 a.1.meant.named,
      subst (Done a.0 (asked d q) d) (sym (after_accepted d q e ∙ effect_by d q a.0 (names_found q a.0 a.1.meant.named)))
          (effect_done a.0 d w (asked d q) a.1.allowed),
    )

-- So it has in the words.
pub words_done : (t q : List ℕ) → answer_of t q ≡ refusal.accepted
    → (o : Op) × (op_of (request_of q).operation ≡ some o) × Done o (asked (tables_of t) (request_of q)) (tables_of t) (tables_of (after_of t q))
words_done t q e = go (sized t q) refl
  where
    go : (b : Bool) → sized t q ≡ b
        → (o : Op) × (op_of (request_of q).operation ≡ some o) × Done o (asked (tables_of t) (request_of q)) (tables_of t) (tables_of (after_of t q))
    go true z =
        let s = is_true (sized t q) z in
        let a = sym (answer_of_sized t q s) ∙ e in
        let f = accepted_done (tables_of t) (accepted_good (tables_of t) (request_of q) a (bounded t)).0 (request_of q) a in
        (f.0, f.1, subst (Done f.0 (asked (tables_of t) (request_of q)) (tables_of t)) (sym (after_of_tables t q s)) f.2)
    go false z = absurd (omega (arith, (unsized t q (is_false (sized t q) z)).0))

-- The tables after an accepted request are the outcome of the operation that it names, and no other tables are.
pub accepted_outcome : (d : Tables) → Good d → (q : Request) → answer d q ≡ refusal.accepted
    → (o : Op) × (op_of q.operation ≡ some o) × ((d' : Tables) → Outcome o (asked d q) d d' ↔ (d' ≡ after d q))
unfolding asked
accepted_outcome d g q e =
    let a = accepted d q e g.0 in
    let o = a.0 in
    let there = a.1.meant.known.there in
    let z : after d q ≡ (row_of o).effect (asked d q) d = after_accepted d q e ∙ effect_by d q o (names_found q a.0 a.1.meant.named) in (
      o,
      names_found q a.0 a.1.meant.named,
      λ d'. (
        λ p. done_exact d g (asked d q) there o a.1.allowed d' p ∙ sym z,
        λ h. subst (Outcome o (asked d q) d) (sym (h ∙ z)) (effect_outcome d g (asked d q) there o a.1.allowed),
      ),
    )

-- So are the words after an accepted step: no other 2,304 words are the outcome.
pub words_outcome : (t q : List ℕ) → answer_of t q ≡ refusal.accepted
    → (o : Op) × (op_of (request_of q).operation ≡ some o)
    × ((r : List ℕ) → length r ≡ word_count → Outcome o (asked (tables_of t) (request_of q)) (tables_of t) (tables_of r) ↔ (r ≡ after_of t q))
words_outcome t q e = go (sized t q) refl
  where
    go : (b : Bool) → sized t q ≡ b → (o : Op) × (op_of (request_of q).operation ≡ some o)
        × ((r : List ℕ) → length r ≡ word_count → Outcome o (asked (tables_of t) (request_of q)) (tables_of t) (tables_of r) ↔ (r ≡ after_of t q))
    go true z =
        let s = is_true (sized t q) z in
        let d = tables_of t in
        let a = sym (answer_of_sized t q s) ∙ e in
        let f = accepted_outcome d (accepted_good d (request_of q) a (bounded t)) (request_of q) a in
        let n : length (after_of t q) ≡ word_count = after_of_length t q ∙ ((sized_agrees t q).to s).0 in
        let c = after_of_tables t q s in (
          f.0,
          f.1,
          λ r h. (
            λ p. tables_of_injective r (after_of t q) h n ((f.2 (tables_of r)).0 p ∙ sym c),
            λ k. subst (λ (l : List ℕ). Outcome f.0 (asked d (request_of q)) d (tables_of l)) (sym k) ((f.2 (tables_of (after_of t q))).1 c),
          ),
        )
    go false z = absurd (omega (arith, (unsized t q (is_false (sized t q) z)).0))
