-- The line rules in what the reader of tables answers (rules 16.3 and 16.5): its line with 18 is read off the bytes alone.
use Rattle.std.specs.Prelude.{List, ◌≡◌, refl, ℕ, eqb, length}
use Rattle.std.proofs.Common.{◌∙◌, subst, sym, arith, eq-eqb}
use Rattle.model.specs.Basics.Cases.{cases, true_or_false}
use Rattle.model.specs.State.Check.{well_formed_test}
use Rattle.model.specs.Tables.Layout.{word_count}
use Rattle.tables_text.specs.Calls.{ReadsTables, answer_in, line_in, line_of, read_answer, read_number, tables_after, tables_in}
use Rattle.tables_text.specs.Due.{FirstBad, at_first}
use Rattle.tables_text.proofs.DueLaws.{stuck_first}
use Rattle.tables_text.proofs.DueOnceLaws.{first_stuck}
use Rattle.tables_text.specs.Stages.{Stage, past, reading, stuck}
use Rattle.model.specs.Request.Refusals as refusal

-- Rule 16.5: with 18 the reader's number is the first line that is bad or missing, and the tables are as they were;
pub reads_broken : {s t r : List ℕ} {n : ℕ} → ReadsTables s t refusal.not_a_request n r → FirstBad at_first s n × (r ≡ t)
unfolding read_answer read_number tables_after
reads_broken {s} {t} {r} {n} c =
    cases (true_or_false (eqb (length t) word_count))
    (λ h. go (reading s) refl (rw h at c.answer) (rw h at c.number) (rw h at c.words))
    (λ h. let z : refusal.not_a_request ≡ refusal.bad_length = rw h at c.answer in absurd (omega arith))
  where
    go : (g : Stage) → reading s ≡ g → refusal.not_a_request ≡ answer_in g → n ≡ line_in s g → r ≡ tables_in g t → FirstBad at_first s n × (r ≡ t)
    go (past d x) e a b w =
        cases (true_or_false (well_formed_test d))
        (λ h. let z : refusal.not_a_request ≡ refusal.accepted = rw h at a in absurd (omega arith))
        (λ h. let z : refusal.not_a_request ≡ refusal.not_well_formed = rw h at a in absurd (omega arith))
    go (stuck x) e a b w = (subst (FirstBad at_first s) (sym b) (stuck_first s x e), w)

-- and wherever a line is bad or missing, a reader with tables of the right size answers so.
pub broken_reads : {s t r : List ℕ} {a n k : ℕ} → FirstBad at_first s k → length t ≡ word_count → ReadsTables s t a n r
    → (a ≡ refusal.not_a_request) × (n ≡ k) × (r ≡ t)
unfolding read_answer read_number tables_after
broken_reads {s} {t} {r} {a} {n} {k} f h c =
    let g : (x : List ℕ) × (reading s ≡ stuck x) × (line_of s x ≡ k) = first_stuck s k f in (
      c.answer ∙ rw (eq-eqb (length t) word_count h, g.1),
      c.number ∙ rw (eq-eqb (length t) word_count h, g.1) g.2,
      c.words ∙ rw (eq-eqb (length t) word_count h, g.1),
    )
