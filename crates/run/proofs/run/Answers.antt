use Rattle.std.proofs.Common.{arith, sym, ◌∙◌}
use Rattle.model.specs.State.AgreeSecure.{check_tables}
use Rattle.run.specs.RunLaws.{answered_ran, other_sizes}
use Rattle.run.proofs.run.Goals as goal

pub returns-then-t-ne-TABLE_WORDS : goal.returns-then-t-ne-TABLE_WORDS
returns-then-t-ne-TABLE_WORDS c = other_sizes _ _ _ (λ z. c.if-t-ne-TABLE_WORDS.true z.tables)

pub returns-then-requests-ne0 : goal.returns-then-requests-ne0
returns-then-requests-ne0 c = other_sizes _ _ _ (λ z. c.if-requests-ne0.true z.multiple)

pub returns-then-answers-requests : goal.returns-then-answers-requests
returns-then-answers-requests c = other_sizes _ _ _ (λ z. omega (arith, c.if-answers-requests.true, z.places))

pub answer_all-requires : goal.answer_all-requires
answer_all-requires c =
    record {
      said = c.judged-c.ensures ∙ sym (check_tables _ c.if-t-ne-TABLE_WORDS.false);
      multiple = c.if-requests-ne0.false;
      places = omega
          (arith, c.if-answers-requests.false);
    }

pub returns : goal.returns
returns c =
    answered_ran _ _ _ _ _ (record {
      tables = c.if-t-ne-TABLE_WORDS.false;
      multiple = c.if-requests-ne0.false;
      places = omega
          (arith, c.if-answers-requests.false);
    })
    c.answer_all.ensures
