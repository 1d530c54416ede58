-- The requests of a case as a run: what passes on tables goes through their words with the same answers.
use Rattle.std.specs.Prelude.{Bool, false, true, List, [], ◌∷◌, ◌≡◌, refl, suc, ℕ, T, eqb, length}
use Rattle.std.proofs.Common.{◌∙◌, ap, subst, sym, eqb→eq}
use Rattle.cases.specs.Case.Cases.{Case, Exchange, Stands, ◌gets◌, all_pass, asked, gotten, in_sixteen, passes_at, stand}
use Rattle.model.specs.Basics.TestLaws.{T-l, T-r, is_true}
use Rattle.model.specs.Request.After.{after}
use Rattle.model.specs.Request.Ladder.{answer}
use Rattle.model.specs.Request.Step.{Settles, after_of, answer_of}
use Rattle.model.specs.Request.Words.{request_of, request_words}
use Rattle.model.specs.Run.Requests.{AllSixteen}
use Rattle.model.specs.Run.Through.{Through, end, next}
use Rattle.model.specs.Tables.Layout.{tables_of, word_count}
use Rattle.model.specs.Tables.Words.{Tables}
use Rattle.model.specs.Theorem.Statements.{after_words}
use Rattle.model.proofs.Theorem.Steps.{after_of_length, after_of_tables, answer_of_sized, sized_agrees}
use Rattle.model.proofs.Theorem.Unique.{settles}

pub asked_length : (es : List Exchange) → length (asked es) ≡ length es
asked_length [] = refl
asked_length (q gets n ∷ es) = ap suc (asked_length es)

pub asked_sixteen : (es : List Exchange) → T (in_sixteen es) → AllSixteen (asked es)
asked_sixteen [] s = tt
asked_sixteen (q gets n ∷ es) s = (
  eqb→eq (length q) request_words (T-l (eqb (length q) request_words) (in_sixteen es) s),
  asked_sixteen es
      (T-r (eqb (length q) request_words) (in_sixteen es) s),
)

-- A case that passes on the tables d: its requests go through the words of d with its answers, and at the end its words stand.
pub case_through : (t : List ℕ) (d : Tables) (es : List Exchange) (ws : List Stands) → length t ≡ word_count → tables_of t ≡ d → T (in_sixteen es)
    → T (passes_at d es ws) → Through t (asked es) (gotten es) (after_words t (asked es)) × T (stand ws (tables_of (after_words t (asked es))))
unfolding passes_at after_words
case_through t d [] ws l e s p = (end, subst (λ (c : Tables). T (stand ws c)) (sym e) p)
case_through t d (q gets n ∷ es) ws l e s p =
    let z = (sized_agrees t q).from (l, eqb→eq (length q) request_words (T-l (eqb (length q) request_words) (in_sixteen es) s)) in
    let m = eqb→eq (answer d (request_of q)) n (T-l (eqb (answer d (request_of q)) n) (passes_at (after d (request_of q)) es ws) p) in
    let b : answer_of t q ≡ n = answer_of_sized t q z ∙ ap (λ (c : Tables). answer c (request_of q)) e ∙ m in
    let h = case_through (after_of t q) (after d (request_of q)) es ws (after_of_length t q ∙ l)
    (after_of_tables t q z ∙ ap (λ (c : Tables). after c (request_of q)) e) (T-r (eqb (length q) request_words) (in_sixteen es) s)
    (T-r (eqb (answer d (request_of q)) n) (passes_at (after d (request_of q)) es ws) p) in
    (next (subst (λ (k : ℕ). Settles t q k (after_of t q)) b (settles t q)) h.0, h.1)

-- the first case of a table passes, and so do the others
pub first_passes : (d : Tables) (c : Case) (cs : List Case) → all_pass d (c ∷ cs) ≡ true → T (passes_at d c.exchanges c.standing) × (all_pass d cs ≡ true)
unfolding all_pass
first_passes d c cs p = go (passes_at d c.exchanges c.standing) p
  where
    go : (b : Bool) → elim b [ true ↦ all_pass d cs | false ↦ false ] ≡ true → T b × (all_pass d cs ≡ true)
    go true z = (tt, z)
    go false z = absurd (is_true false z)
