-- What the model computes of a case holds of the calls.
use Rattle.std.specs.Prelude.{true, List, [], ◌++◌, ◌∷◌, ◌≡◌, ℕ, T, drop, length}
use Rattle.std.proofs.Common.{◌∙◌, ap, subst, sym, arith}
use Rattle.exhibits.specs.Called.{AllConfirmed, AllInOneRun, Confirmed, InOneRun}
use Rattle.mms.specs.CallLaws.{step_number}
use Rattle.mms.specs.Calls.{no_in}
use Rattle.mms.specs.Contract.{Exports, exported}
use Rattle.mms.specs.MixedLaws.{call_settles, through_run}
use Rattle.mms.specs.RunCallLaws.{run_number}
use Rattle.mms.specs.declared.Answer.{Answer}
use Rattle.cases.specs.Case.Cases.{Case, Exchange, Stands, ◌gets◌, all_in_sixteen, all_pass, asked, gotten, in_sixteen, passes_at, stand}
use Rattle.cases.specs.Case.RunLaws.{asked_length, asked_sixteen, case_through, first_passes}
use Rattle.model.specs.Basics.TestLaws.{T-l, T-r}
use Rattle.model.specs.Run.Through.{Through, end, next}
use Rattle.model.proofs.Run.ThroughLaws.{through_length}
use Rattle.model.specs.Tables.Layout.{tables_of, word_count}
use Rattle.model.specs.Tables.Words.{Tables}
use Rattle.model.proofs.Theorem.Unique.{settles_unique}

-- Requests that go through the words t with a case's answers, and leave its words standing: so does whatever the calls answer and leave.
through_called : {t u : List ℕ} (es : List Exchange) (ws : List Stands) → Through t (asked es) (gotten es) u → T (stand ws (tables_of u)) → Confirmed t es ws
through_called [] ws end p = p
through_called {t} (q gets n ∷ es) ws (next {r = v} s x) p =
    λ a r c.
    let e = settles_unique t q (no_in a) n r v (call_settles c) s in
    (omega (arith, e.0, step_number c), subst (λ (l : List ℕ). Confirmed l es ws) (sym e.1) (through_called es ws x p))

-- A case that passes on the tables d holds of calls on the words of d.
case_called : (t : List ℕ) (d : Tables) (es : List Exchange) (ws : List Stands) → length t ≡ word_count → tables_of t ≡ d → T (in_sixteen es)
    → T (passes_at d es ws) → Confirmed t es ws
case_called t d es ws l e s p = let z = case_through t d es ws l e s p in through_called es ws z.0 z.1

-- So it is with a table of cases,
pub cases_called : (t : List ℕ) (d : Tables) (cs : List Case) → length t ≡ word_count → tables_of t ≡ d → T (all_in_sixteen cs) → all_pass d cs ≡ true
    → AllConfirmed t cs
cases_called t d [] l e s p = tt
cases_called t d (c ∷ cs) l e s p =
    let f = first_passes d c cs p in (
      case_called t d c.exchanges c.standing l e (T-l (in_sixteen c.exchanges) (all_in_sixteen cs) s) f.0,
      cases_called t d cs l e (T-r (in_sixteen c.exchanges) (all_in_sixteen cs) s) f.1,
    )

-- and with two tables.
pub both_called : (t : List ℕ) (cs ds : List Case) → AllConfirmed t cs → AllConfirmed t ds → AllConfirmed t (cs ++ ds)
both_called t [] ds h k = k
both_called t (c ∷ cs) ds h k = (h.0, both_called t cs ds h.1 k)

-- In one run a case has the same answers, and leaves the same words.
case_run : (t : List ℕ) (d : Tables) (es : List Exchange) (ws : List Stands) → length t ≡ word_count → tables_of t ≡ d → T (in_sixteen es)
    → T (passes_at d es ws) → InOneRun t es ws
case_run t d es ws l e s p room h a r v x =
    let z = case_through t d es ws l e s p in
    let n = asked_length es in
    let k = through_run z.0 (asked_sixteen es s) l (omega arith) x in
    let m : length (gotten es) ≡ length es = through_length z.0 ∙ n in (
      omega (arith, k.accepted, run_number x),
      k.answers ∙ ap (λ (i : ℕ). gotten es ++ drop i room) m,
      subst (λ (u : List ℕ). T (stand ws (tables_of u))) (sym k.tables) z.1,
    )

pub cases_run : (t : List ℕ) (d : Tables) (cs : List Case) → length t ≡ word_count → tables_of t ≡ d → T (all_in_sixteen cs) → all_pass d cs ≡ true
    → AllInOneRun t cs
cases_run t d [] l e s p = tt
cases_run t d (c ∷ cs) l e s p =
    let f = first_passes d c cs p in (
      case_run t d c.exchanges c.standing l e (T-l (in_sixteen c.exchanges) (all_in_sixteen cs) s) f.0,
      cases_run t d cs l e (T-r (in_sixteen c.exchanges) (all_in_sixteen cs) s) f.1,
    )

pub both_run : (t : List ℕ) (cs ds : List Case) → AllInOneRun t cs → AllInOneRun t ds → AllInOneRun t (cs ++ ds)
both_run t [] ds h k = k
both_run t (c ∷ cs) ds h k = (h.0, both_run t cs ds h.1 k)

-- Where any answer that meets a promise is b and leaves s, C gets the word of b, and s is left.
pub called_word : (P : Answer → List ℕ → Type 0) (b : Answer) (s : List ℕ) → ((a : Answer) (r : List ℕ) → P a r → (a ≡ b) × (r ≡ s))
    → (a : ℕ) (r : List ℕ) → Exports P a r → (a ≡ exported b) × (r ≡ s)
called_word P b s one a r x =
    let e = one x.answer r x.called in
    (x.word ∙ ap (λ (c : Answer). exported c) e.0, e.1)
