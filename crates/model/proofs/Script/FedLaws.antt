-- The laws of a script that arrives piece by piece: with room for one report the program comes to its end whatever the pieces are, and its reports do
-- not depend on how the script was cut.
use Rattle.std.specs.Prelude.{Bool, false, true, List, [], ◌++◌, ◌∷◌, ◌≢◌, ◌≡◌, refl, ◌<◌, ◌≤◌, suc, zero, ℕ, eqb, length}
use Rattle.std.proofs.Common.{inl, inr, subst, sym, arith, eqb-true}
use Rattle.model.specs.Basics.Together.{together}
use Rattle.model.specs.Basics.Cases.{cases, lt_or_le}
use Rattle.model.specs.Script.Reports.{Report, output}
use Rattle.model.specs.Script.Runs.{Answered}
use Rattle.model.specs.Script.RunsLaws.{answered_unique, runs_shorter}
use Rattle.model.proofs.Script.WindowLaws.{fed_answered, ran_rest_short, ran_runs}
use Rattle.model.specs.Script.Windows.{Fed, again, done, over, piece, ran, report_bytes}
use Rattle.std.proofs.lemmas.Bool.{eqb-false}

-- ---- the end of the script

-- reports that have a byte are some
output_some : (rs : List Report) → 0 < length (output rs) → 0 < length rs
unfolding output
output_some [] h = absurd (omega arith)
output_some (r ∷ rs) h = omega arith

-- With room for a report, the last window leaves nothing, or fewer bytes than it had.
last_shorter : (n : ℕ) (t w : List ℕ) → report_bytes ≤ n → (ran t w true n).line ≡ 0 → (ran t w true n).rest ≢ []
    → length (ran t w true n).rest < length w
last_shorter n t w room good more = cases (lt_or_le 0 (length (output rs))) settled waiting
  where
    rs : List Report
    rs = (ran t w true n).reports

    settled : 0 < length (output rs) → length (ran t w true n).rest < length w
    settled h = omega (arith, output_some rs h, runs_shorter ((ran_runs t w true n).good good))

    waiting : length (output rs) ≤ 0 → length (ran t w true n).rest < length w
    waiting h = cases (ran_rest_short t w true n good (omega arith)) (λ q. absurd (more q)) (λ q. let z : ◌≡◌ {A = ℕ} 0 1 = cc in absurd (omega arith))

-- so the program ends there, by turns
end_some : (k n : ℕ) (t w : List ℕ) → report_bytes ≤ n → length w < k → (rs : List Report) × Fed n t w [] rs
end_some zero n t w room h = absurd (omega arith)
end_some (suc k) n t w room h =
    go (λ l. end_some k n (ran t w true n).tables (ran t w true n).rest room l) (eqb (ran t w true n).line 0) refl (ran t w true n).rest refl
  where
    Next : Type 0
    Next = length (ran t w true n).rest < k → (rs : List Report) × Fed n (ran t w true n).tables (ran t w true n).rest [] rs

    go : Next → (b : Bool) → eqb (ran t w true n).line 0 ≡ b → (x : List ℕ) → (ran t w true n).rest ≡ x → (rs : List Report) × Fed n t w [] rs
    go next false e x f = ((ran t w true n).reports, done (inl (eqb-false (ran t w true n).line 0 e)))
    go next true e [] f = ((ran t w true n).reports, done (inr f))
    go next true e (b ∷ x) f =
        let good = eqb-true (ran t w true n).line 0 e in
        let more : (ran t w true n).rest ≢ [] = λ q. let z : ◌≡◌ {A = ℕ} 0 1 = cc in absurd (omega arith) in
        let p = next (omega (arith, last_shorter n t w room good more)) in
        ((ran t w true n).reports ++ p.0, again good more p.1)

-- ---- all pieces

-- Rules 12.2 and 12.4: with room for one report at least, every script is answered to its end, whatever the tables, the bytes held and the
-- pieces to come.
pub fed_some : (n : ℕ) → report_bytes ≤ n → (t w : List ℕ) (cs : List (List ℕ)) → (rs : List Report) × Fed n t w cs rs
fed_some n room t w [] = end_some (suc (length w)) n t w room (omega arith)
fed_some n room t w (c ∷ cs) =
    go (fed_some n room (ran t (w ++ c) false n).tables (ran t (w ++ c) false n).rest cs) (eqb (ran t (w ++ c) false n).line 0) refl
  where
    Next : Type 0
    Next = (rs : List Report) × Fed n (ran t (w ++ c) false n).tables (ran t (w ++ c) false n).rest cs rs

    go : Next → (b : Bool) → eqb (ran t (w ++ c) false n).line 0 ≡ b → (rs : List Report) × Fed n t w (c ∷ cs) rs
    go p false e = ((ran t (w ++ c) false n).reports, over (eqb-false (ran t (w ++ c) false n).line 0 e))
    go p true e = ((ran t (w ++ c) false n).reports ++ p.0, piece (eqb-true (ran t (w ++ c) false n).line 0 e) p.1)

-- Rules 12.2 and 14.2: two ways of cutting a script, in whatever room, give the same reports.
pub fed_same : {n m : ℕ} {t w v : List ℕ} {cs ds : List (List ℕ)} {rs qs : List Report} → Fed n t w cs rs → Fed m t v ds qs
    → w ++ together cs ≡ v ++ together ds → rs ≡ qs
fed_same {t = t} {qs = qs} f g e = answered_unique (fed_answered f) (subst (λ s. Answered t s qs) (sym e) (fed_answered g))
