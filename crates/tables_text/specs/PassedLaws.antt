-- Good lines before some bytes (rule 16.3): what holds of the bytes holds of the lines and the bytes together, so many lines further. And where what is due
-- changes while no line is read.
use Rattle.std.specs.Prelude.{List, [], ◌++◌, ◌≡◌, refl, ◌+◌, suc, ℕ}
use Rattle.std.proofs.Common.{append_assoc, ◌∙◌, ap, subst, sym, arith}
use Rattle.model.specs.Tables.Words.{Tables}
use Rattle.model.specs.Text.Unfinished.{ends}
use Rattle.tables_text.specs.Due.{Due, FirstBad, Follows, MayEnd, Whole, end, further, here, onward as then}
use Rattle.tables_text.specs.EndsLaws.{ends_append}
use Rattle.tables_text.specs.Stages.{Stage, onward, past, stuck}

-- s is good lines where σ is due, and then x where τ is
pub record Passed (σ τ : Due) (s x : List ℕ) : Type 0 where
  pub lines : List ℕ
  pub is : s ≡ lines ++ x
  pub first : (n : ℕ) → FirstBad τ x n → FirstBad σ s (ends lines + n)
  pub whole : Whole τ x → Whole σ s

-- s is good lines where σ is due, and then x, of which the first line is bad or missing
pub record Stopped (σ : Due) (s x : List ℕ) : Type 0 where
  pub lines : List ℕ
  pub is : s ≡ lines ++ x
  pub first : FirstBad σ s (suc (ends lines))

-- what a stage says of the bytes s, where σ is due at first, and T d behind lines that gave the tables d
pub data Tells (σ : Due) (T : Tables → Due) (s : List ℕ) : Stage → Type 0 where
  passes : {d : Tables} {x : List ℕ} → Passed σ (T d) s x → Tells σ T s (past d x)
  stops : {x : List ℕ} → Stopped σ s x → Tells σ T s (stuck x)

-- ---- one after another

pub passed_none : {σ : Due} {s : List ℕ} → Passed σ σ s s
passed_none {σ} {s} =
    record { lines = []; is = refl; first = λ n f. let e : n ≡ 0 + n = omega arith in subst (FirstBad σ s) e f; whole = λ w. w }

passed_on : {σ τ ρ : Due} {s x y : List ℕ} → Passed σ τ s x → Passed τ ρ x y → Passed σ ρ s y
passed_on {σ} {τ} {ρ} {s} {x} {y} a b = record {
  lines = a.lines ++ b.lines;
  is = a.is ∙ ap (λ l. a.lines ++ l) b.is ∙ sym (append_assoc a.lines b.lines y);
  first = λ n f. subst (FirstBad σ s) (count n) (a.first (ends b.lines + n) (b.first n f));
  whole = λ w. a.whole (b.whole w);
}
  where
    count : (n : ℕ) → ends a.lines + (ends b.lines + n) ≡ ends (a.lines ++ b.lines) + n
    count n = omega (arith, ends_append a.lines b.lines)

stopped_on : {σ τ : Due} {s x y : List ℕ} → Passed σ τ s x → Stopped τ x y → Stopped σ s y
stopped_on {σ} {τ} {s} {x} {y} a b = record {
  lines = a.lines ++ b.lines;
  is = a.is ∙ ap (λ l. a.lines ++ l) b.is ∙ sym (append_assoc a.lines b.lines y);
  first = subst (FirstBad σ s) count (a.first (suc (ends b.lines)) b.first);
}
  where
    count : ends a.lines + suc (ends b.lines) ≡ suc (ends (a.lines ++ b.lines))
    count = omega (arith, ends_append a.lines b.lines)

pub tells_behind : {σ τ : Due} {T : Tables → Due} {s x : List ℕ} {r : Stage} → Passed σ τ s x → Tells τ T x r → Tells σ T s r
tells_behind a (passes b) = passes (passed_on a b)
tells_behind a (stops b) = stops (stopped_on a b)

pub tells_onward : {σ : Due} {T U : Tables → Due} {s : List ℕ} {r : Stage} (f : Tables → List ℕ → Stage) → Tells σ T s r
    → ((d : Tables) (x : List ℕ) → Tells (T d) U x (f d x)) → Tells σ U s (onward r f)
tells_onward f (passes {d} {x} a) b = tells_behind a (b d x)
tells_onward f (stops a) b = stops a

-- ---- one line

-- a good line,
pub line_passed : {σ τ : Due} {l s x : List ℕ} → Follows σ l τ → ends l ≡ 1 → s ≡ l ++ x → Passed σ τ s x
line_passed {σ} {τ} {l} {s} {x} g one e = record {
  lines = l;
  is = e;
  first = λ n f. subst (FirstBad σ s) (count n) (subst (λ (y : List ℕ). FirstBad σ y (suc n)) (sym e) (further g f));
  whole = λ w. subst (Whole σ) (sym e) (then g w);
}
  where
    count : (n : ℕ) → suc n ≡ ends l + n
    count n = omega arith

-- and where there is none.
pub none_stopped : {σ : Due} {s : List ℕ} → (s ≡ [] → MayEnd σ → ⊥) → ((l x : List ℕ) (τ : Due) → Follows σ l τ → s ≡ l ++ x → ⊥) → Stopped σ s s
none_stopped m out = record { lines = []; is = refl; first = here m out }

-- ---- no line

-- where τ is due, what may come is what may come where σ is, of the lines with which s begins
pub record Weaker (σ τ : Due) (s : List ℕ) : Type 0 where
  pub may : (l : List ℕ) (ρ : Due) → Follows τ l ρ → Follows σ l ρ
  pub must : (l x : List ℕ) (ρ : Due) → Follows σ l ρ → s ≡ l ++ x → Follows τ l ρ
  pub ends_may : MayEnd τ → MayEnd σ
  pub ends_must : MayEnd σ → MayEnd τ

weaker_first : {σ τ : Due} {s : List ℕ} {n : ℕ} → Weaker σ τ s → FirstBad τ s n → FirstBad σ s n
weaker_first w (here p out) = here (λ e m. p e (w.ends_must m)) (λ l x ρ f e. out l x ρ (w.must l x ρ f e) e)
weaker_first w (further {τ = ρ} {l = l} f b) = further (w.may l ρ f) b

weaker_whole : {σ τ : Due} {s : List ℕ} → Weaker σ τ s → Whole τ s → Whole σ s
weaker_whole w (end m) = end (w.ends_may m)
weaker_whole w (then {τ = ρ} {l = l} f b) = then (w.may l ρ f) b

pub weaker_passed : {σ τ : Due} {s : List ℕ} → Weaker σ τ s → Passed σ τ s s
weaker_passed {σ} {τ} {s} w = record {
  lines = [];
  is = refl;
  first = λ n f. let e : n ≡ 0 + n = omega arith in subst (FirstBad σ s) e (weaker_first w f);
  whole = λ x. weaker_whole w x;
}
