-- The two directions of a reference.
use Rattle.std.specs.Prelude.{true, List, [], ◌++◌, ◌∷◌, ◌≡◌, refl, ◌≤◌, pred, suc, zero, ℕ, eqb, length}
use Rattle.std.proofs.Common.{append_assoc, ◌∙◌, ap, sym, arith, eqb-true}
use Rattle.model.specs.Basics.Cases.{cases, true_or_false}
use Rattle.model.specs.Request.Words.{name_count}
use Rattle.model.specs.Text.LineLaws.{Form, next_back}
use Rattle.model.specs.Text.Lines.{line_end}
use Rattle.model.specs.Text.NumberLaws.{Back, Stops, digits_first, number_back, number_there}
use Rattle.model.specs.Text.Numbers.{digits, got, is_digit, number}
use Rattle.model.specs.Text.References.{dot_byte, dotted, further, joined, name_and, reference}
use Rattle.model.specs.Text.Textual.{AllFit}

stops_dotted : (ns x : List ℕ) → Stops (dotted ns ++ (line_end ∷ x))
stops_dotted [] x = refl
stops_dotted (n ∷ ns) x = refl

further_there : (k : ℕ) (ns x : List ℕ) → length ns ≤ k → AllFit ns → further k (dotted ns ++ (line_end ∷ x)) ≡ got ns (line_end ∷ x)
further_there zero [] x h ok = refl
further_there zero (n ∷ ns) x h ok = absurd (omega arith)
further_there (suc k) [] x h ok = refl
further_there (suc k) (n ∷ ns) x h ok =
    rw (
      append_assoc (digits n) (dotted ns) (line_end ∷ x),
      number_there n (dotted ns ++ (line_end ∷ x)) ok.0 (stops_dotted ns x),
      further_there k ns x (omega arith) ok.1,
    )

-- a number and at most k further names
record First (k : ℕ) (s ns x : List ℕ) : Type 0 where
  n : ℕ
  ms : List ℕ
  is : ns ≡ n ∷ ms
  few : length ms ≤ k
  fits : AllFit (n ∷ ms)
  same : s ≡ joined (n ∷ ms) ++ x

abbrev Further : ℕ → Type 0
Further k = (s ns x : List ℕ) → further k s ≡ got ns x → (length ns ≤ k) × (AllFit ns × (s ≡ dotted ns ++ x))

first_back : (k : ℕ) (s ns x : List ℕ) → Further k → name_and k s ≡ got ns x → First k s ns x
first_back k s ns x ih e =
    next_back (number s) _ ns x e λ n t en e₁.
    next_back (further k t) _ ns x e₁ λ ms u em e₂.
    let w : Back s n t = number_back s n t en in
    let v : (length ms ≤ k) × (AllFit ms × (t ≡ dotted ms ++ u)) = ih t ms u em in
    let eu : u ≡ x = cc in
    let et : t ≡ dotted ms ++ x = v.1.1 ∙ rw eu in
    let es : digits n ++ t ≡ (digits n ++ dotted ms) ++ x = rw (et) (sym (append_assoc (digits n) (dotted ms) x)) in
    record { n = n; ms = ms; is = cc; few = v.0; fits = (w.fits, v.1.0); same = w.same ∙ es }

first_dotted : (k b : ℕ) (s ns x : List ℕ) → b ≡ dot_byte → First k s ns x → (length ns ≤ suc k) × (AllFit ns × (b ∷ s ≡ dotted ns ++ x))
first_dotted k b s ns x e f = rw f.is (omega (arith, f.few), (f.fits, rw (e, ← f.same)))

first_joined : (k : ℕ) (s ns x : List ℕ) → First k s ns x → ((length ns ≤ suc k) × AllFit ns) × (s ≡ joined ns ++ x)
first_joined k s ns x f = rw f.is ((omega (arith, f.few), f.fits), f.same)

further_back : (k : ℕ) → Further k
further_back zero s ns x e = let p : [] ≡ ns = cc in let q : s ≡ x = cc in rw (← p) (omega arith, (tt, q))
further_back (suc k) [] ns x e = let p : [] ≡ ns = cc in let q : [] ≡ x = cc in rw (← p) (omega arith, (tt, q))
further_back (suc k) (b ∷ s) ns x e =
    cases (true_or_false (eqb b dot_byte))
    (λ h. first_dotted k b s ns x (eqb-true b dot_byte h) (first_back k s ns x (further_back k) (rw h at e)))
    (λ h. let z : got [] (b ∷ s) ≡ got ns x = rw h at e in
    let p : [] ≡ ns = cc in let q : b ∷ s ≡ x = cc in rw (← p) (omega arith, (tt, q)))

-- where a digit stands first there is a name
pub reference_digit : (s : List ℕ) (b : ℕ) (t : List ℕ) → s ≡ b ∷ t → is_digit b ≡ true → reference s ≡ name_and (pred name_count) s
reference_digit s b t e d = rw (e, d)

-- the names of a reference that is written are read again, in front of a line's end
pub reference_there : (ns x : List ℕ) → (length ns ≤ name_count) × AllFit ns → reference (joined ns ++ (line_end ∷ x)) ≡ got ns (line_end ∷ x)
reference_there [] x ok = refl
reference_there (n ∷ ns) x ok =
    let f : (b : ℕ) × (s : List ℕ) × (digits n ≡ b ∷ s) × (is_digit b ≡ true) = digits_first n ok.1.0 in
    let y = dotted ns ++ (line_end ∷ x) in
    let e : digits n ++ y ≡ f.0 ∷ (f.1 ++ y) = ap (λ l. l ++ y) f.2 in
    rw (
      append_assoc (digits n) (dotted ns) (line_end ∷ x),
      reference_digit (digits n ++ y) f.0 (f.1 ++ y) e f.3,
      number_there n y ok.1.0 (stops_dotted ns x),
      further_there (pred name_count) ns x (omega arith) ok.1.1,
    )

-- and what is read as a reference is what is written of its names
pub reference_back : (s ns x : List ℕ) → reference s ≡ got ns x → ((length ns ≤ name_count) × AllFit ns) × (s ≡ joined ns ++ x)
reference_back [] ns x e = let p : [] ≡ ns = cc in let q : [] ≡ x = cc in rw (← p) ((omega arith, tt), q)
reference_back (b ∷ s) ns x e =
    cases (true_or_false (is_digit b))
    (λ h. first_joined (pred name_count) (b ∷ s) ns x (first_back (pred name_count) (b ∷ s) ns x (further_back (pred name_count))
    (sym (reference_digit (b ∷ s) b s refl h) ∙ e)))
    (λ h. let z : got [] (b ∷ s) ≡ got ns x = rw h at e in
    let p : [] ≡ ns = cc in let q : b ∷ s ≡ x = cc in rw (← p) ((omega arith, tt), q))

-- the two together
abbrev pub references : Form (List ℕ)
references =
    record {
      write = joined;
      read = reference;
      Ok = λ ns. (length ns ≤ name_count) × AllFit ns;
      there = λ ns x h. reference_there ns x h;
      back = λ s ns x e. reference_back s ns x e;
    }
