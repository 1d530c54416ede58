-- A stage of the reading that came past some lines: each step of it did.
use Rattle.std.specs.Prelude.{List, ◌++◌, ◌≡◌, refl, ℕ}
use Rattle.std.proofs.Common.{append_assoc, ◌∙◌, ap, sym, arith}
use Rattle.model.specs.Tables.Words.{Tables}
use Rattle.model.specs.Text.Numbers.{Read, bad, got}
use Rattle.tables_text.specs.Stages.{Stage, either, onward, or_stuck, past, stuck}

-- the first of two steps came past,
pub onward_back : {C : Type 0} (r : Stage) (f : Tables → List ℕ → Stage) (d : Tables) (x : List ℕ) → onward r f ≡ past d x
    → ((c : Tables) (y : List ℕ) → r ≡ past c y → f c y ≡ past d x → C) → C
onward_back (past c y) f d x e k = k c y refl e
onward_back (stuck y) f d x e k = let z : ◌≡◌ {A = ℕ} 0 1 = cc in absurd (omega arith)

-- and a line that must be there was
pub or_stuck_back : {A C : Type 0} (s : List ℕ) (r : Read A) (f : A → List ℕ → Stage) (d : Tables) (x : List ℕ) → or_stuck s r f ≡ past d x
    → ((a : A) (y : List ℕ) → r ≡ got a y → f a y ≡ past d x → C) → C
or_stuck_back s (got a y) f d x e k = k a y refl e
or_stuck_back s bad f d x e k = let z : ◌≡◌ {A = ℕ} 0 1 = cc in absurd (omega arith)

-- the other way: a step that came past, and the next one from there
pub onward_there : (r : Stage) (f : Tables → List ℕ → Stage) (c : Tables) (y : List ℕ) (q : Stage) → r ≡ past c y → f c y ≡ q → onward r f ≡ q
onward_there r f c y q e h = ap (λ (p : Stage). onward p f) e ∙ h

pub or_stuck_there : {A : Type 0} (s : List ℕ) (r : Read A) (f : A → List ℕ → Stage) (a : A) (y : List ℕ) (q : Stage) → r ≡ got a y → f a y ≡ q
    → or_stuck s r f ≡ q
or_stuck_there {A} s r f a y q e h = ap (λ (p : Read A). or_stuck s p f) e ∙ h

-- a line, and those after it
pub lines_onto : (l m s t x : List ℕ) → s ≡ l ++ t → t ≡ m ++ x → s ≡ (l ++ m) ++ x
lines_onto l m s t x p q = p ∙ ap (λ r. l ++ r) q ∙ sym (append_assoc l m x)

-- the first line of a record was there, or it was not
pub either_back : {C : Type 0} (r : Read (Unit {0})) (f : Unit {0} → List ℕ → Stage) (t : Stage) (d : Tables) (x : List ℕ) → either r f t ≡ past d x
    → ((y : List ℕ) → r ≡ got tt y → f tt y ≡ past d x → C) → (r ≡ bad → t ≡ past d x → C) → C
either_back (got u y) f t d x e k l = k y refl e
either_back bad f t d x e k l = l refl e

-- the other way
pub either_got : (r : Read (Unit {0})) (f : Unit {0} → List ℕ → Stage) (t : Stage) (y : List ℕ) (q : Stage) → r ≡ got tt y → f tt y ≡ q → either r f t ≡ q
either_got r f t y q e h = ap (λ (p : Read (Unit {0})). either p f t) e ∙ h

pub either_bad : (r : Read (Unit {0})) (f : Unit {0} → List ℕ → Stage) (t q : Stage) → r ≡ bad → t ≡ q → either r f t ≡ q
either_bad r f t q e h = ap (λ (p : Read (Unit {0})). either p f t) e ∙ h

-- the first of three texts in front of more
pub head_first : (a b c x : List ℕ) → ((a ++ b) ++ c) ++ x ≡ a ++ (b ++ (c ++ x))
head_first a b c x = append_assoc (a ++ b) c x ∙ append_assoc a b (c ++ x)
