-- The laws of lines: a value has two directions, and a line has them where its value has.
use Rattle.std.specs.Prelude.{List, [], ◌++◌, ◌∷◌, ◌≡◌, refl, ◌+◌, ◌≤◌, ℕ, eqb, length}
use Rattle.std.proofs.Common.{append_assoc, ◌∙◌, arith, length-append, eq-eqb, eqb-true}
use Rattle.std.proofs.Math.Path.{ap, sym}
use Rattle.model.specs.Basics.Cases.{cases, true_or_false}
use Rattle.model.specs.Text.Lines.{behind, line, line_end, next, read_line}
use Rattle.model.specs.Text.NumberLaws.{Back, number_back, number_there}
use Rattle.model.specs.Text.Numbers.{Read, bad, digits, got, most, number}

-- a value of a line and its two directions, in front of the LF
pub record Form (A : Type 0) : Type 1 where
  pub write : A → List ℕ
  pub read : List ℕ → Read A
  pub Ok : A → Type 0
  pub there : (a : A) (x : List ℕ) → Ok a → read (write a ++ (line_end ∷ x)) ≡ got a (line_end ∷ x)
  pub back : (s : List ℕ) (a : A) (x : List ℕ) → read s ≡ got a x → Ok a × (s ≡ write a ++ x)

-- those of a number
abbrev pub numbers : Form ℕ
numbers =
    record {
      write = digits;
      read = number;
      Ok = λ n. n ≤ most;
      there = λ n x h. number_there n (line_end ∷ x) h refl;
      back = λ s n x e. let w : Back s n x = number_back s n x e in (w.fits, w.same);
    }

-- what stands before a next was got: handed on, so that its parts are variables there
pub next_back : {A B C : Type 0} (r : Read A) (f : A → List ℕ → Read B) (b : B) (y : List ℕ) → next r f ≡ got b y
    → ((a : A) (x : List ℕ) → r ≡ got a x → f a x ≡ got b y → C) → C
next_back (got a x) f b y e k = k a x refl e
next_back bad f b y e k = let z : ◌≡◌ {A = ℕ} 0 1 = cc in absurd (omega arith)

-- a key that stands there is found,
pub behind_there : (k x : List ℕ) → behind k (k ++ x) ≡ got tt x
behind_there [] x = refl
behind_there (a ∷ k) x = rw (eq-eqb a a refl) (behind_there k x)

-- and one that was found stands there
pub behind_back : (k s x : List ℕ) → behind k s ≡ got tt x → s ≡ k ++ x
behind_back [] s x e = cc
behind_back (a ∷ k) [] x e = let z : ◌≡◌ {A = ℕ} 0 1 = cc in absurd (omega arith)
behind_back (a ∷ k) (b ∷ s) x e =
    cases (true_or_false (eqb b a))
    (λ h. let t : s ≡ k ++ x = behind_back k s x (rw h at e) in rw (eqb-true b a h, t))
    (λ h. let y : bad ≡ got tt x = rw h at e in let z : ◌≡◌ {A = ℕ} 0 1 = cc in absurd (omega arith))

line_onto : (key w x : List ℕ) → line key w ++ x ≡ key ++ (w ++ (line_end ∷ x))
unfolding line
line_onto key w x = rw (append_assoc key (w ++ (line_end ∷ [])) x, append_assoc w (line_end ∷ []) x)

module _ {A : Type 0} (F : Form A) (key : List ℕ) where
  -- a line that is written is read again,
  pub line_there : (a : A) (x : List ℕ) → F.Ok a → read_line key F.read (line key (F.write a) ++ x) ≡ got a x
  unfolding read_line
  line_there a x ok = rw (line_onto key (F.write a) x, behind_there key (F.write a ++ (line_end ∷ x)), F.there a x ok)

  -- and one that is read is what is written of its value
  pub line_back : (s : List ℕ) (a : A) (x : List ℕ) → read_line key F.read s ≡ got a x → F.Ok a × (s ≡ line key (F.write a) ++ x)
  unfolding read_line
  line_back s a x e =
      next_back (behind key s) _ a x e λ _ t et e₁.
      next_back (F.read t) _ a x e₁ λ v u ev e₂.
      next_back (behind (line_end ∷ []) u) _ a x e₂ λ _ w ew e₃.
      let ea : v ≡ a = cc in
      let ex : w ≡ x = cc in
      let b : F.Ok v × (t ≡ F.write v ++ u) = F.back t v u ev in
      let eu : u ≡ line_end ∷ x = behind_back (line_end ∷ []) u w ew ∙ rw ex in
      let r : F.Ok a × (t ≡ F.write a ++ u) = rw ea at b in
      (r.0, behind_back key s t et ∙ ap (λ l. key ++ l) (r.1 ∙ ap (λ l. F.write a ++ l) eu) ∙ sym (line_onto key (F.write a) x))

-- how long a line is
pub length_line : (key v : List ℕ) → length (line key v) ≡ length key + (length v + 1)
unfolding line
length_line key v = rw (length-append key (v ++ (line_end ∷ [])), length-append v (line_end ∷ []))

-- a key, what stands after it, and LF are a line
pub is_line : (key v : List ℕ) → (key ++ v) ++ (line_end ∷ []) ≡ line key v
unfolding line
is_line key v = append_assoc key v (line_end ∷ [])
