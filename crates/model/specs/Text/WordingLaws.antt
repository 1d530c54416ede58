-- Reading a request's text and writing it are inverse, for the next seven lines of some bytes and for a whole text.
use Rattle.std.specs.Prelude.{List, [], ◌++◌, ◌∷◌, ◌≡◌, refl, ◌+◌, ◌<◌, ℕ, length}
use Rattle.std.proofs.Common.{append_assoc, append-nil, ◌∙◌, ap, sym, arith, length-append}
use Rattle.model.specs.Text.LineLaws.{length_line, line_back, line_there, numbers}
use Rattle.model.specs.Text.Lines.{line, read_line}
use Rattle.model.specs.Text.Numbers.{Read, bad, digits, got, number}
use Rattle.model.specs.Text.ReferenceLaws.{references}
use Rattle.model.specs.Text.References.{joined, reference}
use Rattle.model.specs.Text.Textual.{Written}
use Rattle.model.specs.Text.Wording.{Lines, Wording, a_key, at_end, b_key, bad_line, c_key, lines, op_key, or_line, read_seven, read_text}
use Rattle.model.specs.Text.Wording.{ref2_key, ref_key, text_of, user_key}

text_onto : (m : Wording) (x : List ℕ)
    → text_of m ++ x
    ≡ line user_key (digits m.user) ++
    (line op_key (digits m.operation) ++
    (line ref_key (joined m.first) ++
    (line ref2_key (joined m.second) ++
    (line a_key (digits m.a) ++
    (line b_key (digits m.b) ++
    (line c_key (digits m.c) ++ x))))))
unfolding text_of
text_onto m x = simp append_assoc

-- what was written is read again
pub text_there : (m : Wording) (x : List ℕ) → Written m → read_seven (text_of m ++ x) ≡ lines m x
unfolding read_seven
text_there m x ok =
    rw (
      text_onto m x,
      line_there numbers user_key m.user _ ok.user,
      line_there numbers op_key m.operation _ ok.operation,
      line_there references ref_key m.first _ ok.first,
      line_there references ref2_key m.second _ ok.second,
      line_there numbers a_key m.a _ ok.a,
      line_there numbers b_key m.b _ ok.b,
      line_there numbers c_key m.c _ ok.c,
    )

or_line_back : {A C : Type 0} (k : ℕ) (r : Read A) (f : A → List ℕ → Lines) (m : Wording) (y : List ℕ) → or_line k r f ≡ lines m y
    → ((a : A) (x : List ℕ) → r ≡ got a x → f a x ≡ lines m y → C) → C
or_line_back k (got a x) f m y e g = g a x refl e
or_line_back k bad f m y e g = let z : ◌≡◌ {A = ℕ} 0 1 = cc in absurd (omega arith)

-- what was read is what is written of it
pub text_back : (s : List ℕ) (m : Wording) (x : List ℕ) → read_seven s ≡ lines m x → Written m × (s ≡ text_of m ++ x)
unfolding read_seven
text_back s m x e =
    or_line_back 1 (read_line user_key number s) _ m x e λ user s₁ e₁ f₁.
    or_line_back 2 (read_line op_key number s₁) _ m x f₁ λ op s₂ e₂ f₂.
    or_line_back 3 (read_line ref_key reference s₂) _ m x f₂ λ ref s₃ e₃ f₃.
    or_line_back 4 (read_line ref2_key reference s₃) _ m x f₃ λ ref2 s₄ e₄ f₄.
    or_line_back 5 (read_line a_key number s₄) _ m x f₄ λ a s₅ e₅ f₅.
    or_line_back 6 (read_line b_key number s₅) _ m x f₅ λ b s₆ e₆ f₆.
    or_line_back 7 (read_line c_key number s₆) _ m x f₆ λ c s₇ e₇ f₇.
    let p : Wording = record { user = user; operation = op; first = ref; second = ref2; a = a; b = b; c = c } in
    let eq : p ≡ m = cc in
    let ex : s₇ ≡ x = cc in
    let w₁ = line_back numbers user_key s user s₁ e₁ in
    let w₂ = line_back numbers op_key s₁ op s₂ e₂ in
    let w₃ = line_back references ref_key s₂ ref s₃ e₃ in
    let w₄ = line_back references ref2_key s₃ ref2 s₄ e₄ in
    let w₅ = line_back numbers a_key s₄ a s₅ e₅ in
    let w₆ = line_back numbers b_key s₅ b s₆ e₆ in
    let w₇ = line_back numbers c_key s₆ c s₇ e₇ in
    let same : s ≡ text_of p ++ s₇ = cc (text_onto p s₇) in
    let ok : Written p = record { user = w₁.0; operation = w₂.0; first = w₃.0; second = w₄.0; a = w₅.0; b = w₆.0; c = w₇.0 } in
    (rw eq at ok, cc)

-- how long the seven lines are
pub text_length : (m : Wording)
    → length (text_of m)
    ≡ length (line user_key (digits m.user)) +
    (length (line op_key (digits m.operation)) +
    (length (line ref_key (joined m.first)) +
    (length (line ref2_key (joined m.second)) +
    (length (line a_key (digits m.a)) +
    (length (line b_key (digits m.b)) +
    length (line c_key (digits m.c)))))))
unfolding text_of
text_length m = simp length-append

-- a text that was read is one byte long at least
pub text_some : (m : Wording) → 0 < length (text_of m)
text_some m = omega (arith, text_length m, length_line user_key (digits m.user))

-- a whole text: from the wording and back to it,
pub whole_there : (m : Wording) → Written m → read_text (text_of m) ≡ lines m []
unfolding read_text
whole_there m ok = ap (λ l. at_end (read_seven l)) (sym (append-nil (text_of m))) ∙ rw (text_there m [] ok)

-- and from the text and back to that
pub whole_back : (s : List ℕ) (m : Wording) (x : List ℕ) → read_text s ≡ lines m x → Written m × (s ≡ text_of m)
unfolding read_text
whole_back s m x e = go (read_seven s) refl e
  where
    go : (r : Lines) → read_seven s ≡ r → at_end r ≡ lines m x → Written m × (s ≡ text_of m)
    go (lines p []) f g =
        let eq : p ≡ m = cc in
        let b : Written p × (s ≡ text_of p ++ []) = text_back s p [] f in
        let c : Written p × (s ≡ text_of p) = (b.0, b.1 ∙ append-nil (text_of p)) in
        rw eq at c
    go (lines p (b ∷ y)) f g = let z : ◌≡◌ {A = ℕ} 0 1 = cc in absurd (omega arith)
    go (bad_line k) f g = let z : ◌≡◌ {A = ℕ} 0 1 = cc in absurd (omega arith)
