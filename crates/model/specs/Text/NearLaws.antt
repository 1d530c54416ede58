-- Reading a request looks no further than it must: bytes after a request do not change what is read, a request that is read takes bytes away, and a
-- bad line is one of the seven.
use Rattle.std.specs.Prelude.{Bool, ◌&&◌, false, true, List, [], ◌++◌, ◌∷◌, ◌⊎◌, ◌≡◌, refl, ◌+◌, ◌<◌, ◌≤◌, ℕ, eqb, ltb, length}
use Rattle.std.proofs.Common.{append_assoc, ◌∙◌, ap, arith, length-append, ltb-false, ne_eqb}
use Rattle.model.specs.Basics.Cases.{cases}
use Rattle.model.specs.Basics.Choice.{pick}
use Rattle.model.specs.Text.Lines.{line_end, read_line}
use Rattle.model.specs.Text.NumberLaws.{digit_of}
use Rattle.model.specs.Text.Numbers.{Read, bad, got, is_digit, number}
use Rattle.model.specs.Text.References.{reference}
use Rattle.model.specs.Text.Textual.{Written}
use Rattle.model.specs.Text.Unfinished.{ends, line_total, longest, unfinished}
use Rattle.model.specs.Text.WeightLaws.{extended, seven_near, weight}
use Rattle.model.specs.Text.Wording.{Lines, Wording, a_key, b_key, bad_line, c_key, lines, op_key, or_line, read_seven, ref2_key, ref_key}
use Rattle.model.specs.Text.Wording.{text_of, user_key}
use Rattle.model.specs.Text.WordingLaws.{text_back, text_some, text_there}

-- a request that was read is read in front of any further bytes, too
pub read_longer : (s : List ℕ) (m : Wording) (x : List ℕ) → read_seven s ≡ lines m x → (y : List ℕ) → read_seven (s ++ y) ≡ lines m (x ++ y)
read_longer s m x e y =
    let b : Written m × (s ≡ text_of m ++ x) = text_back s m x e in
    ap (λ l. read_seven (l ++ y)) b.1 ∙ ap read_seven (append_assoc (text_of m) x y) ∙ text_there m (x ++ y) b.0

-- a request has one byte at least
pub read_shorter : (s : List ℕ) (m : Wording) (x : List ℕ) → read_seven s ≡ lines m x → length x < length s
read_shorter s m x e = rw ((text_back s m x e).1, length-append (text_of m) x) (omega (arith, text_some m))

-- a bad line is the one at hand, or one after it
or_line_bad : {A C : Type 0} (k : ℕ) (r : Read A) (f : A → List ℕ → Lines) (j : ℕ) → or_line k r f ≡ bad_line j → (k ≡ j → C)
    → ((a : A) (x : List ℕ) → f a x ≡ bad_line j → C) → C
or_line_bad k (got a x) f j e g h = h a x e
or_line_bad k bad f j e g h = g cc

-- Rule 11.4: a bad line is one of the lines 1 to 7.
pub read_bad : (s : List ℕ) (j : ℕ) → read_seven s ≡ bad_line j → (1 ≤ j) × (j ≤ line_total)
unfolding read_seven
read_bad s j e =
    or_line_bad 1 (read_line user_key number s) _ j e (λ q. (omega arith, omega arith)) λ user s₁ e₁.
    or_line_bad 2 (read_line op_key number s₁) _ j e₁ (λ q. (omega arith, omega arith)) λ op s₂ e₂.
    or_line_bad 3 (read_line ref_key reference s₂) _ j e₂ (λ q. (omega arith, omega arith)) λ ref s₃ e₃.
    or_line_bad 4 (read_line ref2_key reference s₃) _ j e₃ (λ q. (omega arith, omega arith)) λ ref2 s₄ e₄.
    or_line_bad 5 (read_line a_key number s₄) _ j e₄ (λ q. (omega arith, omega arith)) λ a s₅ e₅.
    or_line_bad 6 (read_line b_key number s₅) _ j e₅ (λ q. (omega arith, omega arith)) λ b s₆ e₆.
    or_line_bad 7 (read_line c_key number s₆) _ j e₆ (λ q. (omega arith, omega arith)) λ c s₇ e₇.
    let z : ◌≡◌ {A = ℕ} 0 1 = cc in absurd (omega arith)

-- ---- further bytes

-- every byte weighs 1, or LF alone does
abbrev every : ℕ → ℕ
every b = 1

abbrev end_only : ℕ → ℕ
end_only b = pick (eqb b line_end) 1 0

weight_length : (s : List ℕ) → weight every s ≡ length s
weight_length [] = refl
weight_length (b ∷ s) = omega (arith, weight_length s)

weight_ends : (s : List ℕ) → weight end_only s ≡ ends s
weight_ends [] = refl
weight_ends (b ∷ s) = ap (λ n. end_only b + n) (weight_ends s)

-- no digit ends a line
digit_inside : (b : ℕ) → is_digit b ≡ true → end_only b ≤ 0
digit_inside b h =
    let d = digit_of b h in
    let n : b ≡ line_end → ⊥ = λ q. omega arith in
    rw (ne_eqb b line_end n) (omega arith)

near_length : (w x : List ℕ) → (read_seven (w ++ x) ≡ extended (read_seven w) x) ⊎ (weight every w < longest)
near_length = seven_near every 1 (λ b h. omega arith) (omega arith) (omega arith)

near_ends : (w x : List ℕ) → (read_seven (w ++ x) ≡ extended (read_seven w) x) ⊎ (weight end_only w < line_total)
near_ends = seven_near end_only 0 digit_inside (omega arith) (omega arith)

-- Of bytes that are not unfinished, the same is read whatever follows them: they are as many as the longest request has, or seven lines end in them.
pub read_near : (w x : List ℕ) → unfinished w ≡ false → read_seven (w ++ x) ≡ extended (read_seven w) x
unfolding unfinished
read_near w x u = go (ltb (length w) longest) refl u
  where
    go : (t : Bool) → ltb (length w) longest ≡ t → (t && ltb (ends w) line_total) ≡ false → read_seven (w ++ x) ≡ extended (read_seven w) x
    go true h e =
        let l = ltb-false (ends w) line_total e in
        cases (near_ends w x) (λ q. q) (λ q. absurd (omega (arith, weight_ends w)))
    go false h e =
        let l = ltb-false (length w) longest h in
        cases (near_length w x) (λ q. q) (λ q. absurd (omega (arith, weight_length w)))

-- so a bad line stays bad
pub read_near_bad : (w : List ℕ) (k : ℕ) → unfinished w ≡ false → read_seven w ≡ bad_line k → (x : List ℕ) → read_seven (w ++ x) ≡ bad_line k
read_near_bad w k u e x = read_near w x u ∙ ap (λ l. extended l x) e
