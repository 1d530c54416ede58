-- How far reading looks, for any weight of a byte: where some bytes weigh as much as the heaviest request, further bytes do not change what is read
-- of them. With every byte weighing 1 this bounds a request's length, and with LF alone weighing 1 it bounds its lines.
use Rattle.std.specs.Prelude.{true, ◌⊎◌, ◌≡◌, ◌*◌, ◌+◌, ◌-◌, ◌/◌, ◌<◌, ◌≤◌, pred, suc, zero, ℕ, eqb, leb}
use mathlib.Core.List.{List, [], ◌++◌, ◌∷◌}
use Rattle.std.proofs.Math.Logic.{inl}
use Rattle.std.proofs.Common.{inr, ◌∙◌, ap, sym, arith, eqb-true, leb-true}
use Rattle.std.proofs.Math.Path.{refl}
use Rattle.model.specs.Basics.Cases.{cases, true_or_false}
use Rattle.model.specs.Request.Words.{name_count}
use Rattle.model.specs.Text.LineLaws.{next_back}
use Rattle.model.specs.Text.Lines.{behind, line_end, next, read_line}
use Rattle.model.specs.Text.NumberLaws.{digit_of}
use Rattle.model.specs.Text.Numbers.{Read, bad, base, digit_count, got, is_digit, more, most, number, zero_byte}
use Rattle.model.specs.Text.ReferenceLaws.{reference_digit}
use Rattle.model.specs.Text.References.{dot_byte, further, name_and, reference}
use Rattle.model.specs.Text.Wording.{Lines, a_key, b_key, bad_line, c_key, lines, op_key, or_line, read_seven, ref2_key, ref_key, user_key}
use Rattle.std.proofs.lemmas.Bool.{eqb-false}

-- what was read, with further bytes after it
abbrev pub extended : Lines → List ℕ → Lines
extended (lines m u) x = lines m (u ++ x)
extended (bad_line k) x = bad_line k

-- the weight of some bytes
abbrev pub weight : (ℕ → ℕ) → List ℕ → ℕ
weight f [] = 0
weight f (b ∷ s) = f b + weight f s

-- k times d
abbrev pub times : ℕ → ℕ → ℕ
times zero d = 0
times (suc k) d = d + times k d

-- what was read, with further bytes after it
abbrev longer : {A : Type 0} → Read A → List ℕ → Read A
longer (got a u) x = got a (u ++ x)
longer bad x = bad

-- r looks at no more than the weight n: of heavier bytes it reads the same whatever follows. And it takes no more than the weight m away.
record Takes {A : Type 0} (f : ℕ → ℕ) (r : List ℕ → Read A) (n m : ℕ) : Type 0 where
  near : (w x : List ℕ) → (r (w ++ x) ≡ longer (r w) x) ⊎ (weight f w < n)
  uses : (w : List ℕ) (a : A) (u : List ℕ) → r w ≡ got a u → weight f w ≤ m + weight f u

-- ---- one reading after another

takes_got : {A : Type 0} (f : ℕ → ℕ) (a : A) → Takes f (λ w. got a w) 0 0
takes_got f a = record { near = λ w x. inl refl; uses = λ w b u e. let q : w ≡ u = cc in rw q (omega arith) }

next_near : {A B : Type 0} (f : ℕ → ℕ) (r : List ℕ → Read A) (g : A → List ℕ → Read B) (n m i j q : ℕ) → Takes f r n m → ((a : A) → Takes f (g a) i j)
    → n ≤ q → m + i ≤ q → (w x : List ℕ) (s : Read A) → r w ≡ s → (r (w ++ x) ≡ longer s x) ⊎ (weight f w < n)
    → (next (r (w ++ x)) g ≡ longer (next s g) x) ⊎ (weight f w < q)
next_near f r g n m i j q t p h k w x bad e (inl c) = inl (rw c)
next_near f r g n m i j q t p h k w x (got a u) e (inl c) =
    cases ((p a).near u x) (λ d. inl (rw c d)) (λ d. inr (omega (arith, t.uses w a u e)))
next_near f r g n m i j q t p h k w x bad e (inr c) = inr (omega arith)
next_near f r g n m i j q t p h k w x (got a u) e (inr c) = inr (omega arith)

takes_next : {A B : Type 0} {f : ℕ → ℕ} {r : List ℕ → Read A} {g : A → List ℕ → Read B} {n m i j q p : ℕ} → Takes f r n m
    → ((a : A) → Takes f (g a) i j) → n ≤ q → m + i ≤ q → m + j ≤ p → Takes f (λ w. next (r w) g) q p
takes_next {f = f} {r = r} {g = g} {n = n} {m = m} {i = i} {j = j} {q = q} t c h k l = record {
  near = λ w x. next_near f r g n m i j q t c h k w x (r w) refl (t.near w x);
  uses = λ w b u e. next_back (r w) g b u e (λ a y o d. omega (arith, t.uses w a y o, (c a).uses y b u d));
}

-- ---- a key, and the end of a line

behind_near : (f : ℕ → ℕ) (k s x : List ℕ) → (behind k (s ++ x) ≡ longer (behind k s) x) ⊎ (weight f s < suc (weight f k))
behind_near f [] s x = inl refl
behind_near f (a ∷ k) [] x = inr (omega arith)
behind_near f (a ∷ k) (b ∷ s) x =
    cases (true_or_false (eqb b a))
    (λ h. let q : f b ≡ f a = ap f (eqb-true b a h) in
    cases (behind_near f k s x) (λ c. inl (rw h c)) (λ c. inr (omega arith)))
    (λ h. inl (rw h))

behind_uses : (f : ℕ → ℕ) (k s : List ℕ) (a : Unit {0}) (u : List ℕ) → behind k s ≡ got a u → weight f s ≤ weight f k + weight f u
behind_uses f [] s a u e = let q : s ≡ u = cc in rw q (omega arith)
behind_uses f (c ∷ k) [] a u e = omega arith
behind_uses f (c ∷ k) (b ∷ s) a u e =
    cases (true_or_false (eqb b c))
    (λ h. let q : f b ≡ f c = ap f (eqb-true b c h) in omega (arith, behind_uses f k s a u (rw h at e)))
    (λ h. let y : bad ≡ got a u = rw h at e in let z : ◌≡◌ {A = ℕ} 0 1 = cc in absurd (omega arith))

takes_key : (f : ℕ → ℕ) (k : List ℕ) → Takes f (behind k) (suc (weight f k)) (weight f k)
takes_key f k = record { near = behind_near f k; uses = behind_uses f k }

end_near : (f : ℕ → ℕ) (s x : List ℕ) → (behind (line_end ∷ []) (s ++ x) ≡ longer (behind (line_end ∷ []) s) x) ⊎ (weight f s < 1)
end_near f [] x = inr (omega arith)
end_near f (b ∷ s) x = cases (true_or_false (eqb b line_end)) (λ h. inl (rw h)) (λ h. inl (rw h))

takes_end : (f : ℕ → ℕ) → f line_end ≤ 1 → Takes f (behind (line_end ∷ [])) 1 1
takes_end f h = record { near = end_near f; uses = λ w a u e. omega (arith, behind_uses f (line_end ∷ []) w a u e) }

-- a line: its key, a value that weighs v at most, and LF
takes_line : {A : Type 0} (f : ℕ → ℕ) → f line_end ≤ 1 → (key : List ℕ) (value : List ℕ → Read A) (v : ℕ) → Takes f value (suc v) v
    → Takes f (read_line key value) (weight f key + (v + 1)) (weight f key + (v + 1))
unfolding read_line
takes_line f h key value v t = takes_next (takes_key f key) (λ _. tail) (omega arith) (omega arith) (omega arith)
  where
    end : {B : Type 0} (a : B) → Takes f (λ u. next (behind (line_end ∷ []) u) (λ _ w. got a w)) 1 1
    end a = takes_next (takes_end f h) (λ _. takes_got f a) (omega arith) (omega arith) (omega arith)

    tail : Takes f (λ s. next (value s) (λ a u. next (behind (line_end ∷ []) u) (λ _ w. got a w))) (v + 1) (v + 1)
    tail = takes_next t (λ a. end a) (omega arith) (omega arith) (omega arith)

-- ---- numbers and references

-- a number larger than this has room for k digits more at most
abbrev limit : ℕ → ℕ
limit zero = most / base
limit (suc k) = limit k / base

module _ (f : ℕ → ℕ) (d : ℕ) (digit : (b : ℕ) → is_digit b ≡ true → f b ≤ d) where
  more_near : (k v : ℕ) (s x : List ℕ) → limit k < v → (more v (s ++ x) ≡ longer (more v s) x) ⊎ (weight f s < suc (times k d))
  more_near k v [] x h = inr (omega arith)
  more_near zero v (b ∷ s) x h =
      cases (true_or_false (is_digit b))
      (λ g. cases (true_or_false (leb (v * base + (b - zero_byte)) most))
      (λ l. absurd (omega (arith, leb-true (v * base + (b - zero_byte)) most l)))
      (λ l. inl (rw (g, l))))
      (λ g. inl (rw g))
  more_near (suc k) v (b ∷ s) x h =
      cases (true_or_false (is_digit b))
      (λ g. cases (true_or_false (leb (v * base + (b - zero_byte)) most))
      (λ l. cases (more_near k (v * base + (b - zero_byte)) s x (omega arith)) (λ c. inl (rw (g, l) c)) (λ c. inr (omega (arith, digit b g))))
      (λ l. inl (rw (g, l))))
      (λ g. inl (rw g))

  more_uses : (k v : ℕ) (s : List ℕ) (n : ℕ) (u : List ℕ) → limit k < v → more v s ≡ got n u → weight f s ≤ times k d + weight f u
  more_uses k v [] n u h e = omega arith
  more_uses zero v (b ∷ s) n u h e =
      cases (true_or_false (is_digit b))
      (λ g. cases (true_or_false (leb (v * base + (b - zero_byte)) most))
      (λ l. absurd (omega (arith, leb-true (v * base + (b - zero_byte)) most l)))
      (λ l. let y : bad ≡ got n u = rw (g, l) at e in let z : ◌≡◌ {A = ℕ} 0 1 = cc in absurd (omega arith)))
      (λ g. let y : got v (b ∷ s) ≡ got n u = rw g at e in let q : b ∷ s ≡ u = cc in rw (← q) (omega arith))
  more_uses (suc k) v (b ∷ s) n u h e =
      cases (true_or_false (is_digit b))
      (λ g. cases (true_or_false (leb (v * base + (b - zero_byte)) most))
      (λ l. omega (arith, digit b g, more_uses k (v * base + (b - zero_byte)) s n u (omega arith) (rw (g, l) at e)))
      (λ l. let y : bad ≡ got n u = rw (g, l) at e in let z : ◌≡◌ {A = ℕ} 0 1 = cc in absurd (omega arith)))
      (λ g. let y : got v (b ∷ s) ≡ got n u = rw g at e in let q : b ∷ s ≡ u = cc in rw (← q) (omega arith))

  -- a first digit other than 0 has room for nine more
  first_digit : (b : ℕ) → is_digit b ≡ true → (b ≡ zero_byte → ⊥) → limit (pred digit_count) < b - zero_byte
  first_digit b g n = let h = digit_of b g in omega arith

  number_near : (s x : List ℕ) → (number (s ++ x) ≡ longer (number s) x) ⊎ (weight f s < suc (times digit_count d))
  number_near [] x = inr (omega arith)
  number_near (b ∷ s) x =
      cases (true_or_false (is_digit b))
      (λ g. cases (true_or_false (eqb b zero_byte))
      (λ l. inl (rw (g, l)))
      (λ l. cases (more_near (pred digit_count) (b - zero_byte) s x (first_digit b g (eqb-false b zero_byte l)))
      (λ c. inl (rw (g, l) c))
      (λ c. inr (omega (arith, digit b g)))))
      (λ g. inl (rw g))

  number_uses : (s : List ℕ) (n : ℕ) (u : List ℕ) → number s ≡ got n u → weight f s ≤ times digit_count d + weight f u
  number_uses [] n u e = omega arith
  number_uses (b ∷ s) n u e =
      cases (true_or_false (is_digit b))
      (λ g. cases (true_or_false (eqb b zero_byte))
      (λ l. let y : got 0 s ≡ got n u = rw (g, l) at e in let q : s ≡ u = cc in rw (← q) (omega (arith, digit b g)))
      (λ l. omega (arith, digit b g, more_uses (pred digit_count) (b - zero_byte) s n u (first_digit b g (eqb-false b zero_byte l)) (rw (g, l) at e))))
      (λ g. let y : bad ≡ got n u = rw g at e in let z : ◌≡◌ {A = ℕ} 0 1 = cc in absurd (omega arith))

  takes_number : Takes f number (suc (times digit_count d)) (times digit_count d)
  takes_number = record { near = number_near; uses = number_uses }

  -- what k further names weigh, each with its dot
  abbrev names : ℕ → ℕ
  names zero = 0
  names (suc k) = d + (times digit_count d + names k)

  module _ (dot : f dot_byte ≤ d) where
    takes_name_and : (k : ℕ) → Takes f (further k) (suc (names k)) (names k)
        → Takes f (name_and k) (suc (times digit_count d + names k)) (times digit_count d + names k)
    takes_name_and k t = takes_next takes_number rest (omega arith) (omega arith) (omega arith)
      where
        rest : (n : ℕ) → Takes f (λ s. next (further k s) (λ ns u. got (n ∷ ns) u)) (suc (names k)) (names k)
        rest n = takes_next t (λ ns. takes_got f (n ∷ ns)) (omega arith) (omega arith) (omega arith)

    further_near : (k : ℕ) → Takes f (name_and k) (suc (times digit_count d + names k)) (times digit_count d + names k)
        → (s x : List ℕ) → (further (suc k) (s ++ x) ≡ longer (further (suc k) s) x) ⊎ (weight f s < suc (names (suc k)))
    further_near k t [] x = inr (omega arith)
    further_near k t (b ∷ s) x =
        cases (true_or_false (eqb b dot_byte))
        (λ h. let q : f b ≡ f dot_byte = ap f (eqb-true b dot_byte h) in
        cases (t.near s x) (λ c. inl (rw h c)) (λ c. inr (omega arith)))
        (λ h. inl (rw h))

    further_uses : (k : ℕ) → Takes f (name_and k) (suc (times digit_count d + names k)) (times digit_count d + names k)
        → (s ns u : List ℕ) → further (suc k) s ≡ got ns u → weight f s ≤ names (suc k) + weight f u
    further_uses k t [] ns u e = omega arith
    further_uses k t (b ∷ s) ns u e =
        cases (true_or_false (eqb b dot_byte))
        (λ h. let q : f b ≡ f dot_byte = ap f (eqb-true b dot_byte h) in omega (arith, t.uses s ns u (rw h at e)))
        (λ h. let y : got [] (b ∷ s) ≡ got ns u = rw h at e in let q : b ∷ s ≡ u = cc in rw (← q) (omega arith))

    takes_further : (k : ℕ) → Takes f (further k) (suc (names k)) (names k)
    takes_further zero = record { near = λ w x. inl refl; uses = λ w a u e. let q : w ≡ u = cc in rw q (omega arith) }
    takes_further (suc k) = let t = takes_name_and k (takes_further k) in record { near = further_near k t; uses = further_uses k t }

    -- a reference of four names
    abbrev four : ℕ
    four = times digit_count d + names (pred name_count)

    reference_near : (s x : List ℕ) → (reference (s ++ x) ≡ longer (reference s) x) ⊎ (weight f s < suc four)
    reference_near [] x = inr (omega arith)
    reference_near (b ∷ s) x =
        cases (true_or_false (is_digit b))
        (λ h. cases ((takes_name_and (pred name_count) (takes_further (pred name_count))).near (b ∷ s) x) (λ c. inl (on h c)) (λ c. inr c))
        (λ h. inl (rw h))
      where
        on : is_digit b ≡ true → name_and (pred name_count) (b ∷ (s ++ x)) ≡ longer (name_and (pred name_count) (b ∷ s)) x
            → reference (b ∷ (s ++ x)) ≡ longer (reference (b ∷ s)) x
        on h c = reference_digit (b ∷ (s ++ x)) b (s ++ x) refl h ∙ c ∙ ap (λ r. longer r x) (sym (reference_digit (b ∷ s) b s refl h))

    reference_uses : (s ns u : List ℕ) → reference s ≡ got ns u → weight f s ≤ four + weight f u
    reference_uses [] ns u e = omega arith
    reference_uses (b ∷ s) ns u e =
        cases (true_or_false (is_digit b))
        (λ h. (takes_name_and (pred name_count) (takes_further (pred name_count))).uses (b ∷ s) ns u (sym (reference_digit (b ∷ s) b s refl h) ∙ e))
        (λ h. let y : got [] (b ∷ s) ≡ got ns u = rw h at e in let q : b ∷ s ≡ u = cc in rw (← q) (omega arith))

    takes_reference : Takes f reference (suc four) four
    takes_reference = record { near = reference_near; uses = reference_uses }

    -- ---- seven lines

    abbrev Near : (List ℕ → Lines) → ℕ → Type 0
    Near r n = (w x : List ℕ) → (r (w ++ x) ≡ extended (r w) x) ⊎ (weight f w < n)

    or_line_near : {A : Type 0} (i : ℕ) (r : List ℕ → Read A) (g : A → List ℕ → Lines) (n k : ℕ) → Takes f r n n → ((a : A) → Near (g a) k)
        → Near (λ w. or_line i (r w) g) (n + k)
    or_line_near {A = A} i r g n k t p w x = go (r w) refl (t.near w x)
      where
        go : (s : Read A) → r w ≡ s → (r (w ++ x) ≡ longer s x) ⊎ (weight f w < n)
            → (or_line i (r (w ++ x)) g ≡ extended (or_line i s g) x) ⊎ (weight f w < n + k)
        go bad e (inl c) = inl (rw c)
        go (got a u) e (inl c) = cases (p a u x) (λ q. inl (rw c q)) (λ q. inr (omega (arith, t.uses w a u e)))
        go bad e (inr c) = inr (omega arith)
        go (got a u) e (inr c) = inr (omega arith)

    -- what a line weighs
    abbrev number_line : List ℕ → ℕ
    number_line key = weight f key + (times digit_count d + 1)

    abbrev reference_line : List ℕ → ℕ
    reference_line key = weight f key + (four + 1)

    -- what the heaviest request weighs
    abbrev pub heaviest : ℕ
    heaviest =
        number_line user_key + (number_line op_key + (reference_line ref_key + (reference_line ref2_key
        + (number_line a_key + (number_line b_key + (number_line c_key + 0))))))

    -- bytes as heavy as that are read the same, whatever follows them
    pub seven_near : f line_end ≤ 1 → Near read_seven heaviest
    unfolding read_seven
    seven_near h =
        or_line_near 1 (read_line user_key number) _ _ _ (on user_key) λ user.
        or_line_near 2 (read_line op_key number) _ _ _ (on op_key) λ op.
        or_line_near 3 (read_line ref_key reference) _ _ _ (on_ref ref_key) λ ref.
        or_line_near 4 (read_line ref2_key reference) _ _ _ (on_ref ref2_key) λ ref2.
        or_line_near 5 (read_line a_key number) _ _ _ (on a_key) λ a.
        or_line_near 6 (read_line b_key number) _ _ _ (on b_key) λ b.
        or_line_near 7 (read_line c_key number) _ _ _ (on c_key) λ c.
        λ w x. inl refl
      where
        on : (key : List ℕ) → Takes f (read_line key number) (number_line key) (number_line key)
        on key = takes_line f h key number (times digit_count d) takes_number

        on_ref : (key : List ℕ) → Takes f (read_line key reference) (reference_line key) (reference_line key)
        on_ref key = takes_line f h key reference four takes_reference
