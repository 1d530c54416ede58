-- Reading a text and what `Broken` says of its bytes are the same: it is read where it is whole, and else at the first bad line.
use Rattle.std.specs.Prelude.{List, [], ◌++◌, ◌∷◌, ◌≡◌, refl, ◌+◌, ◌≤◌, suc, ℕ, eqb, length}
use Rattle.std.proofs.Common.{◌∙◌, ap, subst, sym, arith, eq-eqb}
use Rattle.model.specs.Basics.Cases.{cases, true_or_false}
use Rattle.model.specs.Request.Words.{request_words}
use Rattle.model.specs.Text.Broken.{Begins, FirstBad, Sort, ValueOf, Whole, end, extra, here, key_of, later, numbered, onward}
use Rattle.model.specs.Text.Broken.{referring, sorts}
use Rattle.model.proofs.Text.CallLaws.{whole_end}
use Rattle.model.specs.Text.Given.{Gives}
use Rattle.model.proofs.Text.GivenLaws.{fit_small, small_fit}
use Rattle.model.specs.Text.LineLaws.{Form, line_back, line_there, numbers}
use Rattle.model.specs.Text.Lines.{line, read_line}
use Rattle.model.specs.Text.Numbers.{Read, bad, got}
use Rattle.model.specs.Text.Reading.{Reads, answer_in, line_in, read_answer, read_number, words_after, words_in}
use Rattle.model.specs.Text.ReferenceLaws.{references}
use Rattle.model.specs.Text.Unfinished.{line_total}
use Rattle.model.specs.Text.Wording.{Lines, Wording, a_key, at_end, b_key, bad_line, c_key, lines, op_key, or_line, read_seven, read_text}
use Rattle.model.specs.Text.Wording.{ref2_key, ref_key, sixteen, user_key}
use Rattle.model.specs.Request.Refusals as refusal

-- ---- one line

-- Reading a line fails exactly where the bytes begin with no line of a value of the form.
module _ {A : Type 0} (F : Form A) (key : List ℕ) where
  pub bad_line_lem : (s : List ℕ) → read_line key F.read s ≡ bad → (a : A) (x : List ℕ) → F.Ok a → ¬ (s ≡ line key (F.write a) ++ x)
  bad_line_lem s e a x ok q =
      let z : got a x ≡ bad = sym (ap (read_line key F.read) q ∙ line_there F key a x ok) ∙ e in
      let y : ◌≡◌ {A = ℕ} 0 1 = cc in omega arith

  pub line_bad : (s : List ℕ) → ((a : A) (x : List ℕ) → F.Ok a → ¬ (s ≡ line key (F.write a) ++ x)) → read_line key F.read s ≡ bad
  line_bad s out = go (read_line key F.read s) refl
    where
      go : (r : Read A) → read_line key F.read s ≡ r → r ≡ bad
      go (got a x) e = let b : F.Ok a × (s ≡ line key (F.write a) ++ x) = line_back F key s a x e in absurd (out a x b.0 b.1)
      go bad e = refl

-- What is read as a line of a sort, and what begins with one: each gives the other. `Sorted k F` says that F is the form of the sort's values.
record Sorted (k : Sort) {A : Type 0} (F : Form A) : Type 0 where
  has : (a : A) → F.Ok a → ValueOf k (F.write a)
  from : (v : List ℕ) → ValueOf k v → (a : A) × (F.Ok a) × (v ≡ F.write a)

numbered_sorted : (key : List ℕ) → Sorted (numbered key) numbers
numbered_sorted key = record {
  has = λ n h. record { value = n; fits = h; is = refl };
  from = λ v g. (g.value, g.fits, g.is);
}

referring_sorted : (key : List ℕ) → Sorted (referring key) references
referring_sorted key = record {
  has = λ ns h. record { names = ns; few = h.0; fit = fit_small ns h.1; is = refl };
  from = λ v g. (g.names, (g.few, small_fit g.names g.fit), g.is);
}

module _ (k : Sort) {A : Type 0} (F : Form A) (f : Sorted k F) (s : List ℕ) where
  got_begins : (a : A) (x : List ℕ) → read_line (key_of k) F.read s ≡ got a x → Begins k s x
  got_begins a x e =
      let b : F.Ok a × (s ≡ line (key_of k) (F.write a) ++ x) = line_back F (key_of k) s a x e in
      record { value = F.write a; good = f.has a b.0; is = b.1 }

  begins_line : (x : List ℕ) → Begins k s x → (a : A) × (F.Ok a) × (s ≡ line (key_of k) (F.write a) ++ x)
  begins_line x b =
      let g : (a : A) × (F.Ok a) × (b.value ≡ F.write a) = f.from b.value b.good in
      (g.0, g.1, b.is ∙ ap (λ (v : List ℕ). line (key_of k) v ++ x) g.2)

  begins_got : (x : List ℕ) → Begins k s x → (a : A) × (read_line (key_of k) F.read s ≡ got a x)
  begins_got x b =
      let g : (a : A) × (F.Ok a) × (s ≡ line (key_of k) (F.write a) ++ x) = begins_line x b in
      (g.0, ap (read_line (key_of k) F.read) g.2 ∙ line_there F (key_of k) g.0 x g.1)

  begins_same : (x y : List ℕ) → Begins k s x → Begins k s y → x ≡ y
  begins_same x y b c = same (begins_got x b).0 (begins_got y c).0 (begins_got x b).1 (begins_got y c).1
    where
      same : (a d : A) → read_line (key_of k) F.read s ≡ got a x → read_line (key_of k) F.read s ≡ got d y → x ≡ y
      same a d p q = let z : got a x ≡ got d y = sym p ∙ q in cc

  bad_begins : read_line (key_of k) F.read s ≡ bad → (x : List ℕ) → ¬ Begins k s x
  bad_begins e x b =
      let g : (a : A) × (F.Ok a) × (s ≡ line (key_of k) (F.write a) ++ x) = begins_line x b in
      bad_line_lem F (key_of k) s e g.0 x g.1 g.2

-- What follows a good line is settled by the bytes.
pub begins_one : {k : Sort} {s x y : List ℕ} → Begins k s x → Begins k s y → x ≡ y
begins_one {k = numbered key} {s} {x} {y} b c = begins_same (numbered key) numbers (numbered_sorted key) s x y b c
begins_one {k = referring key} {s} {x} {y} b c = begins_same (referring key) references (referring_sorted key) s x y b c

-- ---- the two are exclusive, and the line is one

-- There is one first bad line at most,
pub first_unique : {ks : List Sort} {s : List ℕ} {n m : ℕ} → FirstBad ks s n → FirstBad ks s m → n ≡ m
first_unique (here out) (here out') = refl
first_unique (here out) (later {x = x} b f) = absurd (out x b)
first_unique (later {x = x} b f) (here out) = absurd (out x b)
first_unique (later {ks = ks} {x = x} {n = n} b f) (later {x = y} {n = m} c g) =
    ap suc (first_unique f (subst (λ (z : List ℕ). FirstBad ks z m) (begins_one c b) g))
first_unique extra extra = refl

-- none where the bytes are whole,
pub whole_first : {ks : List Sort} {s : List ℕ} {n : ℕ} → Whole ks s → FirstBad ks s n → ⊥
whole_first (onward {x = x} b w) (here out) = out x b
whole_first (onward {ks = ks} b w) (later {n = n} c g) = whole_first w (subst (λ (z : List ℕ). FirstBad ks z n) (begins_one c b) g)
whole_first {n = n} end x4 = elim x4 [ ]

-- and it is counted from 1.
pub first_some : {ks : List Sort} {s : List ℕ} {n : ℕ} → FirstBad ks s n → 1 ≤ n
first_some (here out) = omega arith
first_some (later b f) = omega arith
first_some extra = omega arith

-- ---- reading

-- what a whole text's reading says of the bytes s, which are to be lines of the sorts ks after j good ones
abbrev Tells : List Sort → ℕ → List ℕ → Lines → Type 0
Tells ks j s (lines m []) = Whole ks s
Tells ks j s (lines m (b ∷ x)) = ⊥
Tells ks j s (bad_line k) = (n : ℕ) × (k ≡ j + n) × FirstBad ks s n

tells_after : (k : Sort) (ks : List Sort) (j : ℕ) (s x : List ℕ) (l : Lines) → Begins k s x → Tells ks (suc j) x l → Tells (k ∷ ks) j s l
tells_after k ks j s x (lines m []) b t = onward b t
tells_after k ks j s x (lines m (c ∷ y)) b t = t
tells_after k ks j s x (bad_line i) b t = (suc t.0, omega (arith, t.1), later b t.2)

tells_line : (k : Sort) (ks : List Sort) (j : ℕ) {A : Type 0} (F : Form A) → Sorted k F → (s : List ℕ) (f : A → List ℕ → Lines)
    → ((a : A) (x : List ℕ) → Tells ks (suc j) x (at_end (f a x)))
    → Tells (k ∷ ks) j s (at_end (or_line (suc j) (read_line (key_of k) F.read s) f))
tells_line k ks j {A} F o s f t = go (read_line (key_of k) F.read s) refl
  where
    go : (r : Read A) → read_line (key_of k) F.read s ≡ r → Tells (k ∷ ks) j s (at_end (or_line (suc j) r f))
    go (got a x) e = tells_after k ks j s x (at_end (f a x)) (got_begins k F o s a x e) (t a x)
    go bad e = (1, omega arith, here (bad_begins k F o s e))

tells_end : (m : Wording) (s : List ℕ) → Tells [] line_total s (at_end (lines m s))
tells_end m [] = end
tells_end m (b ∷ s) = (1, refl, extra)

text_tells : (s : List ℕ) → Tells sorts 0 s (read_text s)
unfolding read_text read_seven
text_tells s =
    tells_line (numbered user_key) _ 0 numbers (numbered_sorted user_key) s _ λ user s₁.
    tells_line (numbered op_key) _ 1 numbers (numbered_sorted op_key) s₁ _ λ operation s₂.
    tells_line (referring ref_key) _ 2 references (referring_sorted ref_key) s₂ _ λ first s₃.
    tells_line (referring ref2_key) _ 3 references (referring_sorted ref2_key) s₃ _ λ second s₄.
    tells_line (numbered a_key) _ 4 numbers (numbered_sorted a_key) s₄ _ λ a s₅.
    tells_line (numbered b_key) _ 5 numbers (numbered_sorted b_key) s₅ _ λ b s₆.
    tells_line (numbered c_key) _ 6 numbers (numbered_sorted c_key) s₆ _ λ c s₇.
    tells_end (record { user = user; operation = operation; first = first; second = second; a = a; b = b; c = c }) s₇

-- Rule 11.4: the line at which reading stops is the first that is bad or missing,
pub broken_first : (s : List ℕ) (k : ℕ) → read_text s ≡ bad_line k → FirstBad sorts s k
broken_first s k e =
    let t : (n : ℕ) × (k ≡ 0 + n) × FirstBad sorts s n = subst (Tells sorts 0 s) e (text_tells s) in
    let z : t.0 ≡ k = omega (arith, t.1) in
    subst (FirstBad sorts s) z t.2

-- and a text that is read is seven good lines and nothing more.
pub read_whole : (s : List ℕ) (m : Wording) (x : List ℕ) → read_text s ≡ lines m x → Whole sorts s
read_whole s m x e = subst (Tells sorts 0 s) (e ∙ ap (lines m) (whole_end s m x e)) (text_tells s)

-- The other way round: reading stops at the first line that is bad or missing,
pub first_broken : (s : List ℕ) (k : ℕ) → FirstBad sorts s k → read_text s ≡ bad_line k
first_broken s k f = go (read_text s) refl
  where
    go : (r : Lines) → read_text s ≡ r → r ≡ bad_line k
    go (lines m x) e = absurd (whole_first (read_whole s m x e) f)
    go (bad_line j) e = ap bad_line (first_unique (broken_first s j e) f)

-- and seven good lines with nothing more are read.
pub whole_read : (s : List ℕ) → Whole sorts s → (m : Wording) × (read_text s ≡ lines m [])
whole_read s w = go (read_text s) refl
  where
    go : (r : Lines) → read_text s ≡ r → (m : Wording) × (read_text s ≡ lines m [])
    go (lines m x) e = (m, e ∙ ap (lines m) (whole_end s m x e))
    go (bad_line j) e = absurd (whole_first w (broken_first s j e))

-- So a text gives words exactly where it is seven good lines and nothing more.
pub gives_whole : {s w : List ℕ} → Gives s w → Whole sorts s
gives_whole {s} g = read_whole s g.wording [] g.read

pub whole_gives : {s : List ℕ} → Whole sorts s → (w : List ℕ) × Gives s w
whole_gives {s} x =
    let r : (m : Wording) × (read_text s ≡ lines m []) = whole_read s x in
    (sixteen r.0, record { wording = r.0; read = r.1; words = refl })

-- ---- the reader

-- Rule 11.4: with 18 the reader's number is the first line that is bad or missing, and the room is as it was;
pub reads_broken : {s v u : List ℕ} {n : ℕ} → Reads s v refusal.not_a_request n u → FirstBad sorts s n × (u ≡ v)
unfolding read_answer read_number words_after
reads_broken {s} {v} {u} {n} x =
    cases (true_or_false (eqb (length v) request_words))
    (λ h. go (read_text s) refl (rw h at x.answer) (rw h at x.number) (rw h at x.words))
    (λ h. let z : refusal.not_a_request ≡ refusal.bad_length = rw h at x.answer in absurd (omega arith))
  where
    go : (r : Lines) → read_text s ≡ r → refusal.not_a_request ≡ answer_in r → n ≡ line_in r → u ≡ words_in r v → FirstBad sorts s n × (u ≡ v)
    go (lines m y) e a b c = absurd (omega arith)
    go (bad_line k) e a b c = (subst (FirstBad sorts s) (sym b) (broken_first s k e), c)

-- and wherever a line is bad or missing, a reader with room for sixteen words answers so.
pub broken_reads : {s v u : List ℕ} {a n k : ℕ} → FirstBad sorts s k → length v ≡ request_words → Reads s v a n u → (a ≡ refusal.not_a_request) × (n ≡ k) ×
    (u ≡ v)
unfolding read_answer read_number words_after
broken_reads {s} {v} {u} {a} {n} {k} f h x =
    let e : read_text s ≡ bad_line k = first_broken s k f in (
      x.answer ∙ rw (eq-eqb (length v) request_words h, e),
      x.number ∙ rw (eq-eqb (length v) request_words h, e),
      x.words ∙ rw (eq-eqb (length v) request_words h, e),
    )
