-- Seven lines that were read: what is left after them, and what the answer tells of the words.
use Rattle.std.specs.Prelude.{List, ◌++◌, ◌≡◌, refl, Ok, Err, ◌+◌, ◌-◌, ◌<◌, ◌≤◌, ℕ, drop, length}
use Rattle.std.proofs.Common.{◌∙◌, ap, sym, arith, length-append, length-drop, drop_at, drop-drop}
use Rattle.model.specs.Text.Reading.{words_in}
use Rattle.model.specs.Text.Textual.{Written}
use Rattle.model.specs.Text.Wording.{Lines, Wording, bad_line, lines, read_seven, sixteen, text_of}
use Rattle.model.specs.Text.WordingLaws.{text_back, text_some}
use Rattle.request_reader.specs.Seven.{SevenAt, seven_of}
use Rattle.request_reader.specs.declared.BadLine.{BadLine}

-- ---- what is left

-- how long the bytes are, of which some were read and x is left
text_span : (s : List ℕ) (at : ℕ) (m : Wording) (x : List ℕ) → drop at s ≡ text_of m ++ x → length s ≡ at + (length (text_of m) + length x)
text_span s at m x e =
    let l : length (drop at s) ≡ length (text_of m) + length x = ap length e ∙ length-append (text_of m) x in
    omega (arith, text_some m, length-drop at s, l)

-- the bytes from the answer's index on are those that are left,
pub seven_rest : (s : List ℕ) (at : ℕ) (m : Wording) (x : List ℕ) → read_seven (drop at s) ≡ lines m x
    → (drop (length s - length x) s ≡ x) × (length x ≤ length s)
seven_rest s at m x e =
    let b : Written m × (drop at s ≡ text_of m ++ x) = text_back (drop at s) m x e in
    let l : length s ≡ at + (length (text_of m) + length x) = text_span s at m x b.1 in
    let i : length s - length x ≡ at + length (text_of m) = omega arith in
    let n : ℕ = length (text_of m) in
    (rw i (sym (drop-drop n at s) ∙ ap (drop n) b.1 ∙ drop_at (text_of m) x n refl), omega arith)

-- and that index is further on.
pub seven_further : (s : List ℕ) (at : ℕ) (m : Wording) (x : List ℕ) → at ≤ length s → read_seven (drop at s) ≡ lines m x → at < length s - length x
seven_further s at m x h e =
    let b : Written m × (drop at s ≡ text_of m ++ x) = text_back (drop at s) m x e in
    omega (arith, text_some m, text_span s at m x b.1)

-- ---- answers

-- a line is bad
pub seven_bad : {s : List ℕ} {at k : ℕ} {w : List ℕ} → read_seven (drop at s) ≡ bad_line k → SevenAt s at w w (Err (record { 0 = k }))
seven_bad e = record { answer = rw e; words = rw e }

-- all seven are good
pub seven_next : {s : List ℕ} {at i : ℕ} {m : Wording} {w v : List ℕ} → i ≤ length s → read_seven (drop at s) ≡ lines m (drop i s) → v ≡ sixteen m
    → SevenAt s at w v (Ok i)
seven_next {s} {at} {i} h e g =
    let j : i ≡ length s - length (drop i s) = omega (arith, length-drop i s) in
    record { answer = rw e (ap Ok j); words = rw e g }

-- where the answer is an index, the words are those of the lines, and so another room has them too
next_words : (n i : ℕ) (l : Lines) (w v : List ℕ) → Ok i ≡ seven_of n l → words_in l v ≡ words_in l w
next_words n i (lines m x) w v e = refl
next_words n i (bad_line k) w v e = let z : ◌≡◌ {A = ℕ} 0 1 = cc in absurd (omega arith)

-- seven lines that were read into v, and v copied
pub seven_copied : {s : List ℕ} {at i : ℕ} {w v u : List ℕ} → SevenAt s at v v (Ok i) → u ≡ v → SevenAt s at w u (Ok i)
seven_copied {s} {at} {i} {w} {v} f e =
    record { answer = f.answer; words = e ∙ f.words ∙ next_words (length s) i (read_seven (drop at s)) w v f.answer }

-- where it is a line, the words stay
bad_words : (n : ℕ) (k : BadLine) (l : Lines) (w : List ℕ) → Err k ≡ seven_of n l → w ≡ words_in l w
bad_words n k (lines m x) w e = let z : ◌≡◌ {A = ℕ} 0 1 = cc in absurd (omega arith)
bad_words n k (bad_line j) w e = refl

-- a bad line was met while v was filled, and other words stay
pub seven_stays : {s : List ℕ} {at : ℕ} {k : BadLine} {w v : List ℕ} → SevenAt s at v v (Err k) → SevenAt s at w w (Err k)
seven_stays {s} {at} {k} {w} f = record { answer = f.answer; words = bad_words (length s) k (read_seven (drop at s)) w f.answer }
