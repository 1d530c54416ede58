-- The four ways in which reading a whole text ends (rule 11.4).
use Rattle.std.specs.Prelude.{List, [], ◌∷◌, ◌≡◌, refl, Ok, Err, ◌-◌, ◌<◌, ◌≤◌, suc, ℕ, length}
use Rattle.std.proofs.Common.{ap, arith, eq-eqb, ne_eqb}
use Rattle.model.specs.Request.Words.{request_words}
use Rattle.model.specs.Text.Reading.{Reads, read_answer, read_number, words_after, words_in}
use Rattle.model.specs.Text.Wording.{Lines, bad_line, lines, read_seven, read_text}
use Rattle.model.specs.Text.Unfinished.{line_total}
use Rattle.request_reader.specs.Seven.{SevenAt, seven_of}
use Rattle.request_reader.specs.SevenLaws.{seven_rest}
use Rattle.request_reader.specs.declared.BadLine.{BadLine}
use Rattle.model.specs.Request.Refusals as refusal

-- the room is not sixteen words
pub read_other_size : (s w : List ℕ) → (length w ≡ request_words → ⊥) → Reads s w refusal.bad_length 0 w
unfolding read_answer read_number words_after
read_other_size s w h =
    let e = ne_eqb (length w) request_words h in
    record { answer = rw e; number = rw e; words = rw e }

-- the text is no request, whichever line is bad
refused : (s w : List ℕ) (k : ℕ) → length w ≡ request_words → read_text s ≡ bad_line k → Reads s w refusal.not_a_request k w
unfolding read_answer read_number words_after
refused s w k h e =
    let q = eq-eqb (length w) request_words h in
    record { answer = rw (q, e); number = rw (q, e); words = rw (q, e) }

-- one of the seven lines is bad or missing
pub read_bad : (s w v : List ℕ) (k : BadLine) → length w ≡ request_words → SevenAt s 0 v v (Err k) → Reads s w refusal.not_a_request k.0 w
unfolding read_text
read_bad s w v k h f = refused s w k.0 h (go (read_seven s) refl f.answer)
  where
    go : (l : Lines) → read_seven s ≡ l → Err k ≡ seven_of (length s) l → read_text s ≡ bad_line k.0
    go (lines m x) e g = let z : ◌≡◌ {A = ℕ} 0 1 = cc in absurd (omega arith)
    go (bad_line j) e g = let q : record { 0 = j } ≡ k = cc in rw (e, ap (λ (b : BadLine). b.0) q)

-- something follows the seventh line
pub read_behind : (s w v : List ℕ) (i : ℕ) → length w ≡ request_words → SevenAt s 0 v v (Ok i) → i < length s → Reads s w refusal.not_a_request
    (suc line_total) w
unfolding read_text
read_behind s w v i h f b = refused s w (suc line_total) h (go (read_seven s) refl f.answer)
  where
    go : (l : Lines) → read_seven s ≡ l → Ok i ≡ seven_of (length s) l → read_text s ≡ bad_line (suc line_total)
    go (lines m []) e g = let q : i ≡ length s - 0 = cc in absurd (omega arith)
    go (lines m (a ∷ x)) e g = rw e
    go (bad_line j) e g = let z : ◌≡◌ {A = ℕ} 0 1 = cc in absurd (omega arith)

-- the text is a request
pub read_whole : (s w v : List ℕ) (i : ℕ) → length w ≡ request_words → SevenAt s 0 v v (Ok i) → length s ≤ i → Reads s w refusal.accepted 0 v
unfolding read_answer read_number read_text words_after
read_whole s w v i h f b = go (read_seven s) refl f.answer f.words
  where
    go : (l : Lines) → read_seven s ≡ l → Ok i ≡ seven_of (length s) l → v ≡ words_in l v → Reads s w refusal.accepted 0 v
    go (lines m []) e g q =
        let z = eq-eqb (length w) request_words h in
        record { answer = rw (z, e); number = rw (z, e); words = rw (z, e) q }
    go (lines m (a ∷ x)) e g q = let j : i ≡ length s - length (a ∷ x) = cc in absurd (omega (arith, (seven_rest s 0 m (a ∷ x) e).1))
    go (bad_line j) e g q = let z : ◌≡◌ {A = ℕ} 0 1 = cc in absurd (omega arith)
