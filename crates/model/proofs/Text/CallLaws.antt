-- What the answers of the writer and the reader say of the words and of the text.
use Rattle.std.specs.Prelude.{false, true, List, [], ◌++◌, ◌∷◌, ◌≡◌, refl, ◌<◌, ◌≤◌, ℕ, eqb, leb, drop, length, take}
use Rattle.std.proofs.Common.{◌∙◌, ap, subst, sym, arith, take_at}
use Rattle.model.specs.Basics.Cases.{cases, true_or_false}
use Rattle.model.specs.Request.Words.{request_of, request_words}
use Rattle.model.specs.Text.Given.{Gives, Small}
use Rattle.model.proofs.Text.GivenLaws.{gives_has_text, gives_length, gives_own, gives_text}
use Rattle.model.specs.Text.Reading.{Reads, answer_in, read_answer, read_number, words_after}
use Rattle.model.specs.Text.Wording.{Lines, Wording, at_end, bad_line, lines, read_seven, read_text, sixteen}
use Rattle.model.specs.Text.Writing.{Writes, bytes_after, has_text, text_of_words, write_answer, write_number}
use borrow.Author.Tests.{eq-eqb, eqb-true, le-leb, leb-true, lt-leb}
use Rattle.model.specs.Request.Refusals as refusal

-- ---- the writer

-- Sixteen words without a text are refused with 5,
pub write_without : (w : List ℕ) (n : ℕ) → length w ≡ request_words → has_text (request_of w) ≡ false → write_answer w n ≡ refusal.bad_request
unfolding write_answer
write_without w n h t = rw (eq-eqb (length w) request_words h, t)

-- and those with one are written where it has room, are refused with 17 where it has not, and count its bytes either way.
module _ (w : List ℕ) (h : length w ≡ request_words) (t : has_text (request_of w) ≡ true) where
  pub write_fits : (n : ℕ) → length (text_of_words w) ≤ n → write_answer w n ≡ refusal.accepted
  unfolding write_answer
  write_fits n l = rw (eq-eqb (length w) request_words h, t, le-leb (length (text_of_words w)) n l)

  pub write_short : (n : ℕ) → n < length (text_of_words w) → write_answer w n ≡ refusal.too_short
  unfolding write_answer
  write_short n l = rw (eq-eqb (length w) request_words h, t, lt-leb (length (text_of_words w)) n l)

  pub write_counts : write_number w ≡ length (text_of_words w)
  unfolding write_number
  write_counts = rw (eq-eqb (length w) request_words h, t)

-- The answer 0 says that the words are sixteen, that they have a text and that it has room.
pub record Put (w : List ℕ) (n : ℕ) : Type 0 where
  pub sixteen : length w ≡ request_words
  pub text : has_text (request_of w) ≡ true
  pub room : length (text_of_words w) ≤ n

pub write_done : (w : List ℕ) (n : ℕ) → 0 ≡ write_answer w n → Put w n
unfolding write_answer
write_done w n e =
    cases (true_or_false (eqb (length w) request_words))
    (λ a. cases (true_or_false (has_text (request_of w)))
    (λ b. cases (true_or_false (leb (length (text_of_words w)) n))
    (λ c. record { sixteen = eqb-true (length w) request_words a; text = b; room = leb-true (length (text_of_words w)) n c })
    (λ c. let z : refusal.accepted ≡ refusal.too_short = rw (a, b, c) at e in absurd (omega arith)))
    (λ b. let z : refusal.accepted ≡ refusal.bad_request = rw (a, b) at e in absurd (omega arith)))
    (λ a. let z : refusal.accepted ≡ refusal.bad_length = rw a at e in absurd (omega arith))

-- Words that a text gives are written as that text,
pub gives_writes : {s w room r : List ℕ} {a k : ℕ} → Gives s w → Writes w room a k r → length s ≤ length room
    → (a ≡ 0) × (k ≡ length s) × (r ≡ s ++ drop (length s) room)
gives_writes {s} {w} {room} {r} {a} {k} g x l =
    let e : s ≡ text_of_words w = gives_text g in
    let f : length (text_of_words w) ≤ length room = subst (λ (t : List ℕ). length t ≤ length room) e l in
    let z : a ≡ 0 = x.answer ∙ write_fits w (gives_length g) (gives_has_text g) (length room) f in (
      z,
      x.number ∙ write_counts w (gives_length g) (gives_has_text g) ∙ ap length (sym e),
      x.bytes ∙ ap (λ (b : ℕ). bytes_after b w room) z ∙ ap (λ (t : List ℕ). t ++ drop (length t) room) (sym e),
    )

-- or not at all where it has no room.
pub gives_short : {s w room r : List ℕ} {a k : ℕ} → Gives s w → Writes w room a k r → length room < length s
    → (a ≡ refusal.too_short) × (k ≡ length s) × (r ≡ room)
gives_short {s} {w} {room} {r} {a} {k} g x l =
    let e : s ≡ text_of_words w = gives_text g in
    let f : length room < length (text_of_words w) = subst (λ (t : List ℕ). length room < length t) e l in
    let z : a ≡ refusal.too_short = x.answer ∙ write_short w (gives_length g) (gives_has_text g) (length room) f in (
      z,
      x.number ∙ write_counts w (gives_length g) (gives_has_text g) ∙ ap length (sym e),
      x.bytes ∙ ap (λ (b : ℕ). bytes_after b w room) z,
    )

-- What was written, as many bytes as the number says, is a text that gives the words.
pub writes_gives : {w room r : List ℕ} {k : ℕ} → Small w → Writes w room refusal.accepted k r → Gives (take k r) w
writes_gives {w} {room} {r} {k} s x =
    let d : Put w (length room) = write_done w (length room) x.answer in
    let n : length (text_of_words w) ≡ k = sym (x.number ∙ write_counts w d.sixteen d.text) in
    let e : take k r ≡ text_of_words w = ap (take k) x.bytes ∙ take_at (text_of_words w) (drop (length (text_of_words w)) room) k n in
    subst (λ (t : List ℕ). Gives t w) (sym e) (gives_own d.sixteen s d.text)

-- ---- the reader

-- Where a whole text is read, nothing is left.
pub whole_end : (s : List ℕ) (m : Wording) (x : List ℕ) → read_text s ≡ lines m x → x ≡ []
unfolding read_text
whole_end s m x e = go (read_seven s) e
  where
    go : (r : Lines) → at_end r ≡ lines m x → x ≡ []
    go (lines p []) g = cc
    go (lines p (b ∷ y)) g = let z : ◌≡◌ {A = ℕ} 0 1 = cc in absurd (omega arith)
    go (bad_line k) g = let z : ◌≡◌ {A = ℕ} 0 1 = cc in absurd (omega arith)

-- A text that is read is answered with 0, with the number 0 and with its words.
module _ (s v : List ℕ) (h : length v ≡ request_words) (m : Wording) (e : read_text s ≡ lines m []) where
  pub read_zero : read_answer s v ≡ refusal.accepted
  unfolding read_answer
  read_zero = rw (eq-eqb (length v) request_words h, e)

  pub read_none : read_number s v ≡ 0
  unfolding read_number
  read_none = rw (eq-eqb (length v) request_words h, e)

  pub read_words : words_after s v ≡ sixteen m
  unfolding words_after
  read_words = rw (eq-eqb (length v) request_words h, e)

-- The answer 0 says that the room is of sixteen words and that the bytes are a text.
pub record WasRead (s v : List ℕ) : Type 0 where
  pub sixteen : length v ≡ request_words
  pub wording : Wording
  pub read : read_text s ≡ lines wording []

pub read_done : (s v : List ℕ) → 0 ≡ read_answer s v → WasRead s v
unfolding read_answer
read_done s v e =
    cases (true_or_false (eqb (length v) request_words))
    (λ a. go (eqb-true (length v) request_words a) (read_text s) refl (rw a at e))
    (λ a. let z : refusal.accepted ≡ refusal.bad_length = rw a at e in absurd (omega arith))
  where
    go : length v ≡ request_words → (r : Lines) → read_text s ≡ r → 0 ≡ answer_in r → WasRead s v
    go h (lines m x) f g = record { sixteen = h; wording = m; read = f ∙ ap (lines m) (whole_end s m x f) }
    go h (bad_line k) f g = absurd (omega arith)

-- The words that were read are those that the text gives,
pub reads_gives : {s v w : List ℕ} {n : ℕ} → Reads s v refusal.accepted n w → Gives s w
reads_gives {s} {v} x =
    let d : WasRead s v = read_done s v x.answer in
    record { wording = d.wording; read = d.read; words = sym (x.words ∙ read_words s v d.sixteen d.wording d.read) }

-- and those that a text gives are read from it.
pub gives_reads : {s v w u : List ℕ} {a n : ℕ} → Gives s w → length v ≡ request_words → Reads s v a n u → (a ≡ 0) × (n ≡ 0) × (u ≡ w)
gives_reads {s} {v} g h x = (
  x.answer ∙ read_zero s v h g.wording g.read,
  x.number ∙ read_none s v h g.wording g.read,
  x.words ∙ read_words s v h g.wording g.read ∙ g.words,
)
