-- Rule 11.5: the writer and the reader undo one another, whatever calls they are: said of any answers that meet `Writes` and `Reads`.
use Rattle.std.specs.Prelude.{false, true, List, [], ◌++◌, ◌∷◌, ◌↔◌, ◌≡◌, refl, ◌*◌, ◌+◌, ◌<◌, ◌≤◌, suc, ℕ, eqb, drop, length, take}
use Rattle.std.proofs.Common.{◌∙◌, ap, sym, arith, length-append}
use Rattle.model.specs.Basics.Agree.{agrees_not}
use Rattle.model.specs.Basics.Cases.{cases, lt_or_le, true_or_false}
use Rattle.model.specs.Basics.TestLaws.{fails_false}
use Rattle.model.specs.Request.Words.{name_count, request_of, request_words}
use Rattle.model.proofs.Text.CallLaws.{gives_reads, gives_short, gives_writes, reads_gives, write_fits, write_short, write_without}
use Rattle.model.proofs.Text.CallLaws.{writes_gives}
use Rattle.model.specs.Text.Given.{HasText, Small}
use Rattle.model.proofs.Text.GivenLaws.{gives_has_text, has_text_agrees, names_few}
use Rattle.model.specs.Text.LineLaws.{length_line}
use Rattle.model.specs.Text.Lines.{line}
use Rattle.model.specs.Text.NearLaws.{read_bad}
use Rattle.model.specs.Text.NumberLaws.{length_most}
use Rattle.model.specs.Text.Numbers.{digit_count, digits, most}
use Rattle.model.specs.Text.Reading.{Reads, line_in, read_number}
use Rattle.model.specs.Text.References.{dotted, joined}
use Rattle.model.specs.Text.Textual.{Textual}
use Rattle.model.specs.Text.Unfinished.{line_total, longest}
use Rattle.model.specs.Text.Wording.{Lines, Wording, a_key, at_end, b_key, bad_line, c_key, lines, op_key, read_seven, read_text, ref2_key}
use Rattle.model.specs.Text.Wording.{ref_key, text_of, user_key, wording_of}
use Rattle.model.specs.Text.WordingLaws.{text_length}
use Rattle.model.proofs.Text.WordsLaws.{has_text_says}
use Rattle.model.specs.Text.Writing.{Writes, bytes_after, has_text, text_of_words, write_number}
use Rattle.model.specs.Request.Refusals as refusal

-- ---- both ways

-- Every text that is read writes back to that text,
pub read_write : {s v w room r : List ℕ} {a n k : ℕ} → Reads s v refusal.accepted n w → Writes w room a k r → length s ≤ length room
    → (a ≡ 0) × (k ≡ length s) × (r ≡ s ++ drop (length s) room)
read_write x y l = gives_writes (reads_gives x) y l

-- or, in a room that is too short, names its bytes and leaves the room as it was.
pub read_short : {s v w room r : List ℕ} {a n k : ℕ} → Reads s v refusal.accepted n w → Writes w room a k r → length room < length s
    → (a ≡ refusal.too_short) × (k ≡ length s) × (r ≡ room)
read_short x y l = gives_short (reads_gives x) y l

-- All words that are written read back.
pub write_read : {w room r v u : List ℕ} {a k n : ℕ} → Small w → Writes w room refusal.accepted k r → length v ≡ request_words → Reads (take k r) v a n u
    → (a ≡ 0) × (n ≡ 0) × (u ≡ w)
write_read s y h x = gives_reads (writes_gives s y) h x

-- ---- which words are written

-- Rule 11.3: sixteen words of 32 bits are refused with 5 exactly where no text has them,
pub written_exactly : {w room r : List ℕ} {a k : ℕ} → length w ≡ request_words → Small w → Writes w room a k r → (a ≡ refusal.bad_request) ↔ (¬ HasText w)
written_exactly {w} {room} {r} {a} h s y = (λ e x. refused e (gives_has_text x.gives), λ n. y.answer ∙ write_without w (length room) h (failing n))
  where
    refused : a ≡ refusal.bad_request → has_text (request_of w) ≡ true → ⊥
    refused e t =
        cases (lt_or_le (length room) (length (text_of_words w)))
        (λ l. let z : a ≡ refusal.too_short = y.answer ∙ write_short w h t (length room) l in omega arith)
        (λ l. let z : a ≡ 0 = y.answer ∙ write_fits w h t (length room) l in omega arith)

    failing : ¬ HasText w → has_text (request_of w) ≡ false
    failing n = fails_false (has_text (request_of w)) ((agrees_not (has_text_agrees w h s)).from n)

-- and what is read are words that a text has.
pub read_has : {s v w : List ℕ} {n : ℕ} → Reads s v refusal.accepted n w → HasText w
read_has {s} x = record { text = s; gives = reads_gives x }

-- ---- one answer only

-- The writer's answer, number and bytes are settled by the words and the room,
pub writes_unique : {w room r t : List ℕ} {a b k j : ℕ} → Writes w room a k r → Writes w room b j t → (a ≡ b) × (k ≡ j) × (r ≡ t)
writes_unique {w} {room} {r} {t} {a} {b} x y =
    let e : a ≡ b = x.answer ∙ sym y.answer in
    (e, x.number ∙ sym y.number, x.bytes ∙ ap (λ (c : ℕ). bytes_after c w room) e ∙ sym y.bytes)

-- and the reader's answer, number and words by the bytes and the room.
pub reads_unique : {s v w u : List ℕ} {a b k j : ℕ} → Reads s v a k w → Reads s v b j u → (a ≡ b) × (k ≡ j) × (w ≡ u)
reads_unique x y = (x.answer ∙ sym y.answer, x.number ∙ sym y.number, x.words ∙ sym y.words)

-- ---- how large the numbers are

dotted_length : (ns : List ℕ) → length (dotted ns) ≤ suc digit_count * length ns
dotted_length [] = omega arith
dotted_length (n ∷ ns) = omega (arith, length-append (digits n) (dotted ns), length_most n, dotted_length ns)

joined_length : (ns : List ℕ) → length ns ≤ name_count → suc (length (joined ns)) ≤ suc digit_count * name_count
joined_length [] h = omega arith
joined_length (n ∷ ns) h = omega (arith, length-append (digits n) (dotted ns), length_most n, dotted_length ns)

number_line_lem : (key : List ℕ) (n : ℕ) → length (line key (digits n)) ≤ length key + suc digit_count
number_line_lem key n = omega (arith, length_line key (digits n), length_most n)

reference_line_lem : (key ns : List ℕ) → length ns ≤ name_count → length (line key (joined ns)) ≤ length key + suc digit_count * name_count
reference_line_lem key ns h = omega (arith, length_line key (joined ns), joined_length ns h)

-- Rule 11.2: no text is longer than 166 bytes,
pub text_longest : (m : Wording) → length m.first ≤ name_count → length m.second ≤ name_count → length (text_of m) ≤ longest
text_longest m h k =
    let l₁ : length (line user_key (digits m.user)) ≤ length user_key + suc digit_count = number_line_lem user_key m.user in
    let l₂ : length (line op_key (digits m.operation)) ≤ length op_key + suc digit_count = number_line_lem op_key m.operation in
    let l₃ : length (line ref_key (joined m.first)) ≤ length ref_key + suc digit_count * name_count = reference_line_lem ref_key m.first h in
    let l₄ : length (line ref2_key (joined m.second)) ≤ length ref2_key + suc digit_count * name_count = reference_line_lem ref2_key m.second k in
    let l₅ : length (line a_key (digits m.a)) ≤ length a_key + suc digit_count = number_line_lem a_key m.a in
    let l₆ : length (line b_key (digits m.b)) ≤ length b_key + suc digit_count = number_line_lem b_key m.b in
    let l₇ : length (line c_key (digits m.c)) ≤ length c_key + suc digit_count = number_line_lem c_key m.c in
    omega (arith, text_length m)

-- and one has as many: that of the largest numbers and of two references with four such names.
abbrev pub largest : Wording
largest =
    record {
      user = most;
      operation = most;
      first = most ∷ most ∷ most ∷ most ∷ [];
      second = most ∷ most ∷ most ∷ most ∷ [];
      a = most;
      b = most;
      c = most;
    }

pub longest_text_lem : length (text_of largest) ≡ longest
unfolding text_of line digits
longest_text_lem = refl

-- So the writer's number is 166 at most,
pub write_number_small : (w : List ℕ) → write_number w ≤ longest
unfolding write_number
write_number_small w =
    cases (true_or_false (eqb (length w) request_words))
    (λ h. cases (true_or_false (has_text (request_of w)))
    (λ t. rw (h, t) (fits (has_text_says (request_of w) t)))
    (λ t. rw (h, t) (omega arith)))
    (λ h. rw h (omega arith))
  where
    fits : Textual (request_of w) → length (text_of_words w) ≤ longest
    fits t =
        text_longest (wording_of (request_of w)) (names_few (request_of w).first t.first_few) (names_few (request_of w).second t.second_few)

-- the line of seven at which reading stops
seven_most : (s : List ℕ) (r : Lines) → read_seven s ≡ r → line_in r ≤ line_total
seven_most s (lines m x) e = omega arith
seven_most s (bad_line k) e = (read_bad s k e).1

-- and the reader's is 8 at most.
pub read_number_small : (s w : List ℕ) → read_number s w ≤ suc line_total
unfolding read_number read_text
read_number_small s w =
    cases (true_or_false (eqb (length w) request_words))
    (λ h. rw h (go (read_seven s) (seven_most s (read_seven s) refl)))
    (λ h. rw h (omega arith))
  where
    go : (r : Lines) → line_in r ≤ line_total → line_in (at_end r) ≤ suc line_total
    go (lines m []) l = omega arith
    go (lines m (b ∷ x)) l = omega arith
    go (bad_line k) l = omega arith
