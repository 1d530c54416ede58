-- The laws of the file (rules 12.1 and 12.5): its bytes give the words that were put there, and a file of another size gives no tables, so that every
-- request which can be read is answered 1.
use Rattle.std.specs.Prelude.{List, [], ◌∷◌, ◌≢◌, ◌≡◌, refl, ◌%◌, ◌*◌, ◌+◌, ◌/◌, ◌<◌, ◌≤◌, suc, zero, ℕ, get_or, length}
use Rattle.std.proofs.Common.{◌∙◌, ap, sym, arith, ext_get_or, eq-eqb, ne_eqb}
use Rattle.model.specs.Request.Step.{after_of, answer_of, sized}
use Rattle.model.specs.Script.Reports.{Report, bare, report, unread, untold}
use Rattle.model.specs.Script.Runs.{Runs, stay, turn}
use Rattle.model.specs.Script.State.{byte_values, bytes_of, file_bytes, fourth_weight, of_bytes, second_weight, state_of, third_weight}
use Rattle.model.specs.Script.State.{word_bytes, word_in}
use Rattle.model.specs.Tables.Layout.{word_count}
use Rattle.model.specs.Tables.WordsOf.{first_values}
use Rattle.model.specs.Tables.WordsOfLaws.{values_at, values_length}
use Rattle.model.specs.Text.Numbers.{most}
use Rattle.model.specs.Text.Wording.{sixteen}
use Rattle.model.proofs.Theorem.Steps.{unsized}

-- ---- the tables of a file

-- a file of 9,216 bytes gives 2,304 words, four bytes each,
state_is : (s : List ℕ) → length s ≡ file_bytes → state_of s ≡ first_values word_count (word_in s)
unfolding state_of
state_is s h = rw (eq-eqb (length s) file_bytes h)

pub state_length : (s : List ℕ) → length s ≡ file_bytes → length (state_of s) ≡ word_count
state_length s h = ap length (state_is s h) ∙ values_length word_count (word_in s)

pub state_at : (s : List ℕ) (i : ℕ) → length s ≡ file_bytes → i < word_count → get_or (state_of s) i 0 ≡ word_in s i
state_at s i h l = ap (λ t. get_or t i 0) (state_is s h) ∙ values_at word_count (word_in s) i l

-- and one of another size gives none.
pub state_other : (s : List ℕ) → length s ≢ file_bytes → state_of s ≡ []
unfolding state_of
state_other s h = rw (ne_eqb (length s) file_bytes h)

-- ---- no tables

-- Rules 7.1 and 12.5: without tables every request is answered 1, and there are none afterwards.
pub no_state : (q : List ℕ) → answer_of [] q ≡ 1
unfolding sized
no_state q = (unsized [] q tt).0

no_state_after : (q : List ℕ) → after_of [] q ≡ []
unfolding sized
no_state_after q = (unsized [] q tt).1

no_state_report : (q : List ℕ) → report [] q ≡ bare 1
unfolding report untold
no_state_report q = rw (no_state q)

no_state_runs : {t s t' x : List ℕ} {rs : List Report} → Runs t s rs t' x → t ≡ [] → (i : ℕ) → i < length rs → get_or rs i unread ≡ bare 1
no_state_runs stay e i h = absurd (omega arith)
no_state_runs (turn {m = m} f r) e zero h = ap (λ u. report u (sixteen m)) e ∙ no_state_report (sixteen m)
no_state_runs (turn {m = m} f r) e (suc i) h = no_state_runs r (ap (λ u. after_of u (sixteen m)) e ∙ no_state_after (sixteen m)) i (omega arith)

-- Rule 12.5: with a file of another size every request that can be read is reported with 1 and nothing more.
pub other_size_reports : (s : List ℕ) {c t' x : List ℕ} {rs : List Report} → length s ≢ file_bytes → Runs (state_of s) c rs t' x
    → (i : ℕ) → i < length rs → get_or rs i unread ≡ bare 1
other_size_reports s h r = no_state_runs r (state_other s h)

-- ---- the bytes of words

pub bytes_length : (w : List ℕ) → length (bytes_of w) ≡ word_bytes * length w
unfolding bytes_of
bytes_length [] = refl
bytes_length (v ∷ w) = omega (arith, bytes_length w)

-- a place after the first four bytes
later : (a b c d : ℕ) (s : List ℕ) (i j : ℕ) → i ≡ suc (suc (suc (suc j))) → get_or (a ∷ b ∷ c ∷ d ∷ s) i 0 ≡ get_or s j 0
later a b c d s i j e = rw e

word_later : (a b c d : ℕ) (s : List ℕ) (i : ℕ) → word_in (a ∷ b ∷ c ∷ d ∷ s) (suc i) ≡ word_in s i
word_later a b c d s i = rw (
  later a b c d s (word_bytes * suc i) (word_bytes * i) (omega arith),
  later a b c d s (word_bytes * suc i + 1) (word_bytes * i + 1) (omega arith),
  later a b c d s (word_bytes * suc i + 2) (word_bytes * i + 2) (omega arith),
  later a b c d s (word_bytes * suc i + 3) (word_bytes * i + 3) (omega arith),
)

four_sum : (w a b c d p q : ℕ) → w ≡ a + second_weight * p → p ≡ b + second_weight * q → q ≡ c + second_weight * d → of_bytes a b c d ≡ w
four_sum w a b c d p q e f g = omega arith

four_bytes : (w : ℕ) → w ≤ most
    → of_bytes (w % byte_values) (w / second_weight % byte_values) (w / third_weight % byte_values) (w / fourth_weight % byte_values) ≡ w
four_bytes w h =
    let last : w / fourth_weight % byte_values ≡ w / fourth_weight = omega arith in
    rw last
    (four_sum w (w % byte_values) (w / second_weight % byte_values) (w / third_weight % byte_values) (w / fourth_weight)
    (w / second_weight) (w / third_weight) (omega arith) (omega arith) (omega arith))

bytes_at : (w : List ℕ) → ((i : ℕ) → get_or w i 0 ≤ most) → (i : ℕ) → word_in (bytes_of w) i ≡ get_or w i 0
unfolding bytes_of
bytes_at [] h i = refl
bytes_at (v ∷ w) h zero = four_bytes v (h 0)
bytes_at (v ∷ w) h (suc i) =
    word_later (v % byte_values) (v / second_weight % byte_values) (v / third_weight % byte_values) (v / fourth_weight % byte_values) (bytes_of w) i
    ∙ bytes_at w (λ j. h (suc j)) i

-- Rule 12.1: a file with the bytes of 2,304 words gives those words.
pub state_bytes : (w : List ℕ) → length w ≡ word_count → ((i : ℕ) → get_or w i 0 ≤ most) → state_of (bytes_of w) ≡ w
state_bytes w h small =
    let n : length (bytes_of w) ≡ file_bytes = omega (arith, bytes_length w) in
    ext_get_or 0 (state_of (bytes_of w)) w (state_length (bytes_of w) n ∙ sym h)
    (λ i l. state_at (bytes_of w) i n (omega (arith, state_length (bytes_of w) n)) ∙ bytes_at w small i)

-- ---- the words of bytes

-- the four bytes of a word are those that it was put together from
first_byte : (a b c d : ℕ) → a < byte_values → of_bytes a b c d % byte_values ≡ a
first_byte a b c d h = omega arith

second_byte : (a b c d : ℕ) → a < byte_values → b < byte_values → of_bytes a b c d / second_weight % byte_values ≡ b
second_byte a b c d h g = omega arith

third_byte : (a b c d : ℕ) → a < byte_values → b < byte_values → c < byte_values → of_bytes a b c d / third_weight % byte_values ≡ c
third_byte a b c d h g k = omega arith

fourth_byte : (a b c d : ℕ) → a < byte_values → b < byte_values → c < byte_values → d < byte_values → of_bytes a b c d / fourth_weight % byte_values ≡ d
fourth_byte a b c d h g k l = omega arith

-- words that are those in some bytes have these bytes
words_bytes : (w s : List ℕ) → length s ≡ word_bytes * length w → ((i : ℕ) → get_or s i 0 < byte_values) → ((i : ℕ) → i < length w → get_or w i 0 ≡ word_in s i)
    → bytes_of w ≡ s
unfolding bytes_of
words_bytes [] [] h small is = refl
words_bytes [] (a ∷ s) h small is = absurd (omega arith)
words_bytes (v ∷ w) [] h small is = absurd (omega arith)
words_bytes (v ∷ w) (a ∷ []) h small is = absurd (omega arith)
words_bytes (v ∷ w) (a ∷ b ∷ []) h small is = absurd (omega arith)
words_bytes (v ∷ w) (a ∷ b ∷ c ∷ []) h small is = absurd (omega arith)
words_bytes (v ∷ w) (a ∷ b ∷ c ∷ d ∷ s) h small is =
    let front : v ≡ of_bytes a b c d = is 0 (omega arith) in
    let rest : bytes_of w ≡ s = words_bytes w s (omega arith) (λ i. small (suc (suc (suc (suc i)))))
    (λ i l. is (suc i) (omega arith) ∙ word_later a b c d s i) in
    rw (
      front,
      first_byte a b c d (small 0),
      second_byte a b c d (small 0) (small 1),
      third_byte a b c d (small 0) (small 1) (small 2),
      fourth_byte a b c d (small 0) (small 1) (small 2) (small 3),
      rest,
    )

-- Rule 12.1: the words of a file of 9,216 bytes have the bytes of that file,
pub bytes_state : (s : List ℕ) → length s ≡ file_bytes → ((i : ℕ) → get_or s i 0 < byte_values) → bytes_of (state_of s) ≡ s
bytes_state s h small =
    words_bytes (state_of s) s (omega (arith, state_length s h)) small
    (λ i l. state_at s i h (omega (arith, state_length s h)))

-- so two such files with the same tables are the same.
pub state_one : (s r : List ℕ) → length s ≡ file_bytes → length r ≡ file_bytes → ((i : ℕ) → get_or s i 0 < byte_values) → ((i : ℕ) → get_or r i 0 < byte_values)
    → state_of s ≡ state_of r → s ≡ r
state_one s r h g small tiny e = sym (bytes_state s h small) ∙ ap bytes_of e ∙ bytes_state r g tiny
