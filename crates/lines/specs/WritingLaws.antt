-- The laws of writing a number and a line, in the steps in which code writes them.
use Rattle.std.specs.Prelude.{List, [], ◌++◌, ◌∷◌, ◌≡◌, refl, ◌%◌, ◌*◌, ◌+◌, ◌-◌, ◌/◌, ◌<◌, ◌≤◌, ℕ, drop, length, set, take}
use Rattle.std.proofs.Common.{append_assoc, arith}
use Rattle.lines.specs.Four.{four}
use Rattle.lines.specs.Onto.{Wrote}
use Rattle.lines.specs.OntoLaws.{wrote_behind, wrote_byte, wrote_length, wrote_none}
use Rattle.model.specs.Text.LineLaws.{is_line, length_line}
use Rattle.model.specs.Text.Lines.{line, line_end}
use Rattle.model.specs.Text.NumberLaws.{digits_small, digits_step, length_small, length_step}
use Rattle.model.specs.Text.Numbers.{digits, zero_byte}

-- ---- how long a number is

-- two, three and four digits
pub length_two : (n : ℕ) → 10 ≤ n → n < 100 → 2 ≡ length (digits n)
length_two n h l = omega (arith, length_step n h (omega arith), length_small (n / 10) (omega arith))

pub length_three : (n : ℕ) → 100 ≤ n → n < 1000 → 3 ≡ length (digits n)
length_three n h l = omega (arith, length_step n (omega arith) (omega arith), length_two (n / 10) (omega arith) (omega arith))

pub length_four : (n : ℕ) → 1000 ≤ n → n < 10000 → 4 ≡ length (digits n)
length_four n h l = omega (arith, length_step n (omega arith) (omega arith), length_three (n / 10) (omega arith) (omega arith))

-- two digits more
length_hundred : (n : ℕ) → 100 ≤ n → n < 10000000000 → length (digits (n / 100)) + 2 ≡ length (digits n)
length_hundred n h l =
    let e : n / 10 / 10 ≡ n / 100 = omega arith in
    let s : length (digits (n / 10 / 10)) + 1 ≡ length (digits (n / 10)) = length_step (n / 10) (omega arith) (omega arith) in
    omega (arith, rw e at s, length_step n (omega arith) l)

-- four digits more
pub length_more : (n : ℕ) → 10000 ≤ n → n < 10000000000 → length (digits (n / 10000)) + 4 ≡ length (digits n)
length_more n h l =
    let e : n / 100 / 100 ≡ n / 10000 = omega arith in
    let s : length (digits (n / 100 / 100)) + 2 ≡ length (digits (n / 100)) = length_hundred (n / 100) (omega arith) (omega arith) in
    omega (arith, rw e at s, length_hundred n (omega arith) l)

-- ---- the digits of a number, by its quotients

-- the last one, and those before it
digits_last : (n : ℕ) → 10 ≤ n → n < 10000000000 → digits n ≡ digits (n / 10) ++ ((zero_byte + (n - n / 10 * 10)) ∷ [])
digits_last n h l =
    let e : n % 10 ≡ n - n / 10 * 10 = omega arith in
    rw (digits_step n h l, e)

-- two, three and four digits
digits_two : (n : ℕ) → 10 ≤ n → n < 100 → digits n ≡ (zero_byte + n / 10) ∷ (zero_byte + (n - n / 10 * 10)) ∷ []
digits_two n h l = rw (digits_last n h (omega arith), digits_small (n / 10) (omega arith))

digits_three : (n : ℕ) → 100 ≤ n → n < 1000
    → digits n ≡ (zero_byte + n / 100) ∷ (zero_byte + (n / 10 - n / 100 * 10)) ∷ (zero_byte + (n - n / 10 * 10)) ∷ []
digits_three n h l =
    let e : n / 10 / 10 ≡ n / 100 = omega arith in
    rw (digits_last n (omega arith) (omega arith), digits_two (n / 10) (omega arith) (omega arith), e)

pub digits_four : (n : ℕ) → 1000 ≤ n → n < 10000 → digits n ≡ four n
unfolding four
digits_four n h l =
    let e : n / 10 / 10 ≡ n / 100 = omega arith in
    let f : n / 10 / 100 ≡ n / 1000 = omega arith in
    let x : n / 100 % 10 ≡ n / 100 - n / 1000 * 10 = omega arith in
    let y : n / 10 % 10 ≡ n / 10 - n / 100 * 10 = omega arith in
    let z : n % 10 ≡ n - n / 10 * 10 = omega arith in
    rw (digits_last n (omega arith) (omega arith), digits_three (n / 10) (omega arith) (omega arith), e, f, x, y, z)

-- the last four digits of a number are those of what is left of its ten thousands
thousands : (n : ℕ) → n % 10000 / 1000 ≡ n / 1000 % 10
thousands n = omega arith

hundreds : (n : ℕ) → n % 10000 / 100 % 10 ≡ n / 100 % 10
hundreds n = omega arith

tens : (n : ℕ) → n % 10000 / 10 % 10 ≡ n / 10 % 10
tens n = omega arith

ones : (n : ℕ) → n % 10000 % 10 ≡ n % 10
ones n = omega arith

-- four digits after those of the ten thousands
digits_more : (n : ℕ) → 10000 ≤ n → n < 10000000000 → digits n ≡ digits (n / 10000) ++ four (n % 10000)
unfolding four
digits_more n h l =
    let a : n / 10 / 10 ≡ n / 100 = omega arith in
    let b : n / 100 / 10 ≡ n / 1000 = omega arith in
    let c : n / 1000 / 10 ≡ n / 10000 = omega arith in
    rw (
      thousands n,
      hundreds n,
      tens n,
      ones n,
      digits_step n (omega arith) l,
      digits_step (n / 10) (omega arith) (omega arith),
      a,
      digits_step (n / 100) (omega arith) (omega arith),
      b,
      digits_step (n / 1000) (omega arith) (omega arith),
      c,
    )
    (simp append_assoc)

-- ---- a number, written digit by digit

-- one to four digits at the front of a room
pub wrote_one : {d : List ℕ} (n : ℕ) → n < 10 → length (digits n) ≤ length d → Wrote (digits n) d (set d 0 (zero_byte + n)) 1
wrote_one {d} n h m = rw (digits_small n h) (wrote_byte (zero_byte + n) (wrote_none d) (omega (arith, length_small n h)))

pub wrote_two : {d : List ℕ} (n : ℕ) → 10 ≤ n → n < 100 → length (digits n) ≤ length d
    → Wrote (digits n) d (set (set d 0 (zero_byte + n / 10)) 1 (zero_byte + (n - n / 10 * 10))) 2
wrote_two {d} n h l m =
    let r : 2 ≤ length d = omega (arith, length_two n h l) in
    rw (digits_two n h l) (wrote_byte _ (wrote_byte _ (wrote_none d) (omega arith)) (omega arith))

pub wrote_three : {d : List ℕ} (n : ℕ) → 100 ≤ n → n < 1000 → length (digits n) ≤ length d
    → Wrote (digits n) d (set (set (set d 0 (zero_byte + n / 100)) 1 (zero_byte + (n / 10 - n / 100 * 10))) 2 (zero_byte + (n - n / 10 * 10))) 3
wrote_three {d} n h l m =
    let r : 3 ≤ length d = omega (arith, length_three n h l) in
    rw (digits_three n h l) (wrote_byte _ (wrote_byte _ (wrote_byte _ (wrote_none d) (omega arith)) (omega arith)) (omega arith))

pub wrote_four : {d : List ℕ} (n : ℕ) → 4 ≤ length d
    → Wrote
    (four n)
    d
    (set
    (set (set (set d 0 (zero_byte + n / 1000)) 1 (zero_byte + (n / 100 - n / 1000 * 10))) 2 (zero_byte + (n / 10 - n / 100 * 10)))
    3
    (zero_byte + (n - n / 10 * 10)))
    4
unfolding four
wrote_four {d} n r =
    let x : n / 100 % 10 ≡ n / 100 - n / 1000 * 10 = omega arith in
    let y : n / 10 % 10 ≡ n / 10 - n / 100 * 10 = omega arith in
    let z : n % 10 ≡ n - n / 10 * 10 = omega arith in
    rw (x, y, z) (wrote_byte _ (wrote_byte _ (wrote_byte _ (wrote_byte _ (wrote_none d) (omega arith)) (omega arith)) (omega arith)) (omega arith))

-- four digits are four bytes
pub four_long : (n : ℕ) → length (four n) ≡ 4
unfolding four
four_long n = refl

-- after the ten thousands there is room for four digits
pub more_room : {d xs : List ℕ} {a : ℕ} (n : ℕ) → 10000 ≤ n → n < 10000000000 → length (digits n) ≤ length d
    → Wrote (digits (n / 10000)) d xs a → a + 4 ≤ length xs
more_room {d} {xs} {a} n h l m w =
    let e : a + 4 ≤ length d = omega (arith, length_more n h l, w.many) in
    omega (arith, wrote_length w (omega arith))

-- the ten thousands are written, and four digits directly after them
pub wrote_more : {d xs ys : List ℕ} {a r : ℕ} (n : ℕ) → 10000 ≤ n → n < 10000000000
    → Wrote (digits (n / 10000)) d xs a → Wrote (four (n % 10000)) (take (length xs - a) (drop a xs)) ys r
    → Wrote (digits n) d (take a xs ++ (ys ++ drop (length xs - a) (drop a xs))) (a + r)
wrote_more n h l w v = rw (digits_more n h l) (wrote_behind w v)

-- What the writer of a line owes once the key and its value are written: room for LF, and the line with it.
pub record LineWrote (key v d xs ys : List ℕ) (k n : ℕ) : Type 0 where
  pub room : k + n + 1 ≤ length d
  pub whole : length (take k xs ++ (ys ++ drop (length xs - k) (drop k xs))) ≡ length d
  pub line_is : Wrote (line key v) d (set (take k xs ++ (ys ++ drop (length xs - k) (drop k xs))) (k + n) line_end) (k + n + 1)

-- a key is written, and its value directly after it
pub line_wrote : {key v d xs ys : List ℕ} {k n : ℕ}
    → length (line key v) ≤ length d → Wrote key d xs k → Wrote v (take (length xs - k) (drop k xs)) ys n → LineWrote key v d xs ys k n
line_wrote {key} {v} {d} {xs} {ys} {k} {n} h w u =
    let m : k + n + 1 ≤ length d = omega (arith, length_line key v, w.many, u.many) in
    let b = wrote_behind w u in
    record { room = m; whole = wrote_length b (omega arith); line_is = rw (← is_line key v) (wrote_byte line_end b (omega arith)) }
