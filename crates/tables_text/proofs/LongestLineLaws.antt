-- How many bytes the lines of a well-formed record have.
use Rattle.std.specs.Prelude.{List, [], ◌++◌, ◌∷◌, ◌≡◌, refl, ◌*◌, ◌+◌, ◌/◌, ◌<◌, ◌^◌, ◌≤◌, suc, zero, ℕ, length}
use Rattle.std.proofs.Common.{pow-suc, le-ltb, lt-ltb}
use native.Mathlib.Omega.{arith}
use Rattle.std.proofs.Math.ListN.{length-append}
use Rattle.model.specs.Basics.Cases.{cases, lt_or_le}
use Rattle.model.specs.Script.Reports.{held_key, missed_key}
use Rattle.model.specs.State.WellFormed.{Access, GoodTriple, WellFormed}
use Rattle.model.specs.Tables.RowLaws.{first_zero}
use Rattle.model.specs.Tables.WordAt.{entity_word_at, entity_word_of, user_word_at, user_word_of}
use Rattle.model.specs.Tables.Words.{Tables, authorised, clearance, current, device, device_kind, entity_count, held, held_op, kind, kinds, level, mark}
use Rattle.model.specs.Tables.Words.{maximum, missed, operation_in, place_count, places, position_of, releaser, sum_most, sums, triples, type, used}
use Rattle.model.specs.Tables.Words.{used_places}
use Rattle.model.specs.Tables.Words.{user_count, value, who_of}
use Rattle.model.specs.Text.LineLaws.{length_line}
use Rattle.model.specs.Text.NumberLaws.{length_small, length_step}
use Rattle.model.specs.Text.Numbers.{base, digits, digits_end}
use Rattle.model.specs.Text.References.{dot_byte, joined}
use Rattle.model.specs.Text.Wording.{user_key}
use Rattle.tables_text.specs.Keys.{Field, authorised_key, clearance_key, content_key, current_key, device_key, entity_fields, entity_key}
use Rattle.tables_text.specs.Keys.{maximum_key, operation_key, releaser_key, triple_key, triples_key, user_fields, value_key}
use Rattle.tables_text.specs.Longest.{held_digits, level_digits, line_size, missed_digits, operation_digits, place_size, plain_size, role_digits, second}
use Rattle.tables_text.specs.Longest.{size, triple_bytes, triples_size}
use Rattle.tables_text.specs.TextOf.{entity_lines, entity_words, field_lines, place_at, series, triple_at, triple_count, user_lines, user_words}
use Rattle.tables_text.specs.Total.{total}
use Rattle.tables_text.specs.TotalLaws.{total_const, total_le}
use Rattle.tables_text.specs.Values.{number_line, triple_line}

-- ---- numbers

-- a number below 10 ^ k has at most k digits, where k is not 0: the number 0 has one digit
below_power : (k n : ℕ) → n < base ^ suc k → n < digits_end → size n ≤ suc k
below_power zero n h l = let s : n < base = h in omega (arith, length_small n s)
below_power (suc k) n h l =
    let h' : n < base ^ suc k * base = rw (pow-suc base (suc k)) at h in
    cases (lt_or_le n base)
    (λ s. omega (arith, length_small n s))
    (λ s. omega (arith, length_step n s l, below_power k (n / base) (omega arith) (omega arith)))

pub digits_fit : (k n : ℕ) → 1 ≤ k → n < base ^ k → n < digits_end → size n ≤ k
digits_fit zero n p h l = absurd (omega arith)
digits_fit (suc k) n p h l = below_power k n h l

-- so one below 100 has one and, maybe, a second
pub second_fits : (n : ℕ) → n < base * base → size n ≤ 1 + second n
second_fits n h =
    cases (lt_or_le n base)
    (λ l. rw (lt-ltb n base l) (omega (arith, length_small n l)))
    (λ l. rw (le-ltb n base l) (digits_fit 2 n (omega arith) h (omega arith)))

pub second_most : (n : ℕ) → second n ≤ 1
second_most n = cases (lt_or_le n base) (λ l. rw (lt-ltb n base l) (omega arith)) (λ l. rw (le-ltb n base l) (omega arith))

-- ---- lines

pub number_length : (key : List ℕ) (n : ℕ) → length (number_line key n) ≡ line_size key (size n)
number_length key n = length_line key (digits n)

-- the bytes of the lines of some fields
abbrev pub sizes : List Field → ℕ → (ℕ → ℕ) → ℕ
sizes [] j w = 0
sizes (f ∷ fs) j w = line_size f.key (size (w j)) + sizes fs (suc j) w

pub fields_length : (fs : List Field) (j : ℕ) (w : ℕ → ℕ) → length (field_lines fs j w) ≡ sizes fs j w
unfolding field_lines
fields_length [] j w = refl
fields_length (f ∷ fs) j w =
    omega (arith, length-append (number_line f.key (w j)) (field_lines fs (suc j) w), number_length f.key (w j), fields_length fs (suc j) w)

pub series_length : (k i : ℕ) (g : ℕ → List ℕ) → length (series k i g) ≡ total k i (λ j. length (g j))
unfolding series total
series_length zero i g = refl
series_length (suc k) i g = omega (arith, length-append (g i) (series k (suc i) g), series_length k (suc i) g)

-- numbers joined by dots
pub two_length : (a b : ℕ) → length (joined (a ∷ b ∷ [])) ≡ size a + (1 + size b)
two_length a b = omega (arith, length-append (digits a) (dot_byte ∷ (digits b ++ [])), length-append (digits b) [])

pub three_length : (a b c : ℕ) → length (joined (a ∷ b ∷ c ∷ [])) ≡ size a + (1 + (size b + (1 + size c)))
three_length a b c = omega (arith, length-append (digits a) (dot_byte ∷ joined (b ∷ c ∷ [])), two_length b c)

-- a good triple has two digits at most for who and operation, and one for the position
triple_length : (t : ℕ) → GoodTriple t → length (triple_line t) ≤ line_size triple_key triple_bytes
triple_length t g =
    omega (
      arith,
      length_line triple_key (joined (who_of t ∷ operation_in t ∷ position_of t ∷ [])),
      three_length (who_of t) (operation_in t) (position_of t),
      digits_fit 2 (who_of t) (omega arith) (omega (arith, g.who)) (omega (arith, g.who)),
      digits_fit operation_digits (operation_in t) (omega arith) (omega (arith, g.operation)) (omega (arith, g.operation)),
      digits_fit 1 (position_of t) (omega arith) (omega (arith, g.position)) (omega (arith, g.position)),
    )

module _ (d : Tables) (w : WellFormed d) where
  -- ---- users

  held_fits : (u : ℕ) → size (d.user u held) ≤ held_digits
  held_fits u = cases (w.users u).notice.held_in
      (λ e. digits_fit held_digits (d.user u held) (omega arith) (omega arith) (omega arith))
      (λ h. digits_fit held_digits (d.user u held) (omega arith) (omega (arith, h.1)) (omega (arith, h.1)))

  -- the lines of a user whose current roles and device have so many digits
  pub user_lines_lem : (u : ℕ) → u ≤ user_count → (c v : ℕ) → size (d.user u current) ≤ c → size (d.user u device) ≤ v
      → length (user_lines d u) ≤
      line_size user_key (1 + second u) + line_size clearance_key level_digits + line_size authorised_key role_digits + line_size current_key c + line_size
      device_key v
      + line_size held_key held_digits + line_size operation_key operation_digits + line_size missed_key missed_digits
  unfolding user_lines user_word_at user_word_of
  user_lines_lem u h c v hc hv =
      let k = w.users u in
      omega (
        arith,
        length-append (number_line user_key u) (field_lines user_fields 1 (user_words d u)),
        number_length user_key u,
        fields_length user_fields 1 (user_words d u),
        second_fits u (omega arith),
        digits_fit level_digits (d.user u clearance) (omega arith) (omega (arith, k.clearance_in)) (omega (arith, k.clearance_in)),
        digits_fit role_digits (d.user u authorised) (omega arith) (omega (arith, k.authorised_in)) (omega (arith, k.authorised_in)),
        held_fits u,
        digits_fit operation_digits (d.user u held_op) (omega arith) (omega (arith, k.notice.operation_in)) (omega (arith, k.notice.operation_in)),
        digits_fit missed_digits (d.user u missed) (omega arith) (omega (arith, k.notice.missed_in)) (omega (arith, k.notice.missed_in)),
      )

  -- ---- entities

  -- what stands in a place has a number
  pub place_range : (e i : ℕ) → i < used_places d e → (1 ≤ places d e i) × (places d e i ≤ entity_count)
  place_range e i h = w.entity_numbers (places d e i) (λ q. omega (arith, (w.links.contents e (places d e i) (i, h, refl)).0))

  sum_fits : (e i : ℕ) → i < used_places d e → sums d e i ≤ sum_most
  sum_fits e i h =
      let f = (w.entities e).filled in
      cases (lt_or_le (kinds d e) device_kind)
      (λ l. omega (arith, f.no_sums (λ s. omega arith) i))
      (λ l. (f.sums (omega (arith, (w.entities e).shape.kind_in)) i h).1)

  pub place_length : (e i : ℕ) → i < used_places d e → length (place_at d e i) ≤ place_size + second (places d e i)
  place_length e i h =
      omega (
        arith,
        length_line content_key (joined (places d e i ∷ sums d e i ∷ [])),
        two_length (places d e i) (sums d e i),
        second_fits (places d e i) (omega (arith, (place_range e i h).1)),
        digits_fit 1 (sums d e i) (omega arith) (omega (arith, sum_fits e i h)) (omega (arith, sum_fits e i h)),
      )

  triples_length : (e : ℕ) → length (number_line triples_key (triple_count d e)) + length (series (triple_count d e) 0 (triple_at d e)) ≤ triples_size
  triples_length e =
      let n = (w.entities e).access.0 in
      let a : Access n (triples d e) = (w.entities e).access.1 in
      let c : triple_count d e ≡ n = first_zero (triples d e) n a.packed in
      let m : n ≤ place_count = a.packed.room in
      let b : total n 0 (λ i. length (triple_at d e i)) ≤ total n 0 (λ i. line_size triple_key triple_bytes)
      = total_le n 0 (λ i. length (triple_at d e i)) (λ i. line_size triple_key triple_bytes)
      (λ i x y. triple_length (triples d e i) (a.good i (omega arith))) in
      rw c (omega (
        arith,
        number_length triples_key n,
        series_length n 0 (triple_at d e),
        total_const n 0 (line_size triple_key triple_bytes),
        digits_fit 1 n (omega arith) (omega arith) (omega arith),
      ))

  -- the lines of an entity whose value, releaser and maximum have so many digits, but for the places
  pub entity_lines_lem : (e : ℕ) → e ≤ entity_count → (v r m : ℕ) → size (d.entity e value) ≤ v → size (d.entity e releaser) ≤ r → size (d.entity e maximum) ≤ m
      → length (entity_lines d e)
      ≤ plain_size + second e + line_size value_key v + line_size releaser_key r + line_size maximum_key m + total (used_places d e) 0
      (λ i. length (place_at d e i))
  unfolding entity_lines entity_word_at entity_word_of
  entity_lines_lem e h v r m hv hr hm =
      let s = (w.entities e).shape in
      let a = series (triple_count d e) 0 (triple_at d e) in
      let b = number_line triples_key (triple_count d e) ++ a in
      let c = series (used_places d e) 0 (place_at d e) in
      let f = field_lines entity_fields 0 (entity_words d e) in
      omega (
        arith,
        length-append (number_line entity_key e) (f ++ (c ++ b)),
        length-append f (c ++ b),
        length-append c b,
        length-append (number_line triples_key (triple_count d e)) a,
        triples_length e,
        series_length (used_places d e) 0 (place_at d e),
        number_length entity_key e,
        fields_length entity_fields 0 (entity_words d e),
        second_fits e (omega arith),
        digits_fit 1 (d.entity e kind) (omega arith) (omega (arith, s.kind_in)) (omega (arith, s.kind_in)),
        digits_fit 1 (d.entity e type) (omega arith) (omega (arith, s.type_in)) (omega (arith, s.type_in)),
        digits_fit level_digits (d.entity e level) (omega arith) (omega (arith, s.level_in)) (omega (arith, s.level_in)),
        digits_fit 1 (d.entity e mark) (omega arith) (omega (arith, s.mark_in)) (omega (arith, s.mark_in)),
        digits_fit 1 (d.entity e used) (omega arith) (omega (arith, (w.entities e).filled.packed.room)) (omega (arith, (w.entities e).filled.packed.room)),
      )
