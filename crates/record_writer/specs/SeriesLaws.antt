-- Texts one after another, in the steps in which a loop writes and counts them.
use Rattle.std.specs.Prelude.{List, [], ◌++◌, ◌≡◌, refl, ◌*◌, ◌+◌, ◌<◌, ◌≤◌, suc, zero, ℕ, length}
use Rattle.std.proofs.Common.{append_assoc, append-nil, ◌∙◌, ap, sym, arith, length-append}
use Rattle.lines.specs.Adds.{Adds, Room}
use Rattle.lines.specs.AddsLaws.{adds_inside, adds_none}
use Rattle.lines.specs.PutsLaws.{room_after_lem}
use Rattle.lines.specs.declared.putting.Output.{Output}
use Rattle.tables_text.proofs.LongestLineLaws.{series_length}
use Rattle.tables_text.specs.TextOf.{series}
use Rattle.tables_text.specs.TotalLaws.{total_const, total_le}

-- one text more stands at the end
pub series_snoc : (k i : ℕ) (g : ℕ → List ℕ) → series (suc k) i g ≡ series k i g ++ g (i + k)
unfolding series
series_snoc zero i g = let e : i + 0 ≡ i = omega arith in rw e (append-nil (g i))
series_snoc (suc k) i g =
    let e : suc i + k ≡ i + suc k = omega arith in
    ap (λ (x : List ℕ). g i ++ x) (rw e at (series_snoc k (suc i) g)) ∙ sym (append_assoc (g i) (series k (suc i) g) (g (i + suc k)))

-- the first k texts, and the next one, are no longer than all n
series_part : (n k i : ℕ) (g : ℕ → List ℕ) → k < n → length (series k i g) + length (g (i + k)) ≤ length (series n i g)
unfolding series
series_part zero k i g h = absurd (omega arith)
series_part (suc n) zero i g h =
    let e : i + 0 ≡ i = omega arith in
    rw e (omega (arith, length-append (g i) (series n (suc i) g)))
series_part (suc n) (suc k) i g h =
    let e : suc i + k ≡ i + suc k = omega arith in
    let l : length (series k (suc i) g) + length (g (i + suc k)) ≤ length (series n (suc i) g) = rw e at (series_part n k (suc i) g (omega arith)) in
    omega (arith, length-append (g i) (series k (suc i) g), length-append (g i) (series n (suc i) g))

-- as many texts, none longer than m, are no longer than so many times m
pub series_most : (k i m : ℕ) (g : ℕ → List ℕ) → ((j : ℕ) → length (g j) ≤ m) → length (series k i g) ≤ k * m
series_most k i m g h =
    omega (arith, series_length k i g, total_le k i (λ j. length (g j)) (λ j. m) (λ j a b. h j), total_const k i m)

-- no text yet
pub series_none : (i : ℕ) (g : ℕ → List ℕ) → series 0 i g ≡ []
unfolding series
series_none i g = refl

pub series_zero : (i : ℕ) (g : ℕ → List ℕ) → 0 ≡ length (series 0 i g)
unfolding series
series_zero i g = refl

-- how long they are with one more
pub series_more : (k i : ℕ) {m : ℕ} (g : ℕ → List ℕ) → m ≡ i + k → length (series k i g) + length (g m) ≡ length (series (k + 1) i g)
series_more k i g e =
    let s : k + 1 ≡ suc k = omega arith in
    rw (s, e, series_snoc k i g, length-append (series k i g) (g (i + k)))

-- nothing was written of them
pub series_start : (i : ℕ) (g : ℕ → List ℕ) (o : Output) → Adds (series 0 i g) o o
series_start i g o = rw (series_none i g) (adds_none o)

-- the next text has room where all of them had
pub series_room : {o p : Output} {m : ℕ} (n k i : ℕ) (g : ℕ → List ℕ) → m ≡ i + k → k < n → Room (series n i g) o → Adds (series k i g) o p → Room (g m) p
series_room n k i g q h l a = rw q (room_after_lem (g (i + k)) a.puts (omega (arith, l, series_part n k i g h)))

-- it is written after those before it
pub series_adds : {o p q : Output} {m : ℕ} (k i : ℕ) (g : ℕ → List ℕ) → m ≡ i + k → o.at ≤ length o.room.now
    → Adds (series k i g) o p → Adds (g m) p q → Adds (series (k + 1) i g) o q
series_adds k i g e h a b =
    let s : k + 1 ≡ suc k = omega arith in
    rw (s, series_snoc k i g) (adds_inside h a (rw e at b))
