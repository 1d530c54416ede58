-- Rows as lists: what appending to a row, closing it up and packing it are, read as lists.
use Rattle.std.specs.Prelude.{Bool, false, true, ◌⊎◌, ◌≡◌, refl, ◌+◌, ◌<◌, ◌≤◌, pred, suc, zero, ℕ, eqb, ltb, get_or, length}
use mathlib.Core.List.Memᴰ
use mathlib.Core.List.{List, Memᴰ, []}
use mathlib.Core.List.{◌++◌, ◌∷◌, head-eq_of_cons-eq, nil≢cons, tail-eq_of_cons-eq}
use Rattle.std.proofs.Common.{inl, inr, ◌∙◌, ap, ap₂, subst, sym, le_of_suc-le-suc, not-suc-le-zero, arith, length-append}
use Rattle.std.proofs.Math.Dec.{leb-suc-suc, leb-suc-zero, leb-zero}
use Rattle.model.specs.Basics.Cases.{cases}
use Rattle.model.specs.Basics.Choice.{Below, Same, below, it, other, over, pick, same, under}
use Rattle.model.specs.Tables.Contents.{TakenOut, nonzero}
use Rattle.model.specs.Tables.EditLaws.{case}
use Rattle.model.specs.Tables.RowLaws.{close_beyond, sought}
use Rattle.model.specs.Tables.Rows.{Member, Packed, Sought, close, left, replace, seek, without}
use Rattle.model.specs.Tables.Words.{place_count}
use Rattle.model.specs.Tables.WordsOf.{first_values}
use Rattle.model.specs.Tables.WordsOfLaws.{values_at, values_length, values_next}

-- rows that are the same in their first n places have the same first n values
pub values_same : (n : ℕ) (f g : ℕ → ℕ) → ((i : ℕ) → i < n → f i ≡ g i) → first_values n f ≡ first_values n g
unfolding first_values
values_same zero f g h = refl
values_same (suc n) f g h = ap₂ {C = List ℕ} (λ (x : ℕ) (l : List ℕ). x ∷ l) (h 0 (omega arith))
    (values_same n (λ i. f (suc i)) (λ i. g (suc i)) (λ i l. h (suc i) (omega arith)))

-- and the other way
pub values_each : (n : ℕ) (f g : ℕ → ℕ) → first_values n f ≡ first_values n g → (i : ℕ) → i < n → f i ≡ g i
values_each n f g e i h = sym (values_at n f i h) ∙ ap (λ (l : List ℕ). get_or l i 0) e ∙ values_at n g i h

-- a value put in the next place comes last
pub values_put : (n v : ℕ) (row : ℕ → ℕ) → first_values (suc n) (replace n v row) ≡ first_values n row ++ (v ∷ [])
values_put n v row = values_next n (replace n v row) ∙ ap₂ {C = List ℕ} (λ (l : List ℕ) (x : ℕ). l ++ (x ∷ []))
    (values_same n (replace n v row) row (λ i h. case (λ (y : ℕ). y ≡ row i) i n v (row i) (λ q. absurd (omega arith)) (λ q. refl)))
    (case (λ (y : ℕ). y ≡ v) n n v (row n) (λ q. refl) (λ q. absurd (q refl)))

-- what stands in one of the first n places is in the list
pub member_listed : (n : ℕ) (row : ℕ → ℕ) (v i : ℕ) → i < n → row i ≡ v → Memᴰ v (first_values n row)
unfolding first_values
member_listed zero row v i h e = absurd (not-suc-le-zero h)
member_listed (suc n) row v zero h e = Memᴰ.head (sym e)
member_listed (suc n) row v (suc i) h e = Memᴰ.tail (member_listed n (λ j. row (suc j)) v i (le_of_suc-le-suc h) e)

-- and the other way
pub listed_member : (n : ℕ) (row : ℕ → ℕ) (v : ℕ) → Memᴰ v (first_values n row) → Member row n v
unfolding first_values
listed_member zero row v m = absurd (Memᴰ.not-nil m)
listed_member (suc n) row v m = go (Memᴰ.cases_cons m) (listed_member n (λ j. row (suc j)) v)
  where
    go : (v ≡ row 0) ⊎ Memᴰ v (first_values n (λ j. row (suc j))) → (Memᴰ v (first_values n (λ j. row (suc j))) → Member (λ j. row (suc j)) n v)
        → Member row (suc n) v
    go (inl e) f = (0, omega arith, sym e)
    go (inr t) f = let z = f t in (suc z.0, omega (arith, z.1), z.2)

-- the entry behind p is at the place that p has entries
behind : (p s : List ℕ) (v : ℕ) → get_or (p ++ (v ∷ s)) (length p) 0 ≡ v
behind [] s v = refl
behind (x ∷ p) s v = behind p s v

pub parted_at : (n : ℕ) (row : ℕ → ℕ) (v : ℕ) (p s : List ℕ) → first_values n row ≡ p ++ (v ∷ s) → (length p < n) × (row (length p) ≡ v)
parted_at n row v p s e =
    let l : n ≡ length p + suc (length s) = sym (values_length n row) ∙ ap (λ (x : List ℕ). length x) e ∙ length-append p (v ∷ s) in
    let h : length p < n = omega arith in
    (h, sym (values_at n row (length p) h) ∙ ap (λ (x : List ℕ). get_or x (length p) 0) e ∙ behind p s v)

-- what is closed up at the first place is the rest of the row
close_first : (row : ℕ → ℕ) (i : ℕ) → close 0 row i ≡ row (suc i)
close_first row i = ap (λ (b : Bool). pick b (row i) (row (suc i))) (leb-suc-zero i)

-- closing up further on keeps the first value
close_keeps : (k : ℕ) (row : ℕ → ℕ) → close (suc k) row 0 ≡ row 0
close_keeps k row = ap (λ (b : Bool). pick b (row 0) (row 1)) (leb-suc-suc 0 k ∙ leb-zero k)

-- and is closing up the rest of the row
close_later : (k : ℕ) (row : ℕ → ℕ) (i : ℕ) → close (suc k) row (suc i) ≡ close k (λ j. row (suc j)) i
close_later k row i = ap (λ (b : Bool). pick b (row (suc i)) (row (suc (suc i)))) (leb-suc-suc (suc i) k)

-- a list closed up at the entry behind p
close_parted : (p s : List ℕ) (n : ℕ) (row : ℕ → ℕ) (v : ℕ) → first_values n row ≡ p ++ (v ∷ s) → first_values (pred n) (close (length p) row) ≡ p ++ s
unfolding first_values
close_parted [] s zero row v e = absurd (nil≢cons e)
close_parted [] s (suc n) row v e = values_same n (close 0 row) (λ i. row (suc i)) (λ i h. close_first row i) ∙ tail-eq_of_cons-eq e
close_parted (x ∷ p) s zero row v e = absurd (nil≢cons e)
close_parted (x ∷ p) s (suc zero) row v e = absurd (parted_none p (tail-eq_of_cons-eq e))
  where
    parted_none : (p : List ℕ) → [] ≡ p ++ (v ∷ s) → ⊥
    parted_none [] q = nil≢cons q
    parted_none (y ∷ p) q = nil≢cons q
close_parted (x ∷ p) s (suc (suc n)) row v e = ap₂ {C = List ℕ} (λ (y : ℕ) (l : List ℕ). y ∷ l) (close_keeps (length p) row ∙ head-eq_of_cons-eq e)
    (values_same n (λ i. close (suc (length p)) row (suc i)) (close (length p) (λ j. row (suc j))) (λ i h. close_later (length p) row i)
    ∙ close_parted p s (suc n) (λ j. row (suc j)) v (tail-eq_of_cons-eq e))

module _ (row : ℕ → ℕ) (n v : ℕ) where
  -- a row closed up where v stands is the list with v taken out
  pub close_taken : (k : ℕ) → Packed row n → k < n → row k ≡ v → TakenOut v (first_values n row) (first_values (pred n) (close k row))
  close_taken k w h e = record {
    closed = λ p s q.
        let a = parted_at n row v p s q in
        let same_place : length p ≡ k = w.distinct (length p) k a.0 h (a.1 ∙ sym e) in
        subst (λ (j : ℕ). first_values (pred n) (close j row) ≡ p ++ s) same_place (close_parted p s n row v q);
    kept = λ none. absurd (none (member_listed n row v k h e));
  }

  -- a row in which v does not stand is the list with v taken out
  pub none_taken : (Member row n v → ⊥) → TakenOut v (first_values n row) (first_values n row)
  none_taken none = record {
    closed = λ p s q. let a = parted_at n row v p s q in absurd (none (length p, a.0, a.1));
    kept = λ m. refl;
  }

-- so a row without v is the list with v taken out
pub without_taken : (v : ℕ) (row : ℕ → ℕ) (n : ℕ) → Packed row n → TakenOut v (first_values n row) (first_values (left v row n) (without v row n))
without_taken v row n w = go (ltb (seek v row n) n) (below (seek v row n) n) (sought v row n)
  where
    go : (b : Bool) → Below (seek v row n) n b → Sought v row n (seek v row n)
        → TakenOut v (first_values n row) (first_values (pick b (pred n) n) (without v row n))
    go true (under h) (inl z) = close_taken row n v (seek v row n) w h z.1
    go true (under h) (inr z) = absurd (omega (arith, z.0))
    go false (over h) (inl z) = absurd (omega (arith, z.0))
    go false (over h) (inr z) = subst (λ (r : ℕ → ℕ). TakenOut v (first_values n row) (first_values n r)) (sym (close_beyond row n (seek v row n) w h))
        (none_taken row n v (λ m. z.1 m.0 m.1 m.2))

-- v stands in a list, which then has a part before it and a part behind it, or does not
pub parted : (v : ℕ) (l : List ℕ) → ((p : List ℕ) × (s : List ℕ) × (l ≡ p ++ (v ∷ s))) ⊎ (Memᴰ v l → ⊥)
parted v [] = inr Memᴰ.not-nil
parted v (z ∷ l) = go (eqb z v) (same z v) (parted v l)
  where
    go : (b : Bool) → Same z v b → ((p : List ℕ) × (s : List ℕ) × (l ≡ p ++ (v ∷ s))) ⊎ (Memᴰ v l → ⊥)
        → ((p : List ℕ) × (s : List ℕ) × (z ∷ l ≡ p ++ (v ∷ s))) ⊎ (Memᴰ v (z ∷ l) → ⊥)
    go true (it e) r = inl ([], l, ap {B = List ℕ} (λ (y : ℕ). y ∷ l) e)
    go false (other e) (inl r) = inl (z ∷ r.0, r.1, ap {B = List ℕ} (λ (t : List ℕ). z ∷ t) r.2)
    go false (other e) (inr r) = inr (λ m. cases (Memᴰ.cases_cons m) (λ q. e (sym q)) r)

-- v stands in a list or does not
pub listed_or_not : (v : ℕ) (l : List ℕ) → Memᴰ v l ⊎ (Memᴰ v l → ⊥)
listed_or_not v l = cases (parted v l) (λ r. inl (subst (Memᴰ v) (sym r.2) (Memᴰ.append_right r.0 (Memᴰ.head refl)))) inr

-- only one list is a list with v taken out
pub taken_unique : (v : ℕ) (l a b : List ℕ) → TakenOut v l a → TakenOut v l b → a ≡ b
taken_unique v l a b x y = cases (parted v l) (λ r. x.closed r.0 r.1 r.2 ∙ sym (y.closed r.0 r.1 r.2)) (λ r. x.kept r ∙ sym (y.kept r))

-- the values that are not zero, where these are the first n of m
nonzero_first : (m n : ℕ) (row : ℕ → ℕ) → n ≤ m → ((i : ℕ) → i < n → 1 ≤ row i) → ((i : ℕ) → n ≤ i → row i ≡ 0)
    → nonzero (first_values m row) ≡ first_values n row
unfolding first_values nonzero
nonzero_first zero zero row h f g = refl
nonzero_first zero (suc n) row h f g = absurd (not-suc-le-zero h)
nonzero_first (suc m) zero row h f g = rw (g 0 (omega arith))
    (nonzero_first m zero (λ i. row (suc i)) (omega arith) (λ i l. absurd (not-suc-le-zero l)) (λ i l. g (suc i) (omega arith)))
nonzero_first (suc m) (suc n) row h f g = go (row 0) (f 0 (omega arith))
    (nonzero_first m n (λ i. row (suc i)) (omega arith) (λ i l. f (suc i) (omega arith)) (λ i l. g (suc i) (omega arith)))
  where
    go : (x : ℕ) → 1 ≤ x → nonzero (first_values m (λ i. row (suc i))) ≡ first_values n (λ i. row (suc i))
        → nonzero (x ∷ first_values m (λ i. row (suc i))) ≡ x ∷ first_values n (λ i. row (suc i))
    go zero l e = absurd (not-suc-le-zero l)
    go (suc x) l e = ap {B = List ℕ} (λ t. suc x ∷ t) e

-- of a packed row of eight they are the used ones
pub packed_list : (row : ℕ → ℕ) (n : ℕ) → Packed row n → nonzero (first_values place_count row) ≡ first_values n row
packed_list row n w = nonzero_first place_count n row w.room w.used w.rest
