-- The order of references is strict and total, a list in order is settled by its members, and how lists in order are put together.
use Rattle.std.specs.Prelude.{Bool, false, true, ◌++◌, ◌∷◌, map, ◌⊎◌, ◌≡◌, refl, ◌<◌, suc, zero, ℕ, eqb, ltb, get_or, length}
use mathlib.Core.List.Memᴰ
use mathlib.Core.List.{List, Memᴰ, []}
use Rattle.std.proofs.Common.{inl, inr, ⊎_elim, ◌∙◌, ap, ap₂, subst, sym, le_of_suc-le-suc, arith}
use Rattle.model.specs.Basics.Choice.{Below, Same, below, it, other, over, same, under}
use Rattle.model.specs.List.Order.{Before, Sorted}

-- No reference stands before itself,
pub before_irrefl : (r : List ℕ) → Before r r → ⊥
before_irrefl [] h = h
before_irrefl (x ∷ xs) h = ⊎_elim (λ l. omega arith) (λ w. before_irrefl xs w.1) h

-- nor two before each other.
pub before_asym : (r s : List ℕ) → Before r s → Before s r → ⊥
before_asym [] [] h k = h
before_asym [] (y ∷ ys) h k = k
before_asym (x ∷ xs) [] h k = h
before_asym (x ∷ xs) (y ∷ ys) h k =
    ⊎_elim {A = x < y} (λ l. ⊎_elim {A = y < x} (λ m. omega arith) (λ w. let e : y ≡ x = w.0 in omega arith) k)
    (λ v. let d : x ≡ y = v.0 in ⊎_elim {A = y < x} (λ m. omega arith) (λ w. before_asym xs ys v.1 w.1) k) h

-- What stands before another stands before all that the other does,
pub before_trans : (r s t : List ℕ) → Before r s → Before s t → Before r t
before_trans [] [] t h k = absurd h
before_trans [] (y ∷ ys) [] h k = absurd k
before_trans [] (y ∷ ys) (z ∷ zs) h k = tt
before_trans (x ∷ xs) [] t h k = absurd h
before_trans (x ∷ xs) (y ∷ ys) [] h k = absurd k
before_trans (x ∷ xs) (y ∷ ys) (z ∷ zs) h k =
    ⊎_elim {A = x < y} (λ l. inl (⊎_elim {A = y < z} (λ m. omega arith) (λ w. let e : y ≡ z = w.0 in omega arith) k))
    (λ v. let d : x ≡ y = v.0 in ⊎_elim {A = y < z} (λ m. inl (omega arith)) (λ w. inr (d ∙ w.0, before_trans xs ys zs v.1 w.1)) k) h

-- and of two that are not the same one stands before the other.
pub before_total : (r s : List ℕ) → (r ≡ s) ⊎ (Before r s ⊎ Before s r)
before_total [] [] = inl refl
before_total [] (y ∷ ys) = inr (inl tt)
before_total (x ∷ xs) [] = inr (inr tt)
before_total (x ∷ xs) (y ∷ ys) = go (ltb x y) (eqb x y) (below x y) (same x y) (before_total xs ys)
  where
    go : (a b : Bool) → Below x y a → Same x y b → (xs ≡ ys) ⊎ (Before xs ys ⊎ Before ys xs)
        → (◌≡◌ {A = List ℕ} (x ∷ xs) (y ∷ ys)) ⊎ (Before (x ∷ xs) (y ∷ ys) ⊎ Before (y ∷ ys) (x ∷ xs))
    go true b (under l) s z = inr (inl (inl l))
    go false true l (it e) (inl z) = inl (ap₂ (λ (n : ℕ) (ns : List ℕ). n ∷ ns) e z)
    go false true l (it e) (inr (inl z)) = inr (inl (inr (e, z)))
    go false true l (it e) (inr (inr z)) = inr (inr (inr (sym e, z)))
    go false false (over l) (other n) z = inr (inr (inl (omega (arith, n))))

-- Two lists in order with the same members begin with the same,
heads_same : (x y : List ℕ) (xs ys : List (List ℕ)) → ((s : List ℕ) → Memᴰ s xs → Before x s) → ((s : List ℕ) → Memᴰ s ys → Before y s)
    → Memᴰ x (y ∷ ys) → Memᴰ y (x ∷ xs) → x ≡ y
heads_same x y xs ys b c m n =
    ⊎_elim (λ e. e) (λ k. ⊎_elim (λ e. sym e) (λ l. absurd (before_asym x y (b y l) (c x k))) (Memᴰ.cases_cons n)) (Memᴰ.cases_cons m)

-- and what follows has the same members,
rest_within : (x y : List ℕ) (xs ys : List (List ℕ)) → x ≡ y → ((s : List ℕ) → Memᴰ s xs → Before x s)
    → ((r : List ℕ) → Memᴰ r (x ∷ xs) → Memᴰ r (y ∷ ys)) → (r : List ℕ) → Memᴰ r xs → Memᴰ r ys
rest_within x y xs ys e b f r m =
    ⊎_elim (λ q. absurd (before_irrefl x (subst (Before x) (q ∙ sym e) (b r m)))) (λ n. n) (Memᴰ.cases_cons (f r (Memᴰ.tail m)))

-- so they are the same list.
pub sorted_unique : (a b : List (List ℕ)) → Sorted a → Sorted b → ((r : List ℕ) → Memᴰ r a → Memᴰ r b)
    → ((r : List ℕ) → Memᴰ r b → Memᴰ r a) → a ≡ b
sorted_unique [] [] s t f g = refl
sorted_unique [] (y ∷ ys) s t f g = absurd (Memᴰ.not-nil (g y (Memᴰ.head refl)))
sorted_unique (x ∷ xs) [] s t f g = absurd (Memᴰ.not-nil (f x (Memᴰ.head refl)))
sorted_unique (x ∷ xs) (y ∷ ys) s t f g =
    let e : x ≡ y = heads_same x y xs ys s.0 t.0 (f x (Memᴰ.head refl)) (g y (Memᴰ.head refl)) in
    ap₂ (λ (r : List ℕ) (rs : List (List ℕ)). r ∷ rs) e
    (sorted_unique xs ys s.1 t.1 (rest_within x y xs ys e s.0 f) (rest_within y x ys xs (sym e) t.0 g))

-- Two lists in order, all of one before all of the other, are in order one after the other.
pub sorted_append : (a b : List (List ℕ)) → Sorted a → Sorted b → ((r s : List ℕ) → Memᴰ r a → Memᴰ s b → Before r s) → Sorted (a ++ b)
sorted_append [] b s t h = t
sorted_append (x ∷ xs) b s t h = (
  λ r m. ⊎_elim (s.0 r) (λ n. h x r (Memᴰ.head refl) n) (Memᴰ.append_cases xs m),
  sorted_append xs b s.1 t (λ r q m n. h r q (Memᴰ.tail m) n),
)

-- What is in a list under a name is that name and one of the list,
pub mem_under : (n : ℕ) (l : List (List ℕ)) (x : List ℕ) → Memᴰ x (map (λ r. n ∷ r) l) → (y : List ℕ) × (x ≡ n ∷ y) × Memᴰ y l
mem_under n [] x m = absurd (Memᴰ.not-nil m)
mem_under n (r ∷ rs) x m =
    ⊎_elim (λ e. (r, e, Memᴰ.head refl)) (λ k. let (y, e, i) = mem_under n rs x k in (y, e, Memᴰ.tail i)) (Memᴰ.cases_cons m)

-- the other way round,
pub under_mem : (n : ℕ) (l : List (List ℕ)) (y : List ℕ) → Memᴰ y l → Memᴰ (n ∷ y) (map (λ r. n ∷ r) l)
under_mem n [] y m = absurd (Memᴰ.not-nil m)
under_mem n (r ∷ rs) y m =
    ⊎_elim (λ e. Memᴰ.head (ap (λ (z : List ℕ). n ∷ z) e)) (λ k. Memᴰ.tail (under_mem n rs y k)) (Memᴰ.cases_cons m)

-- and a list in order is so under a name, too.
pub sorted_under : (n : ℕ) (l : List (List ℕ)) → Sorted l → Sorted (map (λ r. n ∷ r) l)
sorted_under n [] s = tt
sorted_under n (r ∷ rs) s = (λ x m. let (y, e, i) = mem_under n rs x m in before_under r y x e (s.0 y i), sorted_under n rs s.1)
  where
    before_under : (r s x : List ℕ) → x ≡ n ∷ s → Before r s → Before (n ∷ r) x
    before_under r s x e b = subst (Before (n ∷ r)) (sym e) (inr (refl, b))

-- what stands at a place is in the list
mem_at : (l : List (List ℕ)) (i : ℕ) → i < length l → Memᴰ (get_or l i []) l
mem_at [] i h = absurd (omega arith)
mem_at (r ∷ rs) zero h = Memᴰ.head refl
mem_at (r ∷ rs) (suc i) h = Memᴰ.tail (mem_at rs i (le_of_suc-le-suc h))

-- No two places of a list in order hold the same.
pub sorted_once : (l : List (List ℕ)) → Sorted l → (i j : ℕ) → i < j → j < length l → (get_or l i [] ≡ get_or l j []) → ⊥
sorted_once [] s i j h k e = omega arith
sorted_once (r ∷ rs) s i zero h k e = omega arith
sorted_once (r ∷ rs) s zero (suc j) h k e =
    before_irrefl r (subst (Before r) (sym e) (s.0 (get_or rs j []) (mem_at rs j (le_of_suc-le-suc k))))
sorted_once (r ∷ rs) s (suc i) (suc j) h k e = sorted_once rs s.1 i j (le_of_suc-le-suc h) (le_of_suc-le-suc k) e
