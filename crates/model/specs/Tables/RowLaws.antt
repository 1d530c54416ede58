-- What appending, replacing, closing up and seeking do to a packed row, for any row.
use Rattle.std.specs.Prelude.{Bool, false, true, ◌≢◌, ◌⊎◌, ◌≡◌, refl, ◌<◌, ◌≤◌, pred, suc, zero, ℕ, eqb, ltb}
use Rattle.std.proofs.Common.{inl, inr, ◌∙◌, ap, subst, sym, le_of_suc-le-suc, le_refl, not-suc-le-zero, arith}
use Rattle.std.proofs.Math.Path.{fun_ext}
use Rattle.model.specs.Basics.Choice.{Below, Same, below, it, other, over, pick, same, under}
use Rattle.model.specs.Tables.Rows.{Member, Packed, Sought, close, left, replace, seek, without}
use Rattle.model.specs.Tables.Words.{place_count}

-- an empty row
pub packed_none : Packed (λ i. 0) 0
packed_none = record { room = omega arith; used = λ i h. omega arith; rest = λ i h. refl; distinct = λ i j h k e. omega arith }

module _ (row : ℕ → ℕ) (n v : ℕ) (p : Packed row n) where
  -- v appended last
  append_used : 1 ≤ v → (i : ℕ) → i < suc n → 1 ≤ replace n v row i
  append_used hv i h = go (eqb i n) (same i n)
    where
      go : (b : Bool) → Same i n b → 1 ≤ pick b v (row i)
      go true (it e) = hv
      go false (other e) = p.used i (omega arith)

  append_rest : (i : ℕ) → suc n ≤ i → replace n v row i ≡ 0
  append_rest i h = go (eqb i n) (same i n)
    where
      go : (b : Bool) → Same i n b → pick b v (row i) ≡ 0
      go true (it e) = omega arith
      go false (other e) = p.rest i (omega arith)

  append_distinct : ((i : ℕ) → i < n → row i ≢ v) → (i j : ℕ) → i < suc n → j < suc n → replace n v row i ≡ replace n v row j → i ≡ j
  append_distinct new i j hi hj = go (eqb i n) (eqb j n) (same i n) (same j n)
    where
      go : (a b : Bool) → Same i n a → Same j n b → pick a v (row i) ≡ pick b v (row j) → i ≡ j
      go true true (it d) (it e) q = d ∙ sym e
      go true false (it d) (other e) q = absurd (new j (omega arith) (sym q))
      go false true (other d) (it e) q = absurd (new i (omega arith) q)
      go false false (other d) (other e) q = p.distinct i j (omega arith) (omega arith) q

  pub append_packed : n < place_count → 1 ≤ v → ((i : ℕ) → i < n → row i ≢ v) → Packed (replace n v row) (suc n)
  append_packed h hv new = record { room = h; used = append_used hv; rest = append_rest; distinct = append_distinct new }

pub append_member : (row : ℕ → ℕ) (n v c : ℕ) → Member (replace n v row) (suc n) c → Member row n c ⊎ (c ≡ v)
append_member row n v c m = go (eqb m.0 n) (same m.0 n) m.2
  where
    go : (b : Bool) → Same m.0 n b → pick b v (row m.0) ≡ c → Member row n c ⊎ (c ≡ v)
    go true (it e) q = inr (sym q)
    go false (other e) q = inl (m.0, omega (arith, m.1), q)

module _ (row : ℕ → ℕ) (n k : ℕ) (p : Packed row n) (h : k < n) where
  close_used : (i : ℕ) → i < pred n → 1 ≤ close k row i
  close_used i hi = go (ltb i k) (below i k)
    where
      go : (b : Bool) → Below i k b → 1 ≤ pick b (row i) (row (suc i))
      go true (under e) = p.used i (omega arith)
      go false (over e) = p.used (suc i) (omega arith)

  close_rest : (i : ℕ) → pred n ≤ i → close k row i ≡ 0
  close_rest i hi = go (ltb i k) (below i k)
    where
      go : (b : Bool) → Below i k b → pick b (row i) (row (suc i)) ≡ 0
      go true (under e) = p.rest i (omega arith)
      go false (over e) = p.rest (suc i) (omega arith)

  close_distinct : (i j : ℕ) → i < pred n → j < pred n → close k row i ≡ close k row j → i ≡ j
  close_distinct i j hi hj = go (ltb i k) (ltb j k) (below i k) (below j k)
    where
      go : (a b : Bool) → Below i k a → Below j k b → pick a (row i) (row (suc i)) ≡ pick b (row j) (row (suc j)) → i ≡ j
      go true true (under d) (under e) q = p.distinct i j (omega arith) (omega arith) q
      go true false (under d) (over e) q = omega (arith, p.distinct i (suc j) (omega arith) (omega arith) q)
      go false true (over d) (under e) q = omega (arith, p.distinct (suc i) j (omega arith) (omega arith) q)
      go false false (over d) (over e) q = omega (arith, p.distinct (suc i) (suc j) (omega arith) (omega arith) q)

  pub close_packed : Packed (close k row) (pred n)
  close_packed = record { room = omega (arith, p.room); used = close_used; rest = close_rest; distinct = close_distinct }

  pub close_member : (c : ℕ) → Member (close k row) (pred n) c → Member row n c × (c ≢ row k)
  close_member c m = go (ltb m.0 k) (below m.0 k) m.2
    where
      go : (b : Bool) → Below m.0 k b → pick b (row m.0) (row (suc m.0)) ≡ c → Member row n c × (c ≢ row k)
      go true (under e) q = ((m.0, omega arith, q), λ z. omega (arith, p.distinct m.0 k (omega arith) h (q ∙ z)))
      go false (over e) q = ((suc m.0, omega (arith, m.1), q), λ z. omega (arith, p.distinct (suc m.0) k (omega (arith, m.1)) h (q ∙ z)))

later : (v : ℕ) (row : ℕ → ℕ) (n : ℕ) → row 0 ≢ v → ((i : ℕ) → i < n → row (suc i) ≢ v) → (i : ℕ) → i < suc n → row i ≢ v
later v row n z s zero h = z
later v row n z s (suc i) h = s i (omega arith)

pub sought : (v : ℕ) (row : ℕ → ℕ) (n : ℕ) → Sought v row n (seek v row n)
unfolding seek
sought v row zero = inr (refl, λ i h. omega arith)
sought v row (suc n) = go (eqb (row zero) v) (same (row zero) v) (seek v (λ i. row (suc i)) n) (sought v (λ i. row (suc i)) n)
  where
    go : (b : Bool) → Same (row zero) v b → (k : ℕ) → Sought v (λ i. row (suc i)) n k → Sought v row (suc n) (pick b zero (suc k))
    go true (it e) k s = inl (omega arith, e)
    go false (other e) k (inl s) = inl (omega (arith, s.0), s.1)
    go false (other e) k (inr s) = inr (ap suc s.0, later v row n e s.1)

pub close_beyond : (row : ℕ → ℕ) (n k : ℕ) → Packed row n → n ≤ k → close k row ≡ row
close_beyond row n k p h = fun_ext λ i. go i (ltb i k) (below i k)
  where
    go : (i : ℕ) (b : Bool) → Below i k b → pick b (row i) (row (suc i)) ≡ row i
    go i true (under e) = refl
    go i false (over e) = p.rest (suc i) (omega arith) ∙ sym (p.rest i (omega arith))

module _ (v : ℕ) (row : ℕ → ℕ) (n : ℕ) (p : Packed row n) where
  pub without_packed : Packed (without v row n) (left v row n)
  without_packed = go (ltb (seek v row n) n) (below (seek v row n) n)
    where
      go : (b : Bool) → Below (seek v row n) n b → Packed (without v row n) (pick b (pred n) n)
      go true (under h) = close_packed row n (seek v row n) p h
      go false (over h) = rw (close_beyond row n (seek v row n) p h) p

  pub without_member : (c : ℕ) → Member (without v row n) (left v row n) c → Member row n c × (c ≢ v)
  without_member c = go (ltb (seek v row n) n) (below (seek v row n) n) (sought v row n)
    where
      go : (b : Bool) → Below (seek v row n) n b → Sought v row n (seek v row n) → Member (without v row n) (pick b (pred n) n) c
          → Member row n c × (c ≢ v)
      go true (under h) (inl s) m = rw s.1 at (close_member row n (seek v row n) p h c m)
      go true (under h) (inr s) m = absurd (omega (arith, s.0))
      go false (over h) (inl s) m = absurd (omega (arith, s.0))
      go false (over h) (inr s) m =
          let m' : Member row n c = subst (λ (r : ℕ → ℕ). Member r n c) (close_beyond row n (seek v row n) p h) m in
          (m', λ z. s.1 m'.0 m'.1 (m'.2 ∙ z))

  pub without_fewer : left v row n ≤ n
  without_fewer = go (ltb (seek v row n) n)
    where
      go : (b : Bool) → pick b (pred n) n ≤ n
      go true = let h : pred n ≤ n = omega arith in h
      go false = let h : n ≤ n = omega arith in h

-- `seek` stops at the first v; the first zero of a packed row of eight is the number of its used places
pub before : (v : ℕ) (row : ℕ → ℕ) (n i : ℕ) → i < seek v row n → row i ≢ v
unfolding seek
before v row zero i h = absurd (not-suc-le-zero h)
before v row (suc n) i h = go (eqb (row zero) v) (same (row zero) v) (before v (λ j. row (suc j)) n) i h
  where
    go : (b : Bool) → Same (row zero) v b → ((j : ℕ) → j < seek v (λ j. row (suc j)) n → row (suc j) ≢ v) → (i : ℕ)
        → i < pick b zero (suc (seek v (λ j. row (suc j)) n)) → row i ≢ v
    go true (it e) ih i h = absurd (not-suc-le-zero h)
    go false (other e) ih zero h = e
    go false (other e) ih (suc i) h = ih i (le_of_suc-le-suc h)

pub first_zero : (row : ℕ → ℕ) (n : ℕ) → Packed row n → seek 0 row place_count ≡ n
first_zero row n p = go (seek 0 row place_count) (before 0 row place_count) (sought 0 row place_count)
  where
    ge : (k : ℕ) → ((i : ℕ) → i < k → row i ≢ 0) → k ≤ n
    ge k b = let h : ¬ (n < k) = λ l. b n l (p.rest n (le_refl n)) in omega arith

    go : (k : ℕ) → ((i : ℕ) → i < k → row i ≢ 0) → Sought 0 row place_count k → k ≡ n
    go k b (inl s) = let h : ¬ (k < n) = λ l. omega (arith, p.used k l, s.1) in omega (arith, ge k b)
    go k b (inr s) = omega (arith, ge k b, s.0, p.room)

pub close_each : (P : ℕ → Type 0) (row : ℕ → ℕ) (n k : ℕ) → ((i : ℕ) → i < n → P (row i)) → (i : ℕ) → i < pred n → P (close k row i)
close_each P row n k old i h = go (ltb i k)
  where
    go : (b : Bool) → P (pick b (row i) (row (suc i)))
    go true = old i (omega arith)
    go false = old (suc i) (omega arith)

-- to put v where it stands changes nothing
pub replace_same : (row : ℕ → ℕ) (k v : ℕ) → row k ≡ v → replace k v row ≡ row
replace_same row k v e = fun_ext λ i. go i (eqb i k) (same i k)
  where
    go : (i : ℕ) (b : Bool) → Same i k b → pick b v (row i) ≡ row i
    go i true (it q) = sym (ap row q ∙ e)
    go i false (other q) = refl

-- a row in which v does not stand is the same without v, and so is the number of its used places
pub without_none : (v : ℕ) (row : ℕ → ℕ) (n : ℕ) → Packed row n → (Member row n v → ⊥) → (left v row n ≡ n) × (without v row n ≡ row)
without_none v row n p none = go (ltb (seek v row n) n) (below (seek v row n) n) (sought v row n)
  where
    go : (b : Bool) → Below (seek v row n) n b → Sought v row n (seek v row n) → (pick b (pred n) n ≡ n) × (without v row n ≡ row)
    go true (under h) (inl s) = absurd (none (seek v row n, s.0, s.1))
    go true (under h) (inr s) = absurd (omega (arith, s.0))
    go false (over h) s = (refl, close_beyond row n (seek v row n) p h)
