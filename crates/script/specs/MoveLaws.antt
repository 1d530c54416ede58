-- Bytes moved to the front of a buffer, one by one or in one go.
use Rattle.std.specs.Prelude.{List, [], ◌++◌, ◌∷◌, ◌≢◌, ◌≡◌, refl, ◌+◌, ◌-◌, ◌<◌, ◌≤◌, suc, zero, ℕ, drop, get_or, length, set, take}
use Rattle.std.proofs.Common.{◌∙◌, ap, sym, arith, add-one, length-drop, length-set, get_or-drop, get_or-set_other, get_or-set_same, take-suc}
use Rattle.std.specs.List.{copy_within}
use Rattle.std.proofs.lemmas.List.{length-take-le, take_at, take-set-le}

-- a store after the first i elements is one element more
pub store_next : (r : List ℕ) (i v : ℕ) → i < length r → take (i + 1) (set r i v) ≡ take i r ++ (v ∷ [])
store_next r i v h =
    let z : i + 0 ≡ i = omega arith in
    let kept : take i (set r i v) ≡ take i r = ap (λ (j : ℕ). take i (set r j v)) (sym z) ∙ take-set-le i r (i + 0) v (omega arith) in
    rw (add-one i) (take-suc (set r i v) i 0 (rw (length-set r i v) h) ∙ rw (kept, get_or-set_same r i v 0 h) refl)

-- the front of r is that of d, and one element more
front_more : (r d : List ℕ) (i v : ℕ) → i < length r → i < length d → take i r ≡ take i d → v ≡ get_or d i 0 → take (i + 1) (set r i v) ≡ take (i + 1) d
front_more r d i v h l e q = store_next r i v h ∙ rw (e, q, add-one i) (sym (take-suc d i 0 l))

take_none : (n : ℕ) → [] ≡ take {A = ℕ} n []
take_none zero = refl
take_none (suc n) = refl

drop_front : (w : List ℕ) (from len : ℕ) → from ≤ len → drop from (take len w) ≡ take (len - from) (drop from w)
drop_front w zero len h = let e : len ≡ len - 0 = omega arith in ap (λ (k : ℕ). take k w) e
drop_front [] (suc k) zero h = absurd (omega arith)
drop_front (x ∷ w) (suc k) zero h = absurd (omega arith)
drop_front [] (suc k) (suc n) h = take_none (suc n - suc k)
drop_front (x ∷ w) (suc k) (suc n) h = let e : n - k ≡ suc n - suc k = omega arith in drop_front w k n (omega arith) ∙ ap (λ (i : ℕ). take i (drop k w)) e

-- What holds while bytes of w are moved: i of them stand at the front of r, and those from j on are as they were.
pub record Moved (w r : List ℕ) (from i j : ℕ) : Type 0 where
  pub step : i + from ≡ j
  pub long : length r ≡ length w
  pub front : take i r ≡ take i (drop from w)
  pub behind : (k : ℕ) → j ≤ k → get_or r k 0 ≡ get_or w k 0

pub moved_start : (w : List ℕ) (from : ℕ) → Moved w w from 0 from
moved_start w from = record { step = omega arith; long = refl; front = refl; behind = λ k h. refl }

pub moved_more : {w r : List ℕ} {from i j : ℕ} → Moved w r from i j → j < length w → Moved w (set r i (get_or r j 0)) from (i + 1) (j + 1)
moved_more {w} {r} {from} {i} {j} m h =
    let e : i + from ≡ j = m.step in
    let f : from + i ≡ j = omega arith in
    let l : length r ≡ length w = m.long in
    let b : get_or r j 0 ≡ get_or (drop from w) i 0 = m.behind j (omega arith) ∙ ap (λ (k : ℕ). get_or w k 0) (sym f) ∙ sym (get_or-drop from w i 0) in
    record {
      step = omega arith;
      long = length-set r i (get_or r j 0) ∙ l;
      front = front_more r (drop from w) i (get_or r j 0) (omega arith) (rw (length-drop from w) (omega arith)) m.front b;
      behind = λ k g. let n : k ≢ i = λ q. omega arith in get_or-set_other r i k (get_or r j 0) 0 n ∙ m.behind k (omega arith);
    }

pub moved_all : {w r : List ℕ} {from i j len : ℕ} → Moved w r from i j → from ≤ len → j ≡ len
    → (i ≡ len - from) × (take i r ≡ drop from (take len w))
moved_all {w} {r} {from} {i} {j} {len} m h e =
    let s : i + from ≡ j = m.step in
    let n : i ≡ len - from = omega arith in
    (n, m.front ∙ ap (λ (k : ℕ). take k (drop from w)) n ∙ sym (drop_front w from len h))

-- the bytes that are left, copied to the front in one go
pub front_kept : (w : List ℕ) (from len : ℕ) → from ≤ len → len ≤ length w → take (len - from) (copy_within w from len 0) ≡ drop from (take len w)
front_kept w from len h l =
    let n : length (take (len - from) (drop from w)) ≡ len - from = length-take-le (len - from) (drop from w) (rw (length-drop from w) (omega arith)) in
    take_at (take (len - from) (drop from w)) _ (len - from) n ∙ sym (drop_front w from len h)
