-- The walk finds every reference of its question, and nothing else, in order: so it makes the complete list of each test that asks the same.
use Rattle.std.specs.Prelude.{Bool, false, true, ◌≡◌, refl}
use mathlib.Core.List.Memᴰ
use mathlib.Core.List.{List, Memᴰ}
use mathlib.Core.List.{[], ◌∷◌, map}
use Rattle.std.proofs.Common.{inl, ◌∙◌, ap, sym, eq-or-lt_of_le}
use Rattle.std.proofs.Math.Logic.{⊎_elim}
use Rattle.std.proofs.Math.Path.{subst}
use Prim.Native.Nat.{◌<◌, ◌≤◌, pred, suc, zero, ℕ}
use native.Mathlib.Omega.{arith}
use Rattle.std.proofs.Math.Dec.{T}
use Rattle.std.proofs.Math.ListN.{length}
use Rattle.model.specs.Basics.Agree.{Agrees, agrees_T, agrees_and, agrees_le}
use Rattle.model.specs.Basics.TestLaws.{holds_true, is_true}
use Rattle.model.specs.List.Complete.{Complete}
use Rattle.model.specs.List.Order.{Before, Sorted}
use Rattle.model.specs.List.OrderLaws.{mem_under, sorted_append, sorted_under, under_mem}
use Rattle.model.specs.List.Walk.{arrives, here, reached, through, visit, walk}
use Rattle.model.specs.Request.Words.{name_count}

-- What is found through the names 1 to n begins with one of them,
mem_through : (n : ℕ) (f : ℕ → List (List ℕ)) (x : List ℕ) → Memᴰ x (through n f)
    → (p : ℕ) × (y : List ℕ) × (1 ≤ p) × (p ≤ n) × (x ≡ p ∷ y) × Memᴰ y (f p)
unfolding through
mem_through zero f x m = absurd (Memᴰ.not-nil m)
mem_through (suc n) f x m =
    ⊎_elim (λ k. let (p, y, a, b, e, i) = mem_through n f x k in (p, y, a, omega arith, e, i))
    (λ k. let (y, e, i) = mem_under (suc n) (f (suc n)) x k in (suc n, y, omega arith, omega arith, e, i))
    (Memᴰ.append_cases (through n f) m)

-- all that does is found,
through_mem : (n : ℕ) (f : ℕ → List (List ℕ)) (p : ℕ) (y : List ℕ) → 1 ≤ p → p ≤ n → Memᴰ y (f p) → Memᴰ (p ∷ y) (through n f)
unfolding through
through_mem zero f p y a b m = absurd (omega arith)
through_mem (suc n) f p y a b m =
    ⊎_elim (λ e. Memᴰ.append_right (through n f)
    (Memᴰ.cast (ap (λ (q : ℕ). q ∷ y) e) (under_mem (suc n) (f (suc n)) y (subst (λ (q : ℕ). Memᴰ y (f q)) e m))))
    (λ l. Memᴰ.append_left (map (λ r. suc n ∷ r) (f (suc n))) (through_mem n f p y a (omega arith) m))
    (eq-or-lt_of_le b)

-- and it is in order.
sorted_through : (n : ℕ) (f : ℕ → List (List ℕ)) → ((p : ℕ) → Sorted (f p)) → Sorted (through n f)
unfolding through
sorted_through zero f s = tt
sorted_through (suc n) f s =
    sorted_append (through n f) (map (λ r. suc n ∷ r) (f (suc n))) (sorted_through n f s) (sorted_under (suc n) (f (suc n)) (s (suc n)))
    (λ a b i j. let (p, y, u, v, e, k) = mem_through n f a i in let (z, d, l) = mem_under (suc n) (f (suc n)) b j in
    less p (suc n) y z a b e d (omega arith))
  where
    less : (p q : ℕ) (y z a b : List ℕ) → a ≡ p ∷ y → b ≡ q ∷ z → p < q → Before a b
    less p q y z a b e d l = subst (λ (t : List ℕ). Before t b) (sym e) (subst (Before (p ∷ y)) (sym d) (inl l))

-- the same of the continuation by no name
mem_here : (b : Bool) (r : List ℕ) → Memᴰ r (here b) → (r ≡ []) × T b
mem_here true r m = ⊎_elim (λ e. (e, tt)) (λ k. absurd (Memᴰ.not-nil k)) (Memᴰ.cases_cons m)
mem_here false r m = absurd (Memᴰ.not-nil m)

here_mem : (b : Bool) → T b → Memᴰ [] (here b)
here_mem true t = Memᴰ.head refl
here_mem false t = absurd t

sorted_here : (b : Bool) → Sorted (here b)
sorted_here true = (λ s m. absurd (Memᴰ.not-nil m), tt)
sorted_here false = tt

module _ (ways : ℕ → ℕ) (next : ℕ → ℕ → ℕ) (good : ℕ → Bool) where
  -- one name further, and a whole reference
  arrives_further : (e p : ℕ) (ps : List ℕ)
      → Agrees (arrives ways next good e (p ∷ ps)) (((1 ≤ p) × (p ≤ ways e)) × T (arrives ways next good (next e p) ps))
  unfolding arrives
  arrives_further e p ps = agrees_and (agrees_and (agrees_le 1 p) (agrees_le p (ways e))) (agrees_T (arrives ways next good (next e p) ps))

  reached_first : (n e : ℕ) (ps : List ℕ) → Agrees (reached ways next good n (e ∷ ps)) (((1 ≤ e) × (e ≤ n)) × T (arrives ways next good e ps))
  unfolding reached
  reached_first n e ps = agrees_and (agrees_and (agrees_le 1 e) (agrees_le e n)) (agrees_T (arrives ways next good e ps))

  -- A visit with k names left finds continuations of at most so many names that arrive,
  here_only : (k e : ℕ) (r : List ℕ) → (r ≡ []) × T (good e) → (length r ≤ k) × T (arrives ways next good e r)
  unfolding arrives
  here_only k e r h = subst (λ (t : List ℕ). (length t ≤ k) × T (arrives ways next good e t)) (sym h.0) (omega arith, h.1)

  visit_only : (k e : ℕ) (r : List ℕ) → Memᴰ r (visit ways next good k e) → (length r ≤ k) × T (arrives ways next good e r)
  unfolding visit
  visit_only zero e r m = here_only zero e r (mem_here (good e) r m)
  visit_only (suc k) e r m =
      ⊎_elim (λ i. here_only (suc k) e r (mem_here (good e) r i))
      (λ i. let (p, y, a, b, d, j) = mem_through (ways e) (λ p. visit ways next good k (next e p)) r i in
      further p y a b d (visit_only k (next e p) y j)) (Memᴰ.append_cases (here (good e)) m)
    where
      further : (p : ℕ) (y : List ℕ) → 1 ≤ p → p ≤ ways e → r ≡ p ∷ y → (length y ≤ k) × T (arrives ways next good (next e p) y)
          → (length r ≤ suc k) × T (arrives ways next good e r)
      further p y a b d h = subst (λ (t : List ℕ). (length t ≤ suc k) × T (arrives ways next good e t)) (sym d)
          (omega (arith, h.0), (arrives_further e p y).from ((a, b), h.1))

  -- and all of them,
  visit_every : (k e : ℕ) (r : List ℕ) → length r ≤ k → T (arrives ways next good e r) → Memᴰ r (visit ways next good k e)
  unfolding visit arrives
  visit_every zero e [] l t = here_mem (good e) t
  visit_every zero e (p ∷ ps) l t = absurd (omega arith)
  visit_every (suc k) e [] l t = Memᴰ.append_left (through (ways e) (λ q. visit ways next good k (next e q))) (here_mem (good e) t)
  visit_every (suc k) e (p ∷ ps) l t =
      let h = (arrives_further e p ps).to t in
      Memᴰ.append_right (here (good e)) (through_mem (ways e) (λ q. visit ways next good k (next e q)) p ps h.0.0 h.0.1
      (visit_every k (next e p) ps (omega arith) h.1))

  -- in order.
  visit_sorted : (k e : ℕ) → Sorted (visit ways next good k e)
  unfolding visit
  visit_sorted zero e = sorted_here (good e)
  visit_sorted (suc k) e =
      sorted_append (here (good e)) (through (ways e) (λ p. visit ways next good k (next e p))) (sorted_here (good e))
      (sorted_through (ways e) (λ p. visit ways next good k (next e p)) (λ p. visit_sorted k (next e p)))
      (λ a b i j. let (p, y, u, v, d, l) = mem_through (ways e) (λ p. visit ways next good k (next e p)) b j in
      first a b p y (mem_here (good e) a i).0 d)
    where
      first : (a b : List ℕ) (p : ℕ) (y : List ℕ) → a ≡ [] → b ≡ p ∷ y → Before a b
      first a b p y h d = subst (λ (t : List ℕ). Before t b) (sym h) (subst (Before []) (sym d) tt)

  -- The same of whole references of at most one name more than k.
  walk_only : (k n : ℕ) (r : List ℕ) → Memᴰ r (walk ways next good k n) → (1 ≤ length r) × (length r ≤ suc k) × T (reached ways next good n r)
  unfolding walk
  walk_only k n r m =
      let (e, y, a, b, d, j) = mem_through n (visit ways next good k) r m in
      let h = visit_only k e y j in
      subst (λ (t : List ℕ). (1 ≤ length t) × (length t ≤ suc k) × T (reached ways next good n t)) (sym d)
      (omega arith, omega (arith, h.0), (reached_first n e y).from ((a, b), h.1))

  walk_every : (k n : ℕ) (r : List ℕ) → 1 ≤ length r → length r ≤ suc k → T (reached ways next good n r) → Memᴰ r (walk ways next good k n)
  unfolding walk
  walk_every k n [] a b t = absurd (omega arith)
  walk_every k n (e ∷ ps) a b t =
      let h = (reached_first n e ps).to t in
      through_mem n (visit ways next good k) e ps h.0.0 h.0.1 (visit_every k e ps (omega arith) h.1)

  -- Rules 10.3 to 10.6: the walk makes the complete list of every test that is the walk's own question.
  pub walk_complete : (n : ℕ) (test : List ℕ → Bool) → ((r : List ℕ) → 1 ≤ length r → length r ≤ name_count → test r ≡ reached ways next good n r)
      → Complete test (walk ways next good (pred name_count) n)
  unfolding walk
  walk_complete n test asks = record {
    every = λ r a b h. walk_every (pred name_count) n r a b (subst T (asks r a b) (is_true (test r) h));
    only = λ r m. let h = walk_only (pred name_count) n r m in (h.0, h.1, asks r h.0 h.1 ∙ holds_true (reached ways next good n r) h.2);
    sorted = sorted_through n (visit ways next good (pred name_count)) (visit_sorted (pred name_count));
  }
